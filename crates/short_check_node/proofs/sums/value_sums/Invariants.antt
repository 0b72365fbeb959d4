-- `value_sums`: the blocks before this one have their sums.
use Rattle.std.proofs.Common.{◌*◌}
use Rattle.reorder.specs.Order.{Mapped}
use Rattle.short_check_node.specs.Masks.{with_sum}
use Rattle.short_check_node.proofs.sums.value_sums.Given as goal

abbrev pub invariant-loop-block : goal.invariant-loop-block
invariant-loop-block l = Mapped (with_sum l.copies l.x l.c) 0 (8 * l.block) l.fn.held l.held
