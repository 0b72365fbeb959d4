-- `block_sums`: the values before i of the block have their sums.
use Rattle.std.proofs.Common.{◌+◌, ◌*◌}
use Rattle.reorder.specs.Order.{Mapped}
use Rattle.short_check_node.specs.Masks.{with_sum}
use Rattle.short_check_node.proofs.sums.block_sums.Given as goal

abbrev pub invariant-loop-i : goal.invariant-loop-i
invariant-loop-i l = Mapped (with_sum l.copies l.x l.fn.c) (8 * l.block) (8 * l.block + l.i) l.fn.held l.held
