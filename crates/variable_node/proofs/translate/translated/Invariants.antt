-- `translated`: the blocks before this one are written.
use Rattle.std.proofs.Common.{◌*◌, get_or}
use Rattle.gf64.specs.Field.{◌⊕◌}
use Rattle.reorder.specs.Order.{Mapped}
use Rattle.variable_node.proofs.translate.translated.Given as goal

abbrev pub invariant-loop-block : goal.invariant-loop-block
invariant-loop-block l = Mapped (λ b _. get_or l.v (b ⊕ l.symbol) 0) 0 (8 * l.block) l.initial.r l.r
