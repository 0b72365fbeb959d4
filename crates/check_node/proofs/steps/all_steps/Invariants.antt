-- `all_steps`: the halves before this one have made their steps.
use Rattle.std.proofs.Common.{◌*◌}
use Rattle.reorder.specs.Order.{Mapped}
use Rattle.check_node.specs.Steps.{steps_at}
use Rattle.check_node.proofs.steps.all_steps.Given as goal

abbrev pub invariant-loop-half : goal.invariant-loop-half
invariant-loop-half l = Mapped (steps_at l.copies l.d l.q) 0 (32 * l.half) l.fn.held l.held
