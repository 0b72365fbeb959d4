-- `half_steps`: in each block of the half the values before i have made their steps.
use Rattle.check_node.specs.Steps.{steps_at}
use Rattle.check_node.proofs.StepLaws.{LanesMapped}
use Rattle.check_node.proofs.steps.half_steps.Given as goal

abbrev pub invariant-loop-i : goal.invariant-loop-i
invariant-loop-i l = LanesMapped (steps_at l.copies l.fn.d l.q) l.half l.i l.fn.held l.held
