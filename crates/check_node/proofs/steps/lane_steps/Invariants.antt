-- `lane_steps`: the values of the blocks before this one have made their steps.
use Rattle.check_node.specs.Steps.{LaneMapped}
use Rattle.check_node.proofs.steps.lane_steps.Given as goal

abbrev pub invariant-loop-block : goal.invariant-loop-block
invariant-loop-block l = LaneMapped l.d l.w l.at l.block l.fn.held l.held
