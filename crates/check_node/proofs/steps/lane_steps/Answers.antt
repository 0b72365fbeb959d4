-- `lane_steps`: the value of one block more makes its steps.
use Rattle.std.proofs.Common.{arith, rules}
use Rattle.gf64.specs.Field.{◌⊕◌}
use Rattle.check_node.proofs.StepLaws.{lane_more}
use Rattle.check_node.proofs.steps.lane_steps.Goals as goal

pub loop-block-preserved : goal.loop-block-preserved
unfolding ◌⊕◌
loop-block-preserved c = lane_more c.args.d.now c.args.w.now c.args.at c.loop-block.block c.four_steps.result _ _ c.loop-block.invariant (omega arith) (search rules)
