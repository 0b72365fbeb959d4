-- `column_steps`: four steps more in a turn.
use Rattle.check_node.proofs.StepLaws.{column_none, column_more}
use Rattle.check_node.proofs.steps.column_steps.Goals as goal

pub loop-j-init : goal.loop-j-init
loop-j-init c = column_none _ _ _ c.told-held

pub loop-j-preserved : goal.loop-j-preserved
loop-j-preserved c = column_more c.args.copies.now c.args.d.now c.args.column c.loop-j.j c.loop-j.invariant c.all_steps.ensures
