-- One byte more, and what the least and the greatest say at the end.
use Rattle.refusal.proofs.Within.{ranged_more, ranged_all}
use Rattle.refusal.proofs.limits.any_outside.Goals as goal

pub loop-x-preserved : goal.loop-x-preserved
loop-x-preserved c = ranged_more _ _ _ _ _ _ _ _ c.loop-x-test.true c.min-least.ensures c.max-most.ensures c.loop-x.invariant

pub returns-else-least-low : goal.returns-else-least-low
returns-else-least-low c = ranged_all _ _ _ _ _ _ c.loop-x-test.false c.if-least-low.false c.loop-x.invariant
