-- One number more, and all of them.
use Rattle.decoder_refusal.proofs.RefusalLaws.{keep_more, keep_all}
use Rattle.decoder_refusal.proofs.frame.greatest.Goals as goal

pub loop-x-preserved : goal.loop-x-preserved
loop-x-preserved c = keep_more _ _ _ c.loop-x.invariant c.loop-x-test.true c.max-most.ensures

pub returns : goal.returns
returns c = keep_all _ _ _ c.loop-x.invariant c.loop-x-test.false
