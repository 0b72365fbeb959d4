-- What each call leaves goes into the next (SendLaws).
use Rattle.loopback.proofs.SendLaws.{sent_for}
use Rattle.loopback.proofs.chain.send_with.Goals as goal

pub returns : goal.returns
returns c = sent_for c.s.view_is c.requires c.encode.ensures c.spread.ensures c.write_samples.ensures
