-- With all of them filled the list is whole.
use Rattle.vector.proofs.Laws.{fill_all}
use Rattle.demapper.specs.Parts.{with_sample}
use Rattle.demapper.proofs.samples.with_sample.Goals as goal

pub returns : goal.returns
unfolding with_sample
returns c = fill_all c.loop-s.invariant c.loop-s-test.false
