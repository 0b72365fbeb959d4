-- With all of them filled the list is whole.
use Rattle.vector.proofs.Laws.{fill_all}
use Rattle.demapper.specs.Samples.{quantised_llrs}
use Rattle.demapper.proofs.samples.quantise.Goals as goal

pub returns : goal.returns
unfolding quantised_llrs
returns c = fill_all c.loop-s.invariant c.loop-s-test.false
