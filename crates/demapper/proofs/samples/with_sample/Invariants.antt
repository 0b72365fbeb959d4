-- The sums before s are filled.
use Rattle.std.proofs.Common.{◌+◌, get_or}
use Rattle.vector.proofs.Laws.{Filled}
use Rattle.demapper.specs.Samples.{added}
use Rattle.demapper.proofs.samples.with_sample.Given as goal

abbrev pub invariant-loop-s : goal.invariant-loop-s
invariant-loop-s l = Filled 64 (λ i. get_or l.sums i 0 + added (get_or l.chips (l.k + i) 0) l.hard l.size) l.next l.s
