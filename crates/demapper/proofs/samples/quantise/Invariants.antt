-- The entries before s are filled.
use Rattle.std.proofs.Common.{get_or}
use Rattle.vector.proofs.Laws.{Filled}
use Rattle.demapper.specs.Samples.{quantised}
use Rattle.demapper.proofs.samples.quantise.Given as goal

abbrev pub invariant-loop-s : goal.invariant-loop-s
invariant-loop-s l = Filled 64 (λ i. quantised l.gain.top l.gain.bottom l.qc (get_or l.v i 0)) l.r l.s
