-- The sums are those of the first k samples, each at most 127 × k.
use Rattle.std.proofs.Common.{◌≡◌, ℕ, ◌*◌, ◌<◌, ◌≤◌, get_or}
use Rattle.demapper.specs.Parts.{raw_to}
use Rattle.demapper.proofs.samples.raw_llrs.Given as goal

abbrev pub invariant-loop-k : goal.invariant-loop-k
invariant-loop-k l = record {
  made : l.sums ≡ raw_to l.chips l.samples l.k;
  small : (s : ℕ) → s < 64 → get_or l.sums s 0 ≤ 127 * l.k;
}
