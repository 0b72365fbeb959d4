-- What the demapper's parts are given and leave. Not for a reader of the promises: laws in proofs/ tie these to the
-- definitions of document 01's rules.
use Rattle.std.specs.Prelude.{ℕ, ◌+◌, ◌*◌, ◌%◌, ◌≤◌, ◌<◌, ◌≡◌, List, ℤ, pos, length, get_or}
use Rattle.refusal.specs.Tests.{Within}
use Rattle.vector.specs.Vector.{tabulate, sum_to, less_least}
use Rattle.ccsk.specs.Chips.{chip}
use Rattle.demapper.specs.Samples.{hard_chip, magnitude, added, quantised_llrs}

-- the chips of the base twice over
unfoldable pub chips_twice : ℕ → List ℕ
chips_twice base = tabulate 128 (λ j. chip base (j % 64))

-- what sample k adds to the raw penalty of s, by a list of chips
unfoldable pub added_at : List ℕ → List ℤ → (s k : ℕ) → ℕ
added_at chips samples s k =
    added (get_or chips (k + s) 0) (hard_chip (get_or samples k (pos 0))) (magnitude (get_or samples k (pos 0)))

-- the 64 raw penalties of the first k samples
unfoldable pub raw_to : List ℕ → List ℤ → ℕ → List ℕ
raw_to chips samples k = tabulate 64 (λ s. sum_to k (added_at chips samples s))

-- one sample more
unfoldable pub with_sample : List ℕ → List ℕ → (k hard size : ℕ) → List ℕ
with_sample sums chips k hard size = tabulate 64 (λ s. get_or sums s 0 + added (get_or chips (k + s) 0) hard size)

-- what is given for one sample: sums of k magnitudes of at most 127 each, and such a magnitude
pub record OneSample (sums : List ℕ) (k size : ℕ) : Type 0 where
  pub few : k < 64
  pub small : size ≤ 127
  pub sums_small : (s : ℕ) → s < 64 → get_or sums s 0 ≤ 127 * k

-- a gain and a precision that are accepted
pub record Scale (top bottom qc : ℕ) : Type 0 where
  pub gain_top : Within 1 255 top
  pub gain_bottom : Within 1 255 bottom
  pub precision : Within 1 5 qc

-- the 64 penalties by a list of chips
abbrev pub llrs_by : List ℕ → (top bottom qc : ℕ) → List ℤ → List ℕ
llrs_by chips top bottom qc samples = quantised_llrs top bottom qc (less_least (raw_to chips samples 64))

-- what the demapper is given for all symbols: whole vectors of samples, room for as many penalties, and a scale that is
-- accepted
pub record Symbols (top bottom qc : ℕ) (samples : List ℤ) (buffer : List ℕ) : Type 0 where
  pub whole : length samples % 64 ≡ 0
  pub room : length buffer ≡ length samples
  pub scale : Scale top bottom qc
