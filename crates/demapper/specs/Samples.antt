-- From 64 samples to the 64 penalties of a symbol (document 01: weighing). Samples are signed bytes; a penalty is an
-- llr here.
use Rattle.std.specs.Prelude.{ℕ, ◌*◌, ◌/◌, ◌-◌, ◌^◌, min, Bool, cond, ◌&&◌, List, eqb, ℤ, pos, neg_ℤ, nat_abs, get_or}
use Rattle.std.specs.Int.Signed.{lt_z}
use Rattle.vector.specs.Vector.{tabulate, sum_to, less_least}
use Rattle.ccsk.specs.Chips.{symbol_chip}

-- the hard chip of a sample: 1 where the sample is below 0, else 0
unfoldable pub hard_chip : ℤ → ℕ
hard_chip sample = cond (lt_z sample (pos 0)) 1 0

-- what the receiver's board writes for a chip that it lost: −128 (document 02, request 02)
abbrev pub lost : ℤ
lost = neg_ℤ (pos 128)

-- whether a sample is −128: below 0, and 128 without its sign
unfoldable pub is_lost : ℤ → Bool
is_lost sample = lt_z sample (pos 0) && eqb (nat_abs sample) 128

-- the magnitude of a sample; that of −128 is 0
unfoldable pub magnitude : ℤ → ℕ
magnitude sample = cond (is_lost sample) 0 (nat_abs sample)

-- what a sample with this hard chip and this magnitude adds to the raw penalty of a symbol with this chip there: its
-- magnitude where the two chips differ
unfoldable pub added : ℕ → ℕ → ℕ → ℕ
added chip hard size = cond (eqb hard chip) 0 size

-- the raw penalty of the symbol s: the sum of the magnitudes of the samples whose hard chip differs from the chip of s
unfoldable pub raw : ℕ → List ℤ → ℕ → ℕ
raw base samples s =
    sum_to 64 (λ k. added (symbol_chip base s k) (hard_chip (get_or samples k (pos 0))) (magnitude (get_or samples k (pos 0))))

-- the 64 raw penalties, in order of value
unfoldable pub raw_llrs : ℕ → List ℤ → List ℕ
raw_llrs base samples = tabulate 64 (raw base samples)

-- one number times the gain, top over bottom, rounded down and capped at 2^Qc − 1
unfoldable pub quantised : (top bottom qc : ℕ) → ℕ → ℕ
quantised top bottom qc x = min (x * top / bottom) (2 ^ qc - 1)

-- the same for each of 64
unfoldable pub quantised_llrs : (top bottom qc : ℕ) → List ℕ → List ℕ
quantised_llrs top bottom qc v = tabulate 64 (λ s. quantised top bottom qc (get_or v s 0))

-- the 64 penalties of a symbol from its 64 samples: the raw ones, less the least of them, times the gain, rounded down,
-- capped
unfoldable pub llrs : (base top bottom qc : ℕ) → List ℤ → List ℕ
llrs base top bottom qc samples = quantised_llrs top bottom qc (less_least (raw_llrs base samples))
