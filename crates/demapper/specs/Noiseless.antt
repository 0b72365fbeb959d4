-- What is sent without noise, and what is weighed from it.
use Rattle.std.specs.Prelude.{ℕ, ◌*◌, ◌/◌, ◌-◌, ◌^◌, ◌≤◌, ◌<◌, min, ◌≡◌, cond, List, eqb, ℤ, pos, neg_ℤ, length, get_or}
use Rattle.refusal.specs.Tests.{Within}
use Rattle.vector.specs.Vector.{tabulate, joined, OnlyZero}
use Rattle.ccsk.specs.Chips.{chip, symbol_chip, differing}
use Rattle.demapper.specs.Samples.{llrs}

-- the sample of a chip sent with this amplitude: +A at a chip 0, −A at a chip 1
unfoldable pub sent_sample : ℕ → ℕ → ℤ
sent_sample amplitude chip = cond (eqb chip 0) (pos amplitude) (neg_ℤ (pos amplitude))

-- the 64 samples of the symbol s
unfoldable pub sent_symbol : (base amplitude : ℕ) → ℕ → List ℤ
sent_symbol base amplitude s = tabulate 64 (λ k. sent_sample amplitude (symbol_chip base s k))

-- the samples of a list of numbers that symbols are sent as, 64 to a number: for one amplitude A, +A at each chip 0 and
-- −A at each chip 1
unfoldable pub number_samples : (amplitude : ℕ) → List ℕ → List ℤ
number_samples amplitude numbers =
    joined (length numbers) (λ i. tabulate 64 (λ k. sent_sample amplitude (chip (get_or numbers i 0) k)))

-- the samples of a list of symbols
unfoldable pub sent_samples : (base amplitude : ℕ) → List ℕ → List ℤ
sent_samples base amplitude symbols = joined (length symbols) (λ i. sent_symbol base amplitude (get_or symbols i 0))

-- the penalty of v, of the 64 that are weighed from the samples sent for s
unfoldable pub sent_llr : (base amplitude top bottom qc : ℕ) → (s v : ℕ) → ℕ
sent_llr base amplitude top bottom qc s v = get_or (llrs base top bottom qc (sent_symbol base amplitude s)) v 0

-- what is weighed without noise, for an amplitude of at most 127: 0 at the symbol sent, and at any other value the
-- floor of (amplitude × number of differing chips × top / bottom), capped
pub record Weighed (base amplitude top bottom qc s : ℕ) : Type 0 where
  pub sent : sent_llr base amplitude top bottom qc s s ≡ 0
  pub other : (v : ℕ) → v < 64
      → sent_llr base amplitude top bottom qc s v ≡ min (amplitude * differing base s v * top / bottom) (2 ^ qc - 1)

-- the premise of the noiseless statement at the symbol s: each wrong symbol's penalty is still at least 1 after
-- rounding
abbrev pub Premise : (base amplitude top bottom qc : ℕ) → ℕ → Type 0
Premise base amplitude top bottom qc s = (v : ℕ) → v < 64 → (v ≡ s → ⊥) → 1 ≤ sent_llr base amplitude top bottom qc s v

-- the same as a condition on base, amplitude and gain alone: for each shift d from 1 to 63 the gain times the amplitude
-- times the number of chips in which it differs from shift 0 is at least 1
abbrev pub Apart : (base amplitude top bottom : ℕ) → Type 0
Apart base amplitude top bottom = (d : ℕ) → Within 1 63 d → bottom ≤ amplitude * differing base 0 d * top

-- the 64 numbers are 0 at the symbol sent and nowhere else
abbrev pub Clean : (base amplitude top bottom qc : ℕ) → ℕ → Type 0
Clean base amplitude top bottom qc s = OnlyZero (llrs base top bottom qc (sent_symbol base amplitude s)) s
