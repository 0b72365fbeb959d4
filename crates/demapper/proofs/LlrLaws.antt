-- The laws of a symbol's penalties: the raw ones, sample by sample and by the base, and what holds of the 64 that are weighed.
use mathlib.Core.Path.{◌≡◌, sym, ap, ap₂, ◌∙◌, subst}
use mathlib.Core.Bool.{Bool, true, false, cond}
use mathlib.Core.List.{List}
use Prim.Native.Nat.{ℕ, ◌+◌, ◌*◌, ◌/◌, ◌%◌, ◌-◌, ◌^◌, ◌≤◌, ◌<◌, min}
use native.Mathlib.Nat.{le_refl, min-le_right, zero-div, zero-mul, min-eq_left}
use native.Mathlib.Omega.{arith}
use lib.Dec.{eqb}
use lib.IntN.{ℤ, pos}
use lib.ListN.{length, get_or}
use Rattle.vector.specs.Vector.{sum_to, less_least}
use Rattle.vector.proofs.Laws.{length_tabulate, get_d_tabulate, tabulate_ext, sum_ext, sum_more, less_least_zero}
use Rattle.ccsk.specs.Chips.{chip, symbol_chip}
use Rattle.demapper.specs.Samples.{hard_chip, magnitude, added, raw, raw_llrs, quantised, quantised_llrs, llrs}
use Rattle.demapper.specs.Parts.{chips_twice, added_at, raw_to, with_sample, llrs_by}

-- a sample adds at most its size
pub added_le : (c h n : ℕ) → added c h n ≤ n
unfolding added
added_le c h n = go (eqb h c)
  where
    go : (b : Bool) → cond b 0 n ≤ n
    go true = omega arith
    go false = le_refl n

-- the sums with one sample more, made from those of the first k samples
module _ (chips : List ℕ) (samples : List ℤ) (k : ℕ) (sums next : List ℕ) (hard size : ℕ) (made : next ≡ with_sample sums chips k hard size) where
  -- are those of one sample more
  pub raw_more : sums ≡ raw_to chips samples k → hard ≡ hard_chip (get_or samples k (pos 0)) → size ≡ magnitude (get_or samples k (pos 0)) → next ≡ raw_to chips samples (k + 1)
  unfolding with_sample raw_to added_at
  raw_more e p q =
      made ∙ tabulate_ext 64 _ _ (λ s l.
      ap₂ (λ (x y : ℕ). x + y) (ap (λ (v : List ℕ). get_or v s 0) e ∙ get_d_tabulate 0 64 (λ i. sum_to k (added_at chips samples i)) s l) (ap₂ (added (get_or chips (k + s) 0)) p q)
      ∙ sym (sum_more k (added_at chips samples s)))

  -- and none is above 127 × (k + 1)
  pub raw_small : ((s : ℕ) → s < 64 → get_or sums s 0 ≤ 127 * k) → size ≤ 127 → (s : ℕ) → s < 64 → get_or next s 0 ≤ 127 * (k + 1)
  unfolding with_sample
  raw_small h few s l =
      let e = ap (λ (v : List ℕ). get_or v s 0) made ∙ get_d_tabulate 0 64 (λ i. get_or sums i 0 + added (get_or chips (k + i) 0) hard size) s l in
      let a = h s l in
      let b = added_le (get_or chips (k + s) 0) hard size in
      omega arith

-- by the chips of the base twice over, the raw penalties are those of the base
pub raw_by_base : (base : ℕ) (samples : List ℤ) → raw_to (chips_twice base) samples 64 ≡ raw_llrs base samples
unfolding raw_to added_at raw_llrs raw chips_twice symbol_chip
raw_by_base base samples =
    tabulate_ext 64 _ _ (λ s l. sum_ext 64 _ _ (λ k h.
    ap (λ (c : ℕ). added c (hard_chip (get_or samples k (pos 0))) (magnitude (get_or samples k (pos 0)))) (get_d_tabulate 0 128 (λ j. chip base (j % 64)) (k + s) (omega arith))))

-- so are the 64 penalties
pub by_base : (base top bottom qc : ℕ) (samples : List ℤ) → llrs_by (chips_twice base) top bottom qc samples ≡ llrs base top bottom qc samples
unfolding llrs
by_base base top bottom qc samples = ap (λ (v : List ℕ). quantised_llrs top bottom qc (less_least v)) (raw_by_base base samples)

-- 0 times the gain, rounded down and capped, is 0
pub quantised_zero : (top bottom qc : ℕ) → quantised top bottom qc 0 ≡ 0
unfolding quantised
quantised_zero top bottom qc =
    ap (λ (x : ℕ). min x (2 ^ qc - 1)) (ap (λ (x : ℕ). x / bottom) (zero-mul top) ∙ zero-div bottom) ∙ min-eq_left (omega arith)

module _ (base top bottom qc : ℕ) (samples : List ℤ) where
  -- there are 64
  pub length_llrs : length (llrs base top bottom qc samples) ≡ 64
  unfolding llrs quantised_llrs
  length_llrs = length_tabulate 64 _

  -- one of them, from the raw penalties less the least
  pub llr_entry : (s : ℕ) → s < 64 → get_or (llrs base top bottom qc samples) s 0 ≡ quantised top bottom qc (get_or (less_least (raw_llrs base samples)) s 0)
  unfolding llrs quantised_llrs
  llr_entry s l = get_d_tabulate 0 64 _ s l

  -- none is above 2^Qc − 1
  pub llr_small : (s : ℕ) → s < 64 → get_or (llrs base top bottom qc samples) s 0 ≤ 2 ^ qc - 1
  unfolding quantised
  llr_small s l = subst (λ (x : ℕ). x ≤ 2 ^ qc - 1) (sym (llr_entry s l)) (min-le_right (get_or (less_least (raw_llrs base samples)) s 0 * top / bottom) (2 ^ qc - 1))

  -- one is 0
  pub llr_zero : (s : ℕ) × (s < 64) × (get_or (llrs base top bottom qc samples) s 0 ≡ 0)
  llr_zero =
      let p = less_least_zero (raw_llrs base samples) in
      (p.0, p.1, llr_entry p.0 p.1 ∙ ap (quantised top bottom qc) p.2 ∙ quantised_zero top bottom qc)
