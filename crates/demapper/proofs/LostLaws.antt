-- Lost samples: which samples keep their magnitude, what −128 and 0 add, and what is weighed where samples were lost.
use mathlib.Core.Path.{◌≡◌, refl, sym, ap, ap₂, ◌∙◌, subst}
use mathlib.Core.Logic.{inl, inr}
use mathlib.Core.Bool.{Bool, true, false, cond, ◌&&◌}
use mathlib.Core.List.{List}
use Prim.Native.Nat.{ℕ, suc, ◌+◌, ◌*◌, ◌/◌, ◌-◌, ◌<◌, ◌≤◌}
use native.Mathlib.Nat.{zero-sub}
use native.Mathlib.Omega.{arith}
use borrow.Author.Tests.{eqb-true, ne_eqb, le-ltb}
use lib.Dec.{eqb}
use lib.IntN.{ℤ, pos, negsuc, nat_abs}
use lib.ListN.{length, get_or, replicate}
use lib.Signed.{lt_z}
use Rattle.vector.specs.Vector.{tabulate, sum_to, joined, vector_at, less_least, least}
use Rattle.vector.proofs.Laws.{get_d_tabulate, tabulate_ext, joined_ext, sum_ext, less_least_at}
use Rattle.vector.proofs.SliceLaws.{vector_entry_of}
use Rattle.refusal.specs.Table.{refusal_of}
use Rattle.ccsk.specs.Chips.{symbol_chip}
use Rattle.demapper.specs.Samples.{lost, is_lost, hard_chip, magnitude, added, raw, raw_llrs, quantised, quantised_llrs, llrs}
use Rattle.demapper.specs.Demap.{frame_of, demap_table, demap_refusal, demap_buffer}
use Rattle.demapper.specs.Lost.{SameOrLost, SameButLost, LostAsZero, SymbolLost, LostZeros}
use Rattle.demapper.proofs.LlrLaws.{added_le, quantised_zero}
use Rattle.demapper.proofs.FrameLaws.{frame_part}

-- ---- which samples are lost

-- −128 is found to be lost
pub lost_found : is_lost lost ≡ true
unfolding is_lost
lost_found = refl

-- and no other number
pub found_lost : (y : ℤ) → is_lost y ≡ true → y ≡ lost
unfolding is_lost
found_lost (pos n) e =
    let f : ◌≡◌ {A = Bool} false true = sym (ap (λ (b : Bool). b && eqb n 128) (le-ltb n 0 (omega arith))) ∙ e in
    absurd (let z : ◌≡◌ {A = ℕ} 0 1 = cc in omega arith)
found_lost (negsuc n) e = ap negsuc (let s = eqb-true (suc n) 128 e in let l : n ≡ 127 = omega arith in l)

-- a number that is at most 127 without its sign has that for its magnitude
pub kept_magnitude : (y : ℤ) → nat_abs y ≤ 127 → magnitude y ≡ nat_abs y
unfolding magnitude is_lost
kept_magnitude y l = ap (λ (b : Bool). cond (lt_z y (pos 0) && b) 0 (nat_abs y)) (ne_eqb (nat_abs y) 128 (λ e. absurd (omega arith))) ∙ go (lt_z y (pos 0))
  where
    go : (b : Bool) → cond (b && false) 0 (nat_abs y) ≡ nat_abs y
    go true = refl
    go false = refl

-- and is not lost
pub not_lost : (y : ℤ) → nat_abs y ≤ 127 → y ≡ lost → ⊥
not_lost y l e = let n = ap nat_abs e in absurd (omega arith)

-- ---- what they add

-- what a sample adds to the raw penalty of a symbol with the chip c there
abbrev adds : ℕ → ℤ → ℕ
adds c y = added c (hard_chip y) (magnitude y)

-- a lost sample adds nothing, whatever the chip
lost_adds : (c : ℕ) → adds c lost ≡ 0
unfolding magnitude is_lost
lost_adds c = let l = added_le c (hard_chip lost) 0 in omega arith

-- nor does a sample of 0
zero_adds : (c : ℕ) → adds c (pos 0) ≡ 0
unfolding magnitude is_lost
zero_adds c = let l = added_le c (hard_chip (pos 0)) 0 in omega arith

-- so two samples that are the same, or of which one is −128 and the other 0, add the same
same_adds : (c : ℕ) (x y : ℤ) → SameOrLost x y → adds c x ≡ adds c y
same_adds c x y (inl e) = ap (adds c) e
same_adds c x y (inr (inl p)) = ap (adds c) p.0 ∙ lost_adds c ∙ sym (ap (adds c) p.1 ∙ zero_adds c)
same_adds c x y (inr (inr p)) = ap (adds c) p.0 ∙ zero_adds c ∙ sym (ap (adds c) p.1 ∙ lost_adds c)

-- ---- samples that differ only in lost ones
module _ (one other : List ℤ) (h : SameButLost one other) where
  -- sample k of symbol i in the one and in the other
  same_at : (i k : ℕ) → i < length one / 64 → k < 64 → SameOrLost (get_or (vector_at one i) k (pos 0)) (get_or (vector_at other i) k (pos 0))
  same_at i k l s =
      subst (λ (x : ℤ). SameOrLost x (get_or (vector_at other i) k (pos 0))) (sym (vector_entry_of (pos 0) one i k s))
      (subst (λ (y : ℤ). SameOrLost (get_or one (64 * i + k) (pos 0)) y) (sym (vector_entry_of (pos 0) other i k s))
      (h.each (64 * i + k) (omega arith)))

  -- the raw penalties of symbol i
  raw_same : (base i s : ℕ) → i < length one / 64 → raw base (vector_at one i) s ≡ raw base (vector_at other i) s
  unfolding raw
  raw_same base i s l = sum_ext 64 _ _ (λ k r. same_adds (symbol_chip base s k) _ _ (same_at i k l r))

  -- its penalties
  llrs_same : (base top bottom qc i : ℕ) → i < length one / 64 → llrs base top bottom qc (vector_at one i) ≡ llrs base top bottom qc (vector_at other i)
  unfolding llrs raw_llrs
  llrs_same base top bottom qc i l =
      ap (λ (v : List ℕ). quantised_llrs top bottom qc (less_least v)) (tabulate_ext 64 _ _ (λ s r. raw_same base i s l))

  -- the frame
  frame_same : (base top bottom qc : ℕ) → frame_of base top bottom qc one ≡ frame_of base top bottom qc other
  unfolding frame_of
  frame_same base top bottom qc =
      joined_ext (length one / 64) _ _ (llrs_same base top bottom qc)
      ∙ ap (λ (n : ℕ). joined (n / 64) (λ i. llrs base top bottom qc (vector_at other i))) h.long

  -- the number that `demap` returns: of the samples their number alone counts
  refusal_same : (base top bottom qc : ℕ) (buffer : List ℕ) → demap_refusal base top bottom qc one buffer ≡ demap_refusal base top bottom qc other buffer
  unfolding demap_refusal
  refusal_same base top bottom qc buffer = ap (λ (n : ℕ). refusal_of (demap_table base top bottom qc n buffer)) h.long

-- so the two are weighed alike: what `demap` leaves in its buffer is made of the number and the frame
pub lost_as_zero : (one other : List ℤ) → LostAsZero one other
unfolding demap_buffer
lost_as_zero one other h = record {
  raw_same = raw_same one other h;
  llrs_same = llrs_same one other h;
  frame_same = frame_same one other h;
  call_same = λ base top bottom qc buffer after after₂ r r₂ d d₂.
      let number = refusal_same one other h base top bottom qc buffer in (
        d.answer ∙ number ∙ sym d₂.answer,
        d.frame
            ∙ ap₂ (λ (n : ℕ) (frame : List ℕ). cond (eqb n 0) frame buffer) number (frame_same one other h base top bottom qc)
            ∙ sym d₂.frame,
      );
}

-- ---- all samples of a symbol lost

-- 64 times nothing is nothing
no_sum : sum_to 64 (λ k. 0) ≡ 0
unfolding sum_to
no_sum = refl

module _ (base top bottom qc : ℕ) (samples : List ℤ) where
  -- each raw penalty is 0
  raw_lost : (i s : ℕ) → SymbolLost samples i → raw base (vector_at samples i) s ≡ 0
  unfolding raw
  raw_lost i s h =
      sum_ext 64 _ (λ k. 0) (λ k l. ap (adds (symbol_chip base s k)) (vector_entry_of (pos 0) samples i k l ∙ h k l) ∙ lost_adds (symbol_chip base s k))
      ∙ no_sum

  -- so each penalty is 0
  llrs_lost : (i : ℕ) → SymbolLost samples i → llrs base top bottom qc (vector_at samples i) ≡ replicate 64 0
  unfolding llrs quantised_llrs raw_llrs tabulate
  llrs_lost i h =
      tabulate_ext 64 _ (λ s. 0) (λ s l.
      let v = tabulate 64 (raw base (vector_at samples i)) in
      let z = less_least_at v s l ∙ ap (λ (x : ℕ). x - least v) (get_d_tabulate 0 64 (raw base (vector_at samples i)) s l ∙ raw_lost i s h) ∙ zero-sub (least v) in
      ap (quantised top bottom qc) z ∙ quantised_zero top bottom qc)

  -- in the frame
  symbol_zeros : (i : ℕ) → i < length samples / 64 → SymbolLost samples i → vector_at (frame_of base top bottom qc samples) i ≡ replicate 64 0
  symbol_zeros i l h = frame_part base top bottom qc samples i l ∙ llrs_lost i h

  -- a symbol whose samples were all lost has 64 zeros, and so has each place of a frame all of whose samples were lost
  pub lost_zeros : LostZeros base top bottom qc samples
  lost_zeros = record {
    symbol_zeros = symbol_zeros;
    frame_zeros = λ h i l. symbol_zeros i l (λ k s. h (64 * i + k) (omega arith));
  }
