-- The part of one place: empty, or the place's 64 numbers.
use mathlib.Core.Path.{◌≡◌, refl, sym, ap, ap₂, ◌∙◌}
use mathlib.Core.Bool.{Bool, true, false, cond, ◌||◌}
use mathlib.Core.List.{List, []}
use Prim.Native.Nat.{ℕ, zero, suc, ◌+◌, ◌*◌, ◌/◌, ◌%◌, ◌-◌, ◌≤◌, ◌<◌}
use native.Mathlib.Nat.{le_of_eq}
use native.Mathlib.Omega.{arith}
use borrow.Author.Tests.{lt-ltb, le-ltb, le-leb, lt-leb}
use lib.Dec.{ltb, leb}
use lib.ListN.{length, take, drop}
use borrow.Rule.Slice.Shared.{by_size}
use Rattle.vector.specs.Vector.{vector_at}
use Rattle.vector.specs.Part.{no_place, place_llrs, part_start, Handed}

-- a number that is not 0
pos : (n : ℕ) → (n ≡ 0 → ⊥) → 0 < n
pos zero h = absurd (h refl)
pos (suc n) h = omega arith

module _ (frame : List ℕ) (place : ℕ) where
  -- a slice that isn't whole vectors has no place
  pub ragged : (length frame % 64 ≡ 0 → ⊥) → no_place frame place ≡ true
  unfolding no_place
  ragged h = ap (λ (t : Bool). t || leb (length frame / 64) place) (lt-ltb 0 (length frame % 64) (pos (length frame % 64) h))

  -- nor is a place beyond it one
  pub beyond : length frame / 64 ≤ place → no_place frame place ≡ true
  unfolding no_place
  beyond h = ap (λ (t : Bool). ltb 0 (length frame % 64) || t) (le-leb (length frame / 64) place h) ∙ go (ltb 0 (length frame % 64))
    where
      go : (t : Bool) → t || true ≡ true
      go true = refl
      go false = refl

  -- any other is
  pub there : length frame % 64 ≡ 0 → place < length frame / 64 → no_place frame place ≡ false
  unfolding no_place
  there e l = ap₂ (λ (s t : Bool). s || t) (le-ltb 0 (length frame % 64) (le_of_eq e)) (lt-leb (length frame / 64) place l)

  -- its 64 numbers
  pub place_part : no_place frame place ≡ false → place_llrs frame place ≡ vector_at frame place
  unfolding place_llrs
  place_part e = ap (λ (t : Bool). cond t [] (vector_at frame place)) e

  module _ (slice : ℕ × ℕ) where
    -- what is handed out where there is no place: the empty part, from the slice's start on
    pub empty_handed : no_place frame place ≡ true → Handed frame slice place [] (slice.0, by_size 2 0 slice.1)
    unfolding place_llrs part_start
    empty_handed e = record {
      llrs = sym (ap (λ (t : Bool). cond t [] (vector_at frame place)) e);
      block = refl;
      offset = sym (ap (λ (t : Bool). cond t 0 (64 * place) * 2 + slice.1) e);
    }

    -- so it is where the slice isn't whole vectors
    pub ragged_handed : (length frame % 64 ≡ 0 → ⊥) → Handed frame slice place [] (slice.0, by_size 2 0 slice.1)
    ragged_handed h = empty_handed (ragged h)

    -- and beyond it
    pub beyond_handed : length frame / 64 ≤ place → Handed frame slice place [] (slice.0, by_size 2 0 slice.1)
    beyond_handed h = empty_handed (beyond h)

    -- where there is such a place: the 64 numbers from its start on
    pub part_handed : (start : ℕ) → length frame % 64 ≡ 0 → place < length frame / 64 → start ≡ 64 * place
        → Handed frame slice place (take (start + 64 - start) (drop start frame)) (slice.0, by_size 2 start slice.1)
    unfolding part_start vector_at
    part_handed start whole l f =
        let e = there whole l in
        let long : start + 64 - start ≡ 64 = omega arith in
        record {
          llrs = ap₂ (λ (n m : ℕ). take n (drop m frame)) long f ∙ sym (place_part e);
          block = refl;
          offset = ap (λ (n : ℕ). n * 2 + slice.1) f ∙ sym (ap (λ (t : Bool). cond t 0 (64 * place) * 2 + slice.1) e);
        }
