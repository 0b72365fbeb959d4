-- The laws of an answer with one value.
use mathlib.Core.Path.{◌≡◌, sym, ap, ap₂, ◌∙◌}
use mathlib.Core.List.{List, [], ◌∷◌}
use Prim.Native.Nat.{ℕ}
use Rattle.refusal.proofs.Laws.{when_accepted, when_refused}
use Rattle.std.proofs.Common.{Err}
use Rattle.refusal.specs.Kinds.{number_of, returned}
use Rattle.refusal.specs.declared.kinds.Refusal.{Refusal}
use Rattle.refusal.proofs.KindLaws.{number_nonzero}
use Rattle.distances.specs.Distance.{answered}

module _ {number : ℕ} (value : ℕ) where
  -- an accepted call: the value
  pub answered_value : {v : ℕ} → number ≡ 0 → v ≡ value → record { number = 0; values = v ∷ [] } ≡ answered number value
  unfolding answered
  answered_value {v} e f =
      ap₂ (λ (n : ℕ) (vs : List ℕ). record { number = n; values = vs }) (sym e)
      (ap (λ (x : ℕ). x ∷ []) f ∙ sym (when_accepted number (value ∷ []) [] e))

  -- a refused one: the number alone
  pub answered_number : {r : ℕ} → r ≡ number → (r ≡ 0 → ⊥) → record { number = r; values = [] } ≡ answered number value
  unfolding answered
  answered_number {r} e h =
      ap₂ (λ (n : ℕ) (vs : List ℕ). record { number = n; values = vs }) e
      (sym (when_refused number (value ∷ []) [] (λ z. h (e ∙ z))))

  -- the same of a refusal
  pub answered_err : (r : Refusal) → number_of r ≡ number → returned (Err r) ≡ answered number value
  answered_err r e = answered_number e (number_nonzero r)
