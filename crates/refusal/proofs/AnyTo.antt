-- Tests by index: one of several fits, or none does.
use mathlib.Core.Path.{◌≡◌, refl, sym, ap, ap₂, ◌∙◌}
use mathlib.Core.Logic.{◌⊎◌, inl, inr}
use mathlib.Core.Bool.{Bool, true, false, ◌||◌}
use Prim.Native.Nat.{ℕ, zero, suc, ◌<◌}
use native.Mathlib.Nat.{le_of_suc-le-suc, not-suc-le-zero, eq-or-lt_of_le, le_refl}
use native.Mathlib.Omega.{arith}
use Rattle.refusal.specs.Tests.{any_to}
use Rattle.refusal.proofs.Within.{or_left, or_right, or_true_right}

module _ (f : ℕ → Bool) where
  -- one of them fits
  pub any_there : (n i : ℕ) → i < n → f i ≡ true → any_to n f ≡ true
  unfolding any_to
  any_there zero i l e = absurd (not-suc-le-zero l)
  any_there (suc n) i l e = go (any_there n i) (eq-or-lt_of_le (le_of_suc-le-suc l))
    where
      go : (i < n → f i ≡ true → any_to n f ≡ true) → (i ≡ n) ⊎ (i < n) → any_to n f || f n ≡ true
      go ih (inl q) = or_true_right (any_to n f) (sym (ap f q) ∙ e)
      go ih (inr s) = ap (λ (t : Bool). t || f n) (ih s e)

  -- none does
  pub none_there : (n : ℕ) → ((i : ℕ) → i < n → f i ≡ false) → any_to n f ≡ false
  unfolding any_to
  none_there zero h = refl
  none_there (suc n) h = ap₂ (λ (s t : Bool). s || t) (none_there n (λ i l. h i (omega arith))) (h n (le_refl (suc n)))

  -- where none does, each does not
  pub each_not : (n : ℕ) → any_to n f ≡ false → (i : ℕ) → i < n → f i ≡ false
  unfolding any_to
  each_not zero e i l = absurd (not-suc-le-zero l)
  each_not (suc n) e i l = go (each_not n (or_left (any_to n f) (f n) e) i) (eq-or-lt_of_le (le_of_suc-le-suc l))
    where
      go : (i < n → f i ≡ false) → (i ≡ n) ⊎ (i < n) → f i ≡ false
      go ih (inl q) = ap f q ∙ or_right (any_to n f) (f n) e
      go ih (inr s) = ih s

  -- where the tests are others that say the same
  pub any_ext : (n : ℕ) (g : ℕ → Bool) → ((i : ℕ) → i < n → f i ≡ g i) → any_to n f ≡ any_to n g
  unfolding any_to
  any_ext zero g h = refl
  any_ext (suc n) g h = ap₂ (λ (s t : Bool). s || t) (any_ext n g (λ i l. h i (omega arith))) (h n (le_refl (suc n)))
