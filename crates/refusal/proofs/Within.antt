-- What the tests of `Tests` say of the numbers tested.
use mathlib.Core.Path.{◌≡◌, refl, sym, ap, ap₂, ◌∙◌, subst}
use mathlib.Core.Bool.{Bool, true, false, not, ◌||◌}
use mathlib.Core.List.{List, [], ◌∷◌}
use Prim.Native.Nat.{ℕ, zero, suc, ◌+◌, ◌≤◌, ◌<◌, min, max}
use native.Mathlib.Nat.{le_of_suc-le-suc, not-suc-le-zero, zero-lt-suc}
use native.Mathlib.Decide.{dec_lt}
use native.Mathlib.Omega.{arith}
use borrow.Author.Tests.{lt-ltb, le-ltb, ltb-false, eqb-true, eq-eqb, ne_eqb, not-false}
use lib.Dec.{ltb, eqb}
use lib.ListN.{length, get_or}
use Rattle.refusal.specs.Tests.{outside, any_outside, unequal, Within}

-- no test both holds and does not
pub true_false : true ≡ false → ⊥
true_false e = let z : ◌≡◌ {A = ℕ} 0 1 = cc in absurd (omega arith)

-- the same for any test
pub not_both : {t : Bool} → t ≡ false → t ≡ true → ⊥
not_both e f = true_false (sym f ∙ e)

-- neither holds, so the first does not
pub or_left : (a b : Bool) → a || b ≡ false → a ≡ false
or_left true b e = e
or_left false b e = refl

-- nor the second
pub or_right : (a b : Bool) → a || b ≡ false → b ≡ false
or_right true b e = absurd (let z : ◌≡◌ {A = ℕ} 0 1 = cc in omega arith)
or_right false b e = e

-- the second holds, so one does
pub or_true_right : (a : Bool) {b : Bool} → b ≡ true → a || b ≡ true
or_true_right true e = refl
or_true_right false e = e

module _ (low high : ℕ) where
  -- a number below low is outside
  pub below_outside : (x : ℕ) → x < low → outside low high x ≡ true
  unfolding outside
  below_outside x l = ap (λ (b : Bool). b || ltb high x) (lt-ltb x low l)

  -- so is one above high
  pub above_outside : (x : ℕ) → high < x → outside low high x ≡ true
  unfolding outside
  above_outside x l = or_true_right (ltb x low) (lt-ltb high x l)

  -- a number within is not
  pub within_inside : (x : ℕ) → Within low high x → outside low high x ≡ false
  unfolding outside
  within_inside x w = ap₂ (λ (a b : Bool). a || b) (le-ltb x low w.least) (le-ltb high x w.most)

  -- and one that is not outside is within
  pub inside_within : (x : ℕ) → outside low high x ≡ false → Within low high x
  unfolding outside
  inside_within x e = record {
    least = ltb-false x low (or_left (ltb x low) (ltb high x) e);
    most = ltb-false high x (or_right (ltb x low) (ltb high x) e);
  }

  -- no number is outside: each place holds one within
  pub none_within : (d : ℕ) (xs : List ℕ) → any_outside low high xs ≡ false → (i : ℕ) → i < length xs → Within low high (get_or xs i d)
  unfolding any_outside
  none_within d [] e i l = absurd (not-suc-le-zero l)
  none_within d (x ∷ xs) e zero l = inside_within x (or_left (outside low high x) (any_outside low high xs) e)
  none_within d (x ∷ xs) e (suc i) l = none_within d xs (or_right (outside low high x) (any_outside low high xs) e) i (le_of_suc-le-suc l)

  -- each place holds a number within: none is outside
  pub within_none : (d : ℕ) (xs : List ℕ) → ((i : ℕ) → i < length xs → Within low high (get_or xs i d)) → any_outside low high xs ≡ false
  unfolding any_outside
  within_none d [] h = refl
  within_none d (x ∷ xs) h =
      ap₂ (λ (a b : Bool). a || b) (within_inside x (h 0 (zero-lt-suc (length xs)))) (within_none d xs (λ i l. h (suc i) (omega arith)))

-- ---- a loop that keeps the least and the greatest number

-- one number is outside, so some is
pub some_outside : (low high : ℕ) (xs : List ℕ) (i : ℕ) → i < length xs → outside low high (get_or xs i 0) ≡ true → any_outside low high xs ≡ true
some_outside low high xs i l e = go (any_outside low high xs) refl
  where
    go : (t : Bool) → any_outside low high xs ≡ t → any_outside low high xs ≡ true
    go true q = q
    go false q = absurd (not_both (within_inside low high (get_or xs i 0) (none_within low high 0 xs q i l)) e)

-- the numbers before place i are from `least` to `most`; where one of these two is outside, so is a number of the list
pub record Ranged (low high : ℕ) (xs : List ℕ) (least most i : ℕ) : Type 0 where
  pub passed : (j : ℕ) → j < i → Within least most (get_or xs j 0)
  pub too_low : least < low → any_outside low high xs ≡ true
  pub too_high : high < most → any_outside low high xs ≡ true

-- one number more
pub ranged_more : (low high : ℕ) (xs : List ℕ) (least most i least' most' : ℕ) → i < length xs → least' ≡ min least (get_or xs i 0) → most' ≡ max most (get_or xs i 0)
    → Ranged low high xs least most i → Ranged low high xs least' most' (i + 1)
ranged_more low high xs least most i least' most' l el em r = record {
  passed = λ j k. before j k (dec_lt j i);
  too_low = λ k. low_one k (dec_lt least low);
  too_high = λ k. high_one k (dec_lt high most);
}
  where
    before : (j : ℕ) → j < i + 1 → Dec (j < i) → Within least' most' (get_or xs j 0)
    before j k (yes s) = let w = r.passed j s in let a = w.least in let b = w.most in record { least = omega arith; most = omega arith }
    before j k (no s) =
        let e : i ≡ j = omega arith in
        subst (λ (p : ℕ). Within least' most' (get_or xs p 0)) e (record { least = omega arith; most = omega arith })

    low_one : least' < low → Dec (least < low) → any_outside low high xs ≡ true
    low_one k (yes s) = r.too_low s
    low_one k (no s) = some_outside low high xs i l (below_outside low high (get_or xs i 0) (omega arith))

    high_one : high < most' → Dec (high < most) → any_outside low high xs ≡ true
    high_one k (yes s) = r.too_high s
    high_one k (no s) = some_outside low high xs i l (above_outside low high (get_or xs i 0) (omega arith))

-- all numbers met, and the least is not below low: the greatest decides
pub ranged_all : (low high : ℕ) (xs : List ℕ) (least most i : ℕ) → length xs ≤ i → low ≤ least → Ranged low high xs least most i → ltb high most ≡ any_outside low high xs
ranged_all low high xs least most i l k r = go (dec_lt high most)
  where
    go : Dec (high < most) → ltb high most ≡ any_outside low high xs
    go (yes s) = lt-ltb high most s ∙ sym (r.too_high s)
    go (no s) =
        le-ltb high most (omega arith)
        ∙ sym (within_none low high 0 xs (λ j m. let w = r.passed j (omega arith) in let a = w.least in let b = w.most in record { least = omega arith; most = omega arith }))

-- ---- two lengths

-- the lengths agree: the test does not fit
pub equal_false : (a b : ℕ) → a ≡ b → unequal a b ≡ false
unfolding unequal
equal_false a b e = ap not (eq-eqb a b e)

-- they do not: it fits
pub unequal_true : (a b : ℕ) → (a ≡ b → ⊥) → unequal a b ≡ true
unfolding unequal
unequal_true a b h = ap not (ne_eqb a b h)

-- it does not fit: they agree
pub false_equal : (a b : ℕ) → unequal a b ≡ false → a ≡ b
unfolding unequal
false_equal a b e = eqb-true a b (not-false (eqb a b) e)
