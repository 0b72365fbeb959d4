-- The number of chips in which two symbols differ: it depends on their difference mod 64 alone, and for two different symbols it is at least 2 where the
-- base is not refused.
use mathlib.Core.Path.{◌≡◌, refl, ap, ap₂, ◌∙◌}
use mathlib.Core.Bool.{Bool, true, false, cond}
use Prim.Native.Nat.{ℕ, zero, suc, ◌+◌, ◌*◌, ◌%◌, ◌-◌, ◌^◌, ◌≤◌, ◌<◌, min}
use native.Mathlib.Omega.{arith}
use borrow.Author.Tests.{eq-eqb, eqb-true}
use lib.Dec.{eqb, lit<}
use Rattle.refusal.specs.Tests.{Within}
use Rattle.vector.specs.Vector.{sum_to}
use Rattle.vector.proofs.Laws.{sum_ext, sum_turn, sum_add, sum_scale, term_le}
use Rattle.ccsk.specs.Chips.{chip, symbol_chip, turned, differing, shift}
use Rattle.ccsk.proofs.ChipLaws.{symbol_chip_lt, turned_ext}
use Rattle.ccsk.proofs.BaseLaws.{same_refused}

-- 1 where chip k of the symbols s and v differs
differ : ℕ → ℕ → ℕ → ℕ → ℕ
differ base s v k = cond (eqb (symbol_chip base s k) (symbol_chip base v k)) 0 1

-- shifts that agree mod 64 move a chip to the same place
shift_same : (base s v k j : ℕ) → (k + s) % 64 ≡ (j + v) % 64 → symbol_chip base s k ≡ symbol_chip base v j
unfolding symbol_chip
shift_same base s v k j e = ap (chip base) e

module _ (base s v : ℕ) (ls : s < 64) (lv : v < 64) where
  -- two symbols differ in as many chips as the shift between them differs from shift 0
  pub by_shift : differing base s v ≡ differing base 0 (shift s v)
  unfolding differing differ shift
  by_shift =
      sum_ext 64 (differ base s v) (λ k. differ base 0 (shift s v) (k + s))
      (λ k l. ap₂ (λ (a b : ℕ). cond (eqb a b) 0 1) (shift_same base s 0 k (k + s) (omega arith)) (shift_same base v (shift s v) k (k + s) (omega arith)))
      ∙ sum_turn 64 (differ base 0 (shift s v))
      (λ k. ap₂ (λ (a b : ℕ). cond (eqb a b) 0 1) (shift_same base 0 0 (k + 64) k (omega arith)) (shift_same base (shift s v) (shift s v) (k + 64) k (omega arith))) s

-- a symbol differs from itself in no chip
pub differs_not : (base s : ℕ) → differing base s s ≡ 0
unfolding differing sum_to
differs_not base s = sum_ext 64 _ (λ k. 0) (λ k l. ap (λ (b : Bool). cond b 0 1) (eq-eqb (symbol_chip base s k) (symbol_chip base s k) refl))

-- two chips add up to 1 where they differ and twice the lesser of them
chips_add : (a b : ℕ) → a < 2 → b < 2 → a + b ≡ cond (eqb a b) 0 1 + 2 * min a b
chips_add zero zero la lb = refl
chips_add zero (suc zero) la lb = refl
chips_add (suc zero) zero la lb = refl
chips_add (suc zero) (suc zero) la lb = refl
chips_add (suc (suc a)) b la lb = absurd (omega arith)
chips_add zero (suc (suc b)) la lb = absurd (omega arith)
chips_add (suc zero) (suc (suc b)) la lb = absurd (omega arith)

module _ (base : ℕ) where
  -- every shift has as many chips 1 as shift 0
  same_weight : (d : ℕ) → sum_to 64 (symbol_chip base d) ≡ sum_to 64 (symbol_chip base 0)
  same_weight d =
      sum_ext 64 (symbol_chip base d) (λ k. symbol_chip base 0 (k + d)) (λ k l. shift_same base d 0 k (k + d) (omega arith))
      ∙ sum_turn 64 (symbol_chip base 0) (λ k. shift_same base 0 0 (k + 64) k (omega arith)) d

  -- so it differs from shift 0 in an even number of chips
  pub even : (d : ℕ) → (h : ℕ) × (differing base 0 d ≡ 2 * h)
  unfolding differing differ
  even d =
      let a = symbol_chip base 0 in
      let b = symbol_chip base d in
      let m : ℕ → ℕ = λ k. min (a k) (b k) in
      let s = sum_ext 64 (λ k. a k + b k) (λ k. differ base 0 d k + 2 * m k) (λ k l. chips_add (a k) (b k) (symbol_chip_lt base 0 k) (symbol_chip_lt base d k)) in
      let p = sum_add 64 a b in
      let q = sum_add 64 (differ base 0 d) (λ k. 2 * m k) in
      let t = sum_scale 2 64 m in
      let w = same_weight d in
      (sum_to 64 a - sum_to 64 m, omega arith)

  -- and in some, where the base is not refused: two symbols that differ in no chip are sent as the same number
  some : base < 2 ^ 64 → (turned base 32 ≡ base → ⊥) → (d : ℕ) → Within 1 63 d → differing base 0 d ≡ 0 → ⊥
  unfolding differing differ
  some fits h d w e = h (same_refused base fits (record {
    first = 0;
    second = d;
    first_symbol = lit< tt;
    second_symbol = let l = w.most in omega arith;
    different = λ q. absurd (let l = w.least in omega arith);
    same = turned_ext base 0 d (λ k l. agree (symbol_chip base 0 k) (symbol_chip base d k) (let t = term_le 64 (differ base 0 d) k l in omega arith));
  }))
    where
      agree : (a b : ℕ) → ◌≡◌ {A = ℕ} (cond (eqb a b) 0 1) 0 → a ≡ b
      agree a b q = go (eqb a b) refl q
        where
          go : (t : Bool) → eqb a b ≡ t → ◌≡◌ {A = ℕ} (cond t 0 1) 0 → a ≡ b
          go true r z = eqb-true a b r
          go false r z = absurd (omega arith)

  -- so in at least two
  pub two_differ : base < 2 ^ 64 → (turned base 32 ≡ base → ⊥) → (d : ℕ) → Within 1 63 d → 2 ≤ differing base 0 d
  two_differ fits h d w =
      let e = even d in
      let s = some fits h d w in
      at_least (differing base 0 d) e.0 e.1 s
    where
      at_least : (x y : ℕ) → x ≡ 2 * y → (x ≡ 0 → ⊥) → 2 ≤ x
      at_least x zero e n = absurd (n (omega arith))
      at_least x (suc y) e n = omega arith
