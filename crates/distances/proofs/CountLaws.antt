-- The ones of an exclusive or are the chips in which two numbers differ.
use mathlib.Core.Path.{◌≡◌, refl, sym, ap, ap₂, ◌∙◌}
use mathlib.Core.Bool.{cond}
use Prim.Native.Nat.{ℕ, zero, suc, ◌+◌, ◌/◌, ◌%◌, ◌^◌, ◌<◌}
use native.Mathlib.Nat.{div-div-eq-div-mul, div-one, pow-succ'}
use native.Mathlib.Omega.{arith}
use lib.Bits.{bit_xor, differ, xor_step, xor_self}
use lib.Count.{ones, ones_step, ones-ones}
use lib.Dec.{eqb}
use Rattle.vector.specs.Vector.{sum_to}
use Rattle.vector.proofs.Laws.{sum_ext, sum_first}
use Rattle.ccsk.specs.Chips.{chip}
use Rattle.distances.specs.Between.{chips_apart}

-- 1 where chip k of two numbers differs
abbrev apart_at : (x y k : ℕ) → ℕ
apart_at x y k = cond (eqb (chip x k) (chip y k)) 0 1

-- the lowest chip of a number is its remainder by 2
chip_first : (x : ℕ) → chip x 0 ≡ x % 2
unfolding chip
chip_first x = ap (λ (n : ℕ). n % 2) (div-one x)

-- the others are those of its half
chip_next : (x k : ℕ) → chip x (suc k) ≡ chip (x / 2) k
unfolding chip
chip_next x k = ap (λ (n : ℕ). n % 2) (ap (λ (m : ℕ). x / m) (pow-succ' 2 k) ∙ sym (div-div-eq-div-mul x 2 (2 ^ k)))

-- the exclusive or of two digits is 1 where they differ
digits : (a b : ℕ) → a < 2 → b < 2 → (differ a b ≡ cond (eqb a b) 0 1) × (differ a b < 2)
digits zero zero la lb = (refl, omega arith)
digits zero (suc zero) la lb = (refl, omega arith)
digits (suc zero) zero la lb = (refl, omega arith)
digits (suc zero) (suc zero) la lb = (refl, omega arith)
digits (suc (suc a)) b la lb = absurd (omega arith)
digits zero (suc (suc b)) la lb = absurd (omega arith)
digits (suc zero) (suc (suc b)) la lb = absurd (omega arith)

-- so the lowest digit of the exclusive or is 1 where the lowest chips differ, and its half is that of the halves
lowest : (x y : ℕ) → bit_xor x y % 2 ≡ apart_at x y 0
lowest x y =
    let d = digits (x % 2) (y % 2) (omega arith) (omega arith) in
    let s = xor_step x y in
    let l = d.1 in
    let low : bit_xor x y % 2 ≡ differ (x % 2) (y % 2) = omega arith in
    low ∙ d.0 ∙ ap₂ (λ (a b : ℕ). cond (eqb a b) 0 1) (sym (chip_first x)) (sym (chip_first y))

upper : (x y : ℕ) → bit_xor x y / 2 ≡ bit_xor (x / 2) (y / 2)
upper x y =
    let l = (digits (x % 2) (y % 2) (omega arith) (omega arith)).1 in
    let s = xor_step x y in
    omega arith

-- and the other chips of two numbers differ where those of their halves do
next : (x y k : ℕ) → apart_at (x / 2) (y / 2) k ≡ apart_at x y (suc k)
next x y k = ap₂ (λ (a b : ℕ). cond (eqb a b) 0 1) (sym (chip_next x k)) (sym (chip_next y k))

-- for numbers of n chips
ones_to : (n x y : ℕ) → x < 2 ^ n → y < 2 ^ n → ones (bit_xor x y) ≡ sum_to n (apart_at x y)
unfolding sum_to
ones_to zero x y lx ly =
    let ex : x ≡ 0 = omega arith in
    let ey : y ≡ 0 = omega arith in
    ap₂ (λ (a b : ℕ). ones (bit_xor a b)) ex ey ∙ ap ones (xor_self 0) ∙ ones-ones 0
ones_to (suc n) x y lx ly =
    let p = pow-succ' 2 n in
    let halves = ones_to n (x / 2) (y / 2) (omega arith) (omega arith) in
    ones_step (bit_xor x y)
    ∙ ap₂ (λ (a b : ℕ). a + b) (lowest x y) (ap ones (upper x y) ∙ halves ∙ sum_ext n _ _ (λ k h. next x y k))
    ∙ sym (sum_first n (apart_at x y))

-- for numbers of 64
pub ones_apart : (x y : ℕ) → x < 2 ^ 64 → y < 2 ^ 64 → ones (bit_xor x y) ≡ chips_apart x y
unfolding chips_apart
ones_apart x y lx ly = ones_to 64 x y lx ly
