-- The laws of the product, each for all numbers or all symbols.
use mathlib.Core.Path.{◌≡◌, refl, sym, ap, ap₂, ◌∙◌, subst}
use Prim.Native.Nat.{ℕ, zero, suc, ◌+◌, ◌*◌, ◌/◌, ◌%◌, ◌-◌, ◌^◌, ◌<◌}
use native.Mathlib.Nat.{mod-lt, mod-eq_of_lt, zero-lt-suc, zero-mul, one-mul, zero-add, suc-add, pow-suc, div-div-eq-div-mul}
use native.Mathlib.Numerals.{add-one}
use native.Mathlib.Omega.{arith}
use lib.Bits.{xor_mod}
use lib.Dec.{lit<}
use Rattle.gf64.specs.Field.{◌⊕◌, ◌⊙◌, times_a, product_bits, low_six, power, inverse, NonZero}
use Rattle.gf64.proofs.SumLaws.{last_bit, sum_lt, sum_self, sum_zero, zero_sum, sum_cross}
use Rattle.gf64.proofs.Pairs.{pair, step_up, power31, inverse_at}

-- ---- the six low bits

-- the six low bits are a symbol
pub low_lt : (x : ℕ) → low_six x < 64
unfolding low_six
low_lt x = mod-lt x (zero-lt-suc 63)

-- a symbol is its own six low bits
pub low_symbol : (x : ℕ) → x < 64 → low_six x ≡ x
unfolding low_six
low_symbol x h = mod-eq_of_lt h

-- the six low bits of a sum
pub low_sum : (x y : ℕ) → low_six (x ⊕ y) ≡ low_six x ⊕ low_six y
unfolding low_six ◌⊕◌
low_sum x y = xor_mod x y 6

-- the product, opened
pub product_by_bits : (x y : ℕ) → x ⊙ y ≡ product_bits 6 (low_six x) (low_six y)
unfolding ◌⊙◌
product_by_bits x y = refl

-- the six low bits of a number have themselves for their six low bits
low_same : (x : ℕ) → low_six (low_six x) ≡ low_six x
low_same x = low_symbol (low_six x) (low_lt x)

-- only the six low bits of the first factor count
pub product_low_left : (x y : ℕ) → x ⊙ y ≡ low_six x ⊙ y
unfolding ◌⊙◌
product_low_left x y = ap (λ (k : ℕ). product_bits 6 k (low_six y)) (sym (low_same x))

-- and of the second
pub product_low_right : (x y : ℕ) → x ⊙ y ≡ x ⊙ low_six y
unfolding ◌⊙◌
product_low_right x y = ap (product_bits 6 (low_six x)) (sym (low_same y))

-- so of both
product_low : (x y : ℕ) → x ⊙ y ≡ low_six x ⊙ low_six y
product_low x y = product_low_left x y ∙ product_low_right (low_six x) y

-- ---- one step of the product

-- a bit times a symbol: 0 or the symbol
pub bit_lt : (b y : ℕ) → b < 2 → y < 64 → b * y < 64
bit_lt zero y hb hy = subst (λ (p : ℕ). p < 64) (sym (zero-mul y)) (lit< tt)
bit_lt (suc zero) y hb hy = subst (λ (p : ℕ). p < 64) (sym (one-mul y)) hy
bit_lt (suc (suc b)) y hb hy = absurd (omega arith)

-- a bit times a sum
bit_sum : (b y z : ℕ) → b < 2 → b * (y ⊕ z) ≡ (b * y) ⊕ (b * z)
bit_sum zero y z h = zero-mul (y ⊕ z) ∙ sym (ap₂ ◌⊕◌ (zero-mul y) (zero-mul z) ∙ sum_zero 0)
bit_sum (suc zero) y z h = one-mul (y ⊕ z) ∙ sym (ap₂ ◌⊕◌ (one-mul y) (one-mul z))
bit_sum (suc (suc b)) y z h = absurd (omega arith)

-- a times a symbol is a symbol (Pairs)
a_lt : (x : ℕ) → x < 64 → times_a x < 64
a_lt x h = (pair x x h h).a_symbol

-- a times a sum (Pairs)
a_sum : (x y : ℕ) → x < 64 → y < 64 → times_a (x ⊕ y) ≡ times_a x ⊕ times_a y
a_sum x y hx hy = (pair x y hx hy).a_sum

-- a times a bit times a symbol
a_bit : (b y : ℕ) → b < 2 → times_a (b * y) ≡ b * times_a y
unfolding times_a
a_bit zero y h = ap times_a (zero-mul y) ∙ sym (zero-mul (times_a y))
a_bit (suc zero) y h = ap times_a (one-mul y) ∙ sym (one-mul (times_a y))
a_bit (suc (suc b)) y h = absurd (omega arith)

-- a partial product is a symbol
bits_lt : (k x y : ℕ) → y < 64 → product_bits k x y < 64
unfolding product_bits
bits_lt zero x y h = lit< tt
bits_lt (suc k) x y h = sum_lt (times_a (product_bits k (x / 2) y)) (x % 2 * y) (a_lt (product_bits k (x / 2) y) (bits_lt k (x / 2) y h)) (bit_lt (x % 2) y (last_bit x) h)

-- a partial product with one bit more of the first factor, from what the bits above it gave
pub bits_more : (k x y : ℕ) {above r : ℕ} → above ≡ product_bits k (x / 2) y → r ≡ times_a above ⊕ (x % 2 * y) → r ≡ product_bits (suc k) x y
unfolding product_bits
bits_more k x y p e = e ∙ ap (λ (q : ℕ). times_a q ⊕ (x % 2 * y)) p

-- the bits of x from bit i on, halved, are those from the next bit on
bits_above : (x i : ℕ) → i < 6 → x / 2 ^ (5 - i) / 2 ≡ x / 2 ^ (6 - i)
bits_above x i l =
    let e : 6 - i ≡ suc (5 - i) = omega arith in
    div-div-eq-div-mul x (2 ^ (5 - i)) 2 ∙ ap (λ (p : ℕ). x / p) (sym (pow-suc 2 (5 - i)) ∙ ap (λ (k : ℕ). 2 ^ k) (sym e))

-- a product with its i highest bits done, and one bit more
pub bits_next : (x y i above r : ℕ) → i < 6 → above ≡ product_bits i (x / 2 ^ (6 - i)) y → r ≡ times_a above ⊕ (x / 2 ^ (5 - i) % 2 * y)
    → r ≡ product_bits (i + 1) (x / 2 ^ (6 - (i + 1))) y
bits_next x y i above r l p e =
    let n : 5 - i ≡ 6 - (i + 1) = omega arith in
    bits_more i (x / 2 ^ (5 - i)) y (p ∙ ap (λ (k : ℕ). product_bits i k y) (sym (bits_above x i l))) e
    ∙ ap₂ (λ (k m : ℕ). product_bits k (x / 2 ^ m) y) (sym (add-one i)) n

-- the product, from all its six bits
pub bits_all : (x y i r : ℕ) → i ≡ 6 → r ≡ product_bits i (x % 64 / 2 ^ (6 - i)) (y % 64) → r ≡ x ⊙ y
unfolding ◌⊙◌ low_six
bits_all x y i r n e =
    let one : x % 64 / 1 ≡ x % 64 = omega arith in
    e ∙ ap (λ (k : ℕ). product_bits k (x % 64 / 2 ^ (6 - k)) (y % 64)) n ∙ ap (λ (k : ℕ). product_bits 6 k (y % 64)) one

-- ---- closed, commutative

-- closed below 64, whatever the factors
pub product_lt : (x y : ℕ) → x ⊙ y < 64
unfolding ◌⊙◌
product_lt x y = bits_lt 6 (low_six x) (low_six y) (low_lt y)

-- commutative (Pairs)
pub product_comm : (x y : ℕ) → x ⊙ y ≡ y ⊙ x
product_comm x y = product_low x y ∙ (pair (low_six x) (low_six y) (low_lt x) (low_lt y)).swap ∙ sym (product_low y x)

-- ---- 1 is neutral

-- 0 times anything, bit by bit
bits_zero : (k y : ℕ) → product_bits k 0 y ≡ 0
unfolding product_bits times_a
bits_zero zero y = refl
bits_zero (suc k) y = ap₂ ◌⊕◌ (ap times_a (bits_zero k y)) (zero-mul y) ∙ sum_zero 0

-- 1 is neutral
pub one_product : (x : ℕ) → x < 64 → 1 ⊙ x ≡ x
unfolding ◌⊙◌ product_bits times_a low_six
one_product x h =
    ap (product_bits 6 1) (low_symbol x h) ∙ ap₂ ◌⊕◌ (ap times_a (bits_zero 5 x)) (one-mul x) ∙ zero_sum x

-- and from the other side, for any number: its six low bits
pub product_one : (x : ℕ) → x ⊙ 1 ≡ low_six x
unfolding low_six
product_one x = product_comm x 1 ∙ product_low 1 x ∙ one_product (low_six x) (low_lt x)

-- ---- distributive

-- a partial product of a sum
bits_sum : (k x y z : ℕ) → y < 64 → z < 64 → product_bits k x (y ⊕ z) ≡ product_bits k x y ⊕ product_bits k x z
unfolding product_bits
bits_sum zero x y z hy hz = sym (sum_zero 0)
bits_sum (suc k) x y z hy hz =
    let p = product_bits k (x / 2) y in
    let q = product_bits k (x / 2) z in
    ap₂ ◌⊕◌ (ap times_a (bits_sum k (x / 2) y z hy hz) ∙ a_sum p q (bits_lt k (x / 2) y hy) (bits_lt k (x / 2) z hz)) (bit_sum (x % 2) y z (last_bit x))
    ∙ sum_cross (times_a p) (times_a q) (x % 2 * y) (x % 2 * z)

-- distributive over the sum
pub product_sum : (x y z : ℕ) → x ⊙ (y ⊕ z) ≡ (x ⊙ y) ⊕ (x ⊙ z)
unfolding ◌⊙◌
product_sum x y z = ap (product_bits 6 (low_six x)) (low_sum y z) ∙ bits_sum 6 (low_six x) (low_six y) (low_six z) (low_lt y) (low_lt z)

-- and from the other side
pub sum_product : (x y z : ℕ) → (x ⊕ y) ⊙ z ≡ (x ⊙ z) ⊕ (y ⊙ z)
sum_product x y z = product_comm (x ⊕ y) z ∙ product_sum z x y ∙ ap₂ ◌⊕◌ (product_comm z x) (product_comm z y)

-- ---- 0

-- anything times 0
pub product_zero : (x : ℕ) → x ⊙ 0 ≡ 0
product_zero x = ap (λ (p : ℕ). x ⊙ p) (sym (sum_zero 0)) ∙ product_sum x 0 0 ∙ sum_self (x ⊙ 0)

-- 0 times anything
pub zero_product : (x : ℕ) → 0 ⊙ x ≡ 0
zero_product x = product_comm 0 x ∙ product_zero x

-- ---- associative

-- a bit comes out of a product
bit_product : (b y z : ℕ) → b < 2 → (b * y) ⊙ z ≡ b * (y ⊙ z)
bit_product zero y z h = ap (λ (p : ℕ). p ⊙ z) (zero-mul y) ∙ zero_product z ∙ sym (zero-mul (y ⊙ z))
bit_product (suc zero) y z h = ap (λ (p : ℕ). p ⊙ z) (one-mul y) ∙ sym (one-mul (y ⊙ z))
bit_product (suc (suc b)) y z h = absurd (omega arith)

-- a factor a of the second factor comes out
bits_a : (k x y : ℕ) → y < 64 → product_bits k x (times_a y) ≡ times_a (product_bits k x y)
unfolding product_bits times_a
bits_a zero x y h = refl
bits_a (suc k) x y h =
    let p = product_bits k (x / 2) y in
    ap₂ ◌⊕◌ (ap times_a (bits_a k (x / 2) y h)) (sym (a_bit (x % 2) y (last_bit x)))
    ∙ sym (a_sum (times_a p) (x % 2 * y) (a_lt p (bits_lt k (x / 2) y h)) (bit_lt (x % 2) y (last_bit x) h))

-- and of the first
a_product : (x y : ℕ) → x < 64 → times_a x ⊙ y ≡ times_a (x ⊙ y)
a_product x y h =
    product_comm (times_a x) y ∙ product_by_bits y (times_a x)
    ∙ ap (product_bits 6 (low_six y)) (low_symbol (times_a x) (a_lt x h) ∙ ap times_a (sym (low_symbol x h)))
    ∙ bits_a 6 (low_six y) (low_six x) (low_lt x)
    ∙ ap times_a (sym (product_by_bits y x) ∙ product_comm y x)

-- a times a product: the second factor times a
pub product_a : (x y : ℕ) → y < 64 → times_a (x ⊙ y) ≡ x ⊙ times_a y
product_a x y h = ap times_a (product_comm x y) ∙ sym (a_product y x h) ∙ product_comm (times_a y) x

-- a partial product times z
bits_product : (k x y z : ℕ) → y < 64 → z < 64 → product_bits k x y ⊙ z ≡ product_bits k x (y ⊙ z)
unfolding product_bits
bits_product zero x y z hy hz = zero_product z
bits_product (suc k) x y z hy hz =
    let p = product_bits k (x / 2) y in
    sum_product (times_a p) (x % 2 * y) z
    ∙ ap₂ ◌⊕◌ (a_product p z (bits_lt k (x / 2) y hy) ∙ ap times_a (bits_product k (x / 2) y z hy hz)) (bit_product (x % 2) y z (last_bit x))

-- associative
pub product_assoc : (x y z : ℕ) → (x ⊙ y) ⊙ z ≡ x ⊙ (y ⊙ z)
product_assoc x y z =
    product_low (x ⊙ y) z
    ∙ ap (λ (q : ℕ). q ⊙ low_six z) (low_symbol (x ⊙ y) (product_lt x y) ∙ product_by_bits x y)
    ∙ bits_product 6 (low_six x) (low_six y) (low_six z) (low_lt y) (low_lt z)
    ∙ ap (product_bits 6 (low_six x)) (sym (low_symbol (y ⊙ z) (product_lt y z) ∙ product_low y z))
    ∙ sym (product_by_bits x (y ⊙ z))

-- ---- the rule a^6 = a + 1; a is the symbol 2

-- a^6 is a + 1
pub sixth_power : power 2 6 ≡ 3
unfolding power ◌⊙◌ product_bits times_a low_six ◌⊕◌
sixth_power = refl

-- ---- the map c ↦ h ⊙ c, for h from 1 to 63

-- a power is a symbol
power_lt : (x k : ℕ) → power x k < 64
unfolding power
power_lt x zero = lit< tt
power_lt x (suc k) = product_lt x (power x k)

-- a power with as many factors more
power_sum : (x m n : ℕ) → power x (m + n) ≡ power x m ⊙ power x n
unfolding power
power_sum x zero n = ap (power x) (zero-add n) ∙ sym (one_product (power x n) (power_lt x n))
power_sum x (suc m) n =
    ap (power x) (suc-add m n) ∙ ap (λ (p : ℕ). x ⊙ p) (power_sum x m n) ∙ sym (product_assoc x (power x m) (power x n))

-- twice as many factors and one more
power_step : (x m : ℕ) → power x (suc (m + m)) ≡ step_up x (power x m)
unfolding power step_up
power_step x m = ap (λ (p : ℕ). x ⊙ p) (power_sum x m m)

-- and where it is known what that many factors give
power_next : (x k : ℕ) {p : ℕ} → power x k ≡ p → power x (suc (k + k)) ≡ step_up x p
power_next x k e = power_step x k ∙ ap (step_up x) e

-- the inverse by squares
inverse_squares : (x : ℕ) → inverse x ≡ power31 x ⊙ power31 x
unfolding inverse power31 power
inverse_squares x =
    let e = power_next x 15 (power_next x 7 (power_next x 3 (power_next x 1 refl))) in
    power_sum x 31 31 ∙ ap₂ ◌⊙◌ e e

-- the inverse is one (Pairs)
pub inverse_product : (h : ℕ) → NonZero h → inverse h ⊙ h ≡ 1
inverse_product zero u = absurd (let l = u.positive in omega arith)
inverse_product (suc h) u = ap (λ (p : ℕ). p ⊙ suc h) (inverse_squares (suc h)) ∙ inverse_at h u.symbol

-- the inverse is a symbol other than 0
pub inverse_nonzero : (h : ℕ) → NonZero h → NonZero (inverse h)
unfolding inverse power
inverse_nonzero h u = record { positive = go (inverse h) refl; symbol = product_lt h (power h 61) }
  where
    go : (i : ℕ) → inverse h ≡ i → 0 < i
    go zero e = absurd (let z : ◌≡◌ {A = ℕ} 0 1 = sym (zero_product h) ∙ ap (λ (i : ℕ). i ⊙ h) (sym e) ∙ inverse_product h u in omega arith)
    go (suc i) e = zero-lt-suc i

-- undone from the left
pub inverse_undoes : (h c : ℕ) → NonZero h → c < 64 → inverse h ⊙ (h ⊙ c) ≡ c
inverse_undoes h c u l = sym (product_assoc (inverse h) h c) ∙ ap (λ (p : ℕ). p ⊙ c) (inverse_product h u) ∙ one_product c l

-- and from the right: every symbol c is the product of h and a symbol
pub undoes_inverse : (h c : ℕ) → NonZero h → c < 64 → h ⊙ (inverse h ⊙ c) ≡ c
undoes_inverse h c u l =
    sym (product_assoc h (inverse h) c) ∙ ap (λ (p : ℕ). p ⊙ c) (product_comm h (inverse h) ∙ inverse_product h u) ∙ one_product c l

-- one to one
pub product_injective : (h c d : ℕ) → NonZero h → c < 64 → d < 64 → h ⊙ c ≡ h ⊙ d → c ≡ d
product_injective h c d u lc ld e = sym (inverse_undoes h c u lc) ∙ ap (λ (p : ℕ). inverse h ⊙ p) e ∙ inverse_undoes h d u ld
