-- The laws of the sum, from the laws of its binary digits.
use mathlib.Core.Path.{◌≡◌, refl, sym, ap, ap₂, ◌∙◌}
use Prim.Native.Nat.{ℕ, zero, suc, ◌+◌, ◌*◌, ◌/◌, ◌%◌, ◌<◌}
use native.Mathlib.Nat.{mod-lt, zero-lt-suc}
use native.Mathlib.Omega.{arith}
use lib.Dec.{lit<}
use lib.Arith.{bin_ind, digits_div, digits_mod}
use lib.Bits.{bit_xor, differ, xor_step, xor_zero_l, xor_zero_r, xor_comm, xor_self, xor_lt}
use Rattle.gf64.specs.Field.{◌⊕◌}

-- on bits, associative
differ_assoc : (x y z : ℕ) → x < 2 → y < 2 → z < 2 → differ (differ x y) z ≡ differ x (differ y z)
differ_assoc zero y z hx hy hz = refl
differ_assoc (suc zero) zero z hx hy hz = refl
differ_assoc (suc zero) (suc zero) zero hx hy hz = refl
differ_assoc (suc zero) (suc zero) (suc zero) hx hy hz = refl
differ_assoc (suc zero) (suc zero) (suc (suc z)) hx hy hz = absurd (omega arith)
differ_assoc (suc zero) (suc (suc y)) z hx hy hz = absurd (omega arith)
differ_assoc (suc (suc x)) y z hx hy hz = absurd (omega arith)

-- on bits, a bit
differ_lt : (x y : ℕ) → x < 2 → y < 2 → differ x y < 2
differ_lt zero y hx hy = hy
differ_lt (suc zero) zero hx hy = hx
differ_lt (suc zero) (suc zero) hx hy = lit< tt
differ_lt (suc zero) (suc (suc y)) hx hy = absurd (omega arith)
differ_lt (suc (suc x)) y hx hy = absurd (omega arith)

-- the last bit is 0 or 1
pub last_bit : (x : ℕ) → x % 2 < 2
last_bit x = mod-lt x (zero-lt-suc 1)

-- so is the sum of two last bits
bits_lt : (x y : ℕ) → differ (x % 2) (y % 2) < 2
bits_lt x y = differ_lt (x % 2) (y % 2) (last_bit x) (last_bit y)

-- the bits above bit 0, and bit 0
half_xor : (x y : ℕ) → bit_xor x y / 2 ≡ bit_xor (x / 2) (y / 2)
half_xor x y = ap (λ (k : ℕ). k / 2) (xor_step x y) ∙ digits_div (bit_xor (x / 2) (y / 2)) (bits_lt x y)

-- bit 0 of a sum
odd_xor : (x y : ℕ) → bit_xor x y % 2 ≡ differ (x % 2) (y % 2)
odd_xor x y = ap (λ (k : ℕ). k % 2) (xor_step x y) ∙ digits_mod (bit_xor (x / 2) (y / 2)) (bits_lt x y)

-- associative, by the bits
xor_assoc : (x y z : ℕ) → bit_xor (bit_xor x y) z ≡ bit_xor x (bit_xor y z)
xor_assoc x =
    bin_ind (λ (n : ℕ). (y z : ℕ) → bit_xor (bit_xor n y) z ≡ bit_xor n (bit_xor y z)) (λ y z. refl)
    (λ n ih y z. xor_step (bit_xor n y) z
    ∙ ap₂ (λ (h b : ℕ). bit_xor h (z / 2) * 2 + differ b (z % 2)) (half_xor n y) (odd_xor n y)
    ∙ ap₂ (λ (h b : ℕ). h * 2 + b) (ih (y / 2) (z / 2)) (differ_assoc (n % 2) (y % 2) (z % 2) (last_bit n) (last_bit y) (last_bit z))
    ∙ ap₂ (λ (h b : ℕ). bit_xor (n / 2) h * 2 + differ (n % 2) b) (sym (half_xor y z)) (sym (odd_xor y z))
    ∙ sym (xor_step n (bit_xor y z))) x

-- closed below 64
pub sum_lt : (x y : ℕ) → x < 64 → y < 64 → x ⊕ y < 64
unfolding ◌⊕◌
sum_lt x y hx hy = xor_lt 6 x y hx hy

-- the same of the exclusive or as the code has it
pub sum_symbol : (x y : ℕ) → x < 64 → y < 64 → bit_xor x y < 64 × (bit_xor x y ≡ x ⊕ y)
unfolding ◌⊕◌
sum_symbol x y hx hy = (sum_lt x y hx hy, refl)

-- associative
pub sum_assoc : (x y z : ℕ) → (x ⊕ y) ⊕ z ≡ x ⊕ (y ⊕ z)
unfolding ◌⊕◌
sum_assoc x y z = xor_assoc x y z

-- commutative
pub sum_comm : (x y : ℕ) → x ⊕ y ≡ y ⊕ x
unfolding ◌⊕◌
sum_comm x y = xor_comm x y

-- each symbol is its own inverse
pub sum_self : (x : ℕ) → x ⊕ x ≡ 0
unfolding ◌⊕◌
sum_self x = xor_self x

-- 0 is neutral
pub sum_zero : (x : ℕ) → x ⊕ 0 ≡ x
unfolding ◌⊕◌
sum_zero x = xor_zero_r x

-- and from the other side
pub zero_sum : (x : ℕ) → 0 ⊕ x ≡ x
unfolding ◌⊕◌
zero_sum x = xor_zero_l x

-- what is added twice is gone
pub sum_back : (x y : ℕ) → (x ⊕ y) ⊕ y ≡ x
sum_back x y = sum_assoc x y y ∙ ap (λ (k : ℕ). x ⊕ k) (sum_self y) ∙ sum_zero x

-- two sums of two, added: the terms regrouped
pub sum_cross : (x y z w : ℕ) → (x ⊕ y) ⊕ (z ⊕ w) ≡ (x ⊕ z) ⊕ (y ⊕ w)
sum_cross x y z w =
    sum_assoc x y (z ⊕ w)
    ∙ ap (λ (k : ℕ). x ⊕ k) (sym (sum_assoc y z w) ∙ ap (λ (k : ℕ). k ⊕ w) (sum_comm y z) ∙ sum_assoc z y w)
    ∙ sym (sum_assoc x z (y ⊕ w))
