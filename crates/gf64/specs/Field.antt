-- The field GF(64). A symbol is a number 0 to 63; its bit i is the coefficient of a^i, and a^6 = a + 1.
use Rattle.std.specs.Prelude.{ℕ, zero, suc, ◌*◌, ◌/◌, ◌%◌, ◌-◌, ◌<◌, ◌≡◌, cond, ltb}
use Rattle.std.specs.Int.Bits.{bit_xor}

-- document 01's sum: bitwise exclusive or
infixl 60 ◌⊕◌
unfoldable pub ◌⊕◌ : ℕ → ℕ → ℕ
x ⊕ y = bit_xor x y

-- a times x: each coefficient moves up by one, and an a^6 (bit 6, 64) becomes a + 1 (3)
unfoldable pub times_a : ℕ → ℕ
times_a x = cond (ltb x 32) (x * 2) ((x * 2 - 64) ⊕ 3)

-- the product with y of the polynomial that the k lowest bits of x are: a times that of the bits above bit 0, plus y
-- where bit 0 is set
unfoldable pub product_bits : ℕ → ℕ → ℕ → ℕ
product_bits zero x y = 0
product_bits (suc k) x y = times_a (product_bits k (x / 2) y) ⊕ (x % 2 * y)

-- the symbol in the six low bits of a number; a symbol itself is left as it is
unfoldable pub low_six : ℕ → ℕ
low_six x = x % 64

-- document 01's product. That paper says nothing of a factor above 63: here its six low bits count
infixl 70 ◌⊙◌
unfoldable pub ◌⊙◌ : ℕ → ℕ → ℕ
x ⊙ y = product_bits 6 (low_six x) (low_six y)

-- x times itself, k factors
unfoldable pub power : ℕ → ℕ → ℕ
power x zero = 1
power x (suc k) = x ⊙ power x k

-- the factor that undoes x: each symbol but 0 has 63rd power 1
unfoldable pub inverse : ℕ → ℕ
inverse x = power x 62

-- a symbol other than 0
pub record NonZero (x : ℕ) : Type 0 where
  pub positive : 0 < x
  pub symbol : x < 64

-- what `product` promises of two bytes x and y and its answer r
pub record IsProduct (x y r : ℕ) : Type 0 where
  pub equal : r ≡ x ⊙ y
  pub symbol : r < 64
