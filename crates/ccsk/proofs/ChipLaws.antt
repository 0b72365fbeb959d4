-- The laws of chips: a number is the sum of its chips, and the base turned has the base's chips, turned.
use mathlib.Core.Path.{◌≡◌, sym, ap, ap₂, ◌∙◌, subst}
use Prim.Native.Nat.{ℕ, zero, suc, ◌+◌, ◌*◌, ◌/◌, ◌%◌, ◌-◌, ◌^◌, ◌<◌}
use native.Mathlib.Nat.{le_of_suc-le-suc, not-suc-le-zero, pow-succ', div-div-eq-div-mul, mod-lt, mod-eq_of_lt, mul_left_comm, mul_comm, add_comm, add-mod-mod, div-lt_iff_lt-mul, mul-div_cancel, mul-mod_left, add-zero, div-one, mul-le-mul_right, two-pow-succ, one-mul}
use native.Mathlib.Numerals.{add-one}
use native.Mathlib.Omega.{arith}
use lib.Bits.{bit_or, or_self, or_shifted_r}
use lib.Dec.{lit<}
use lib.Pow.{pow-add, pow_pos, mod-pow-add}
use Rattle.vector.specs.Vector.{sum_to}
use Rattle.vector.proofs.Laws.{sum_ext, sum_first, sum_split, sum_scale}
use Rattle.ccsk.specs.Chips.{chip, symbol_chip, turned}

-- a chip is 0 or 1
pub chip_lt : (x k : ℕ) → chip x k < 2
unfolding chip
chip_lt x k = omega arith

-- so is a chip of a symbol
pub symbol_chip_lt : (base s k : ℕ) → symbol_chip base s k < 2
unfolding symbol_chip
symbol_chip_lt base s k = chip_lt base ((k + s) % 64)

-- the sum of a number's first n chips, each at its bit, is its lowest n bits
pub value : (n x : ℕ) → sum_to n (λ k. chip x k * 2 ^ k) ≡ x % 2 ^ n
unfolding sum_to chip
value zero x = omega arith
value (suc n) x =
    ap (λ (a : ℕ). a + x / 2 ^ n % 2 * 2 ^ n) (value n x) ∙ add_comm (x % 2 ^ n) (x / 2 ^ n % 2 * 2 ^ n)
    ∙ sym (mod-pow-add x 1 n) ∙ ap (λ (m : ℕ). x % 2 ^ m) (add_comm 1 n ∙ add-one n)

-- the chips of a number that is a sum of chips
pub chip_value : (n : ℕ) (f : ℕ → ℕ) → ((i : ℕ) → f i < 2) → (k : ℕ) → k < n → chip (sum_to n (λ i. f i * 2 ^ i)) k ≡ f k
unfolding chip
chip_value zero f h k l = absurd (not-suc-le-zero l)
chip_value (suc n) f h k l = ap (λ (x : ℕ). x / 2 ^ k % 2) halves ∙ go k l (chip_value n (λ i. f (suc i)) (λ i. h (suc i)))
  where
    rest : ℕ
    rest = sum_to n (λ i. f (suc i) * 2 ^ i)

    halves : sum_to (suc n) (λ i. f i * 2 ^ i) ≡ f 0 + 2 * rest
    halves =
        let a = sum_first n (λ i. f i * 2 ^ i) in
        let b = sum_ext n (λ i. f (suc i) * 2 ^ suc i) (λ i. 2 * (f (suc i) * 2 ^ i)) (λ i s. ap (λ (x : ℕ). f (suc i) * x) (pow-succ' 2 i) ∙ mul_left_comm (f (suc i)) 2 (2 ^ i)) in
        let c = sum_scale 2 n (λ i. f (suc i) * 2 ^ i) in
        omega arith

    go : (j : ℕ) → j < suc n → ((i : ℕ) → i < n → rest / 2 ^ i % 2 ≡ f (suc i)) → (f 0 + 2 * rest) / 2 ^ j % 2 ≡ f j
    go zero s ih = let a = h 0 in omega arith
    go (suc j) s ih =
        let a = h 0 in
        let e : (f 0 + 2 * rest) / 2 ≡ rest = omega arith in
        ap (λ (x : ℕ). (f 0 + 2 * rest) / x % 2) (pow-succ' 2 j)
        ∙ ap (λ (x : ℕ). x % 2) (sym (div-div-eq-div-mul (f 0 + 2 * rest) 2 (2 ^ j)) ∙ ap (λ (x : ℕ). x / 2 ^ j) e)
        ∙ ih j (le_of_suc-le-suc s)

-- a number that is a sum of n chips has n bits
value_lt : (n : ℕ) (f : ℕ → ℕ) → ((i : ℕ) → f i < 2) → sum_to n (λ i. f i * 2 ^ i) < 2 ^ n
unfolding sum_to
value_lt zero f h = lit< tt
value_lt (suc n) f h =
    let a = value_lt n f h in
    let b = mul-le-mul_right (2 ^ n) (le_of_suc-le-suc (h n)) in
    let c = two-pow-succ n in
    let d = one-mul (2 ^ n) in
    omega arith

-- the base turned is a number of 64 chips
pub turned_lt : (base s : ℕ) → turned base s < 2 ^ 64
unfolding turned
turned_lt base s = value_lt 64 (symbol_chip base s) (symbol_chip_lt base s)

-- chip k of the base turned by s is chip k of the symbol s
pub turned_chip : (base s k : ℕ) → k < 64 → chip (turned base s) k ≡ symbol_chip base s k
unfolding turned
turned_chip base s k l = chip_value 64 (symbol_chip base s) (symbol_chip_lt base s) k l

-- two turns of the base are equal if their chips are
pub turned_ext : (base s t : ℕ) → ((k : ℕ) → k < 64 → symbol_chip base s k ≡ symbol_chip base t k) → turned base s ≡ turned base t
unfolding turned
turned_ext base s t h = sum_ext 64 _ _ (λ k l. ap (λ (x : ℕ). x * 2 ^ k) (h k l))

-- a turn by s is one by s mod 64
pub turned_mod : (base s : ℕ) → turned base (s % 64) ≡ turned base s
unfolding symbol_chip
turned_mod base s = turned_ext base (s % 64) s (λ k l. ap (chip base) (add-mod-mod k s 64))

-- a turn by 0
pub turned_zero : (base : ℕ) → turned base 0 ≡ base % 2 ^ 64
unfolding turned symbol_chip
turned_zero base = sum_ext 64 _ _ (λ k l. ap (λ (x : ℕ). chip base x * 2 ^ k) (omega arith)) ∙ value 64 base

-- a turn by d is the chips from d on, and above them the d lowest
module _ (base d u : ℕ) (whole : u + d ≡ 64) (fits : base < 2 ^ 64) where
  -- a number of 64 bits is less than 2 ^ u times 2 ^ d
  upper_lt : base / 2 ^ d < 2 ^ u
  upper_lt = (div-lt_iff_lt-mul (pow_pos d)).1 (subst (λ (x : ℕ). base < x) (ap (λ (x : ℕ). 2 ^ x) (sym whole) ∙ pow-add 2 u d) fits)

  -- the chips of the upper part, and above them those of the lower
  pub turned_parts : turned base d ≡ base / 2 ^ d + (base % 2 ^ d) * 2 ^ u
  unfolding turned symbol_chip chip
  turned_parts =
      ap (λ (n : ℕ). sum_to n (λ k. chip base ((k + d) % 64) * 2 ^ k)) (sym whole)
      ∙ sum_split u d (λ k. chip base ((k + d) % 64) * 2 ^ k)
      ∙ ap₂ (λ (x y : ℕ). x + y) upper lower
    where
      upper : sum_to u (λ k. chip base ((k + d) % 64) * 2 ^ k) ≡ base / 2 ^ d
      upper =
          sum_ext u _ (λ k. chip (base / 2 ^ d) k * 2 ^ k)
          (λ k l. ap (λ (x : ℕ). x % 2 * 2 ^ k) (ap (λ (x : ℕ). base / 2 ^ x) (let e : (k + d) % 64 ≡ d + k = omega arith in e) ∙ ap (λ (x : ℕ). base / x) (pow-add 2 d k) ∙ sym (div-div-eq-div-mul base (2 ^ d) (2 ^ k))))
          ∙ value u (base / 2 ^ d) ∙ mod-eq_of_lt upper_lt

      lower : sum_to d (λ j. chip base ((u + j + d) % 64) * 2 ^ (u + j)) ≡ (base % 2 ^ d) * 2 ^ u
      lower =
          sum_ext d _ (λ j. 2 ^ u * (chip base j * 2 ^ j))
          (λ j l. ap₂ (λ (x y : ℕ). chip base x * y) (let e : (u + j + d) % 64 ≡ j = omega arith in e) (pow-add 2 u j) ∙ mul_left_comm (chip base j) (2 ^ u) (2 ^ j))
          ∙ sum_scale (2 ^ u) d (λ j. chip base j * 2 ^ j) ∙ ap (λ (x : ℕ). 2 ^ u * x) (value d base) ∙ mul_comm (2 ^ u) (base % 2 ^ d)

-- a shift up by u of a number of u + d bits: its d lowest bits are left
shift_up : (x d u : ℕ) → x * 2 ^ u % 2 ^ (d + u) ≡ (x % 2 ^ d) * 2 ^ u
shift_up x d u =
    mod-pow-add (x * 2 ^ u) d u
    ∙ ap₂ (λ (a b : ℕ). a % 2 ^ d * 2 ^ u + b) (mul-div_cancel x (pow_pos u)) (mul-mod_left x (2 ^ u))
    ∙ add-zero (x % 2 ^ d * 2 ^ u)

-- the two shifts of a 64-bit number, joined, are the number turned
pub shifted : (base s : ℕ) → base < 2 ^ 64 → bit_or (base / 2 ^ (s % 64)) (base * 2 ^ ((64 - s % 64) % 64) % 2 ^ 64) ≡ turned base s
shifted base s fits = go (s % 64) (mod-lt s (lit< tt)) ∙ turned_mod base s
  where
    go : (d : ℕ) → d < 64 → bit_or (base / 2 ^ d) (base * 2 ^ ((64 - d) % 64) % 2 ^ 64) ≡ turned base d
    go zero l = let same : base * 1 % 2 ^ 64 ≡ base = omega arith in ap₂ bit_or (div-one base) same ∙ or_self base ∙ sym (turned_zero base ∙ mod-eq_of_lt fits)
    go (suc d) l =
        let u = 63 - d in
        let whole : u + suc d ≡ 64 = omega arith in
        let exact : (64 - suc d) % 64 ≡ u = omega arith in
        let size : 2 ^ 64 ≡ 2 ^ (suc d + u) = ap (λ (x : ℕ). 2 ^ x) (let e : 64 ≡ suc d + u = omega arith in e) in
        ap (bit_or (base / 2 ^ suc d)) (ap₂ (λ (x y : ℕ). base * 2 ^ x % y) exact size ∙ shift_up base (suc d) u)
        ∙ or_shifted_r (base % 2 ^ suc d) u (base / 2 ^ suc d) (upper_lt base (suc d) u whole fits)
        ∙ add_comm (base % 2 ^ suc d * 2 ^ u) (base / 2 ^ suc d)
        ∙ sym (turned_parts base (suc d) u whole fits)
