-- The laws of sets of values as numbers.
use Rattle.std.proofs.Common.{◌≡◌, ℕ, zero, suc, ◌+◌, ◌-◌, ◌*◌, ◌/◌, ◌%◌, ◌^◌, ◌<◌, ◌≤◌, min, sym, refl, ap, ◌∙◌, subst, ap₂, le_of_suc-le-suc, not-suc-le-zero, zero-lt-suc, pow-suc, arith, pow_mono}
use native.Mathlib.Nat.{min-eq_left, min-eq_right, zero-add, add-zero, suc-add, mul_assoc, mul_comm, mul-le-mul_left, mul-suc, mod-eq_of_lt}
use Rattle.std.proofs.Common.{pow-add}
use native.Mathlib.Decide.{dec_lt}
use lib.Bits.{bit_and, bit_xor, differ, xor_step, xor_zero_l, and_step, and_self}
use lib.Count.{under, count_trailing_zeros}
use Rattle.short_check_node.specs.Masks.{Flags, mask_of}

-- ---- numbers by their bits

-- they are equal by their bits
pub mask_ext : (n : ℕ) (f g : ℕ → ℕ) → ((i : ℕ) → i < n → f i ≡ g i) → mask_of n f ≡ mask_of n g
unfolding mask_of
mask_ext zero f g h = refl
mask_ext (suc n) f g h =
    ap₂ (λ (a b : ℕ). a + 2 * b) (h 0 (omega arith)) (mask_ext n (λ i. f (suc i)) (λ i. g (suc i)) (λ i l. h (suc i) (omega arith)))

-- a set is what is left without a part of it, and that part
pub mask_parts : (n : ℕ) (f g : ℕ → ℕ) → ((i : ℕ) → i < n → g i ≤ f i) → mask_of n f ≡ mask_of n (λ i. f i - g i) + mask_of n g
unfolding mask_of
mask_parts zero f g h = refl
mask_parts (suc n) f g h =
    let e = mask_parts n (λ i. f (suc i)) (λ i. g (suc i)) (λ i l. h (suc i) (omega arith)) in
    let l = h 0 (omega arith) in
    omega arith

-- one bit of two numbers that differ, where the second is no larger
differ_part : (a b : ℕ) → a ≤ 1 → b ≤ a → differ a b ≡ a - b
differ_part zero zero la lb = refl
differ_part zero (suc b) la lb = absurd (not-suc-le-zero lb)
differ_part (suc zero) zero la lb = refl
differ_part (suc zero) (suc zero) la lb = refl
differ_part (suc zero) (suc (suc b)) la lb = absurd (omega arith)
differ_part (suc (suc a)) b la lb = absurd (omega arith)

-- a set without a part of it, by the bits that differ
pub mask_without : (n : ℕ) (f g : ℕ → ℕ) → Flags f → ((i : ℕ) → g i ≤ f i) → bit_xor (mask_of n f) (mask_of n g) ≡ mask_of n (λ i. f i - g i)
unfolding mask_of
mask_without zero f g h p = xor_zero_l 0
mask_without (suc n) f g h p =
    let a = mask_of n (λ i. f (suc i)) in
    let b = mask_of n (λ i. g (suc i)) in
    let l = h 0 in
    let m = p 0 in
    let fh : (f 0 + 2 * a) / 2 ≡ a = omega arith in
    let gh : (g 0 + 2 * b) / 2 ≡ b = omega arith in
    let fl : (f 0 + 2 * a) % 2 ≡ f 0 = omega arith in
    let gl : (g 0 + 2 * b) % 2 ≡ g 0 = omega arith in
    let e = xor_step (f 0 + 2 * a) (g 0 + 2 * b) in
    let high = ap₂ bit_xor fh gh ∙ mask_without n (λ i. f (suc i)) (λ i. g (suc i)) (λ i. h (suc i)) (λ i. p (suc i)) in
    let low = ap₂ differ fl gl ∙ differ_part (f 0) (g 0) l m in
    omega arith

-- a number's lowest m bits, and the others
mask_split : (m n : ℕ) (f : ℕ → ℕ) → mask_of (m + n) f ≡ mask_of m f + 2 ^ m * mask_of n (λ i. f (m + i))
unfolding mask_of
mask_split zero n f =
    let e = mask_ext n f (λ i. f (0 + i)) (λ i l. ap f (omega arith)) in
    ap (λ (k : ℕ). mask_of k f) (zero-add n) ∙ omega arith
mask_split (suc m) n f =
    let e = mask_split m n (λ i. f (suc i)) in
    let g = mask_ext n (λ i. f (suc (m + i))) (λ i. f (suc m + i)) (λ i l. ap f (sym (suc-add m i))) in
    let k : mask_of (suc m + n) f ≡ f 0 + 2 * mask_of (m + n) (λ i. f (suc i)) = ap (λ (j : ℕ). mask_of j f) (suc-add m n) in
    let p = ap (λ (x : ℕ). x * mask_of n (λ i. f (suc m + i))) (pow-suc 2 m) in
    let q = mul_assoc (2 ^ m) 2 (mask_of n (λ i. f (suc m + i))) in
    let r = ap (λ (x : ℕ). 2 ^ m * x) g in
    let s = mul_comm (2 ^ m) (2 * mask_of n (λ i. f (suc m + i))) in
    let t = mul_assoc 2 (mask_of n (λ i. f (suc m + i))) (2 ^ m) in
    let u = mul_comm (mask_of n (λ i. f (suc m + i))) (2 ^ m) in
    omega arith

-- one bit more
pub mask_more : (i : ℕ) (f : ℕ → ℕ) {byte : ℕ} → byte ≡ mask_of i f → byte + 2 ^ i * f i ≡ mask_of (i + 1) f
unfolding mask_of
mask_more i f e =
    let s = mask_split i 1 f in
    let one : mask_of 1 (λ j. f (i + j)) ≡ f i = ap (λ (x : ℕ). x + 2 * 0) (ap f (add-zero i)) ∙ omega arith in
    let p = ap (λ (x : ℕ). 2 ^ i * x) one in
    omega arith

-- it has n bits
pub mask_lt : (n : ℕ) (f : ℕ → ℕ) → Flags f → mask_of n f < 2 ^ n
unfolding mask_of
mask_lt zero f h = omega arith
mask_lt (suc n) f h =
    let a = mask_lt n (λ i. f (suc i)) (λ i. h (suc i)) in
    let b = h 0 in
    let e = pow-suc 2 n in
    omega arith

-- without the lowest eight of 64 bits it fits in 56
pub mask_fits : (f : ℕ → ℕ) (n mask : ℕ) → Flags f → n ≤ 56 → mask ≡ mask_of n f → mask < 72057594037927936
mask_fits f n mask h l e =
    let a = mask_lt n f h in
    let b = pow_mono {i = n} {j = 56} l in
    omega arith

-- eight bits more
pub mask_eight : (i : ℕ) (f : ℕ → ℕ) {mask byte : ℕ} → mask ≡ mask_of i f → byte ≡ mask_of 8 (λ j. f (i + j)) → mask + 2 ^ i * byte ≡ mask_of (i + 8) f
mask_eight i f e b =
    let s = mask_split i 8 f in
    let p = ap (λ (x : ℕ). 2 ^ i * x) b in
    omega arith

-- k bits above the i lowest: shifted there they are not cut off where the number has room for them, and with the i lowest they are i + k bits
pub part_more : (i k part mask top : ℕ) → part < 2 ^ k → mask < 2 ^ i → 2 ^ (i + k) ≤ top → (part * 2 ^ i % top ≡ 2 ^ i * part) × (mask + 2 ^ i * part < 2 ^ (i + k))
part_more i k part mask top lp lm room =
    let e = pow-add 2 i k in
    let m = mul-le-mul_left (2 ^ i) lp in
    let n = mul-suc (2 ^ i) part in
    let c = mul_comm part (2 ^ i) in
    (ap (λ (x : ℕ). x % top) c ∙ mod-eq_of_lt (omega arith), omega arith)

-- the set is empty where the number is 0
pub mask_none : (n : ℕ) (f : ℕ → ℕ) → mask_of n f ≡ 0 → (i : ℕ) → i < n → f i ≡ 0
unfolding mask_of
mask_none zero f e i l = absurd (not-suc-le-zero l)
mask_none (suc n) f e zero l = omega arith
mask_none (suc n) f e (suc i) l = mask_none n (λ j. f (suc j)) (omega arith) i (le_of_suc-le-suc l)

-- ---- a set without one value

-- the set f without c
unfoldable pub without : (c : ℕ) → (ℕ → ℕ) → (ℕ → ℕ)
without zero f zero = 0
without zero f (suc i) = f (suc i)
without (suc c) f zero = f 0
without (suc c) f (suc i) = without c (λ j. f (suc j)) i

-- c is not in it
pub without_same : (c : ℕ) (f : ℕ → ℕ) → without c f c ≡ 0
unfolding without
without_same zero f = refl
without_same (suc c) f = without_same c (λ j. f (suc j))

-- every other value is as before
pub without_other : (c : ℕ) (f : ℕ → ℕ) (i : ℕ) → (i ≡ c → ⊥) → without c f i ≡ f i
unfolding without
without_other zero f zero h = absurd (h refl)
without_other zero f (suc i) h = refl
without_other (suc c) f zero h = refl
without_other (suc c) f (suc i) h = without_other c (λ j. f (suc j)) i (λ e. h (ap suc e))

-- it is a set too
pub without_flags : (c : ℕ) (f : ℕ → ℕ) → Flags f → Flags (without c f)
unfolding without
without_flags zero f h zero = omega arith
without_flags zero f h (suc i) = h (suc i)
without_flags (suc c) f h zero = h 0
without_flags (suc c) f h (suc i) = without_flags c (λ j. f (suc j)) (λ j. h (suc j)) i

-- ---- the smallest value of a set, and the set without it

-- c is the smallest value of the set f, and this is the number of the set without it
pub record Lowest (n : ℕ) (f : ℕ → ℕ) (mask c : ℕ) : Type 0 where
  pub within : c < n
  pub is_set : f c ≡ 1
  pub none : (d : ℕ) → d < c → f d ≡ 0
  pub cleared : bit_and mask (mask - 1) ≡ mask_of n (without c f)

-- one bit more, which is 1: it is the lowest
lowest_one : (n : ℕ) (f : ℕ → ℕ) (mask : ℕ) → f 0 ≡ 1 → mask ≡ 1 + 2 * mask_of n (λ i. f (suc i)) → Lowest (suc n) f mask 0
unfolding mask_of without
lowest_one n f mask one e =
    let k = mask_of n (λ i. f (suc i)) in
    let half : mask / 2 ≡ k = omega arith in
    let other : (mask - 1) / 2 ≡ k = omega arith in
    let odd : mask % 2 ≡ 1 = omega arith in
    let even : (mask - 1) % 2 ≡ 0 = omega arith in
    let low : min (mask % 2) ((mask - 1) % 2) ≡ 0 = min-eq_right (omega arith) ∙ even in
    let both : bit_and (mask / 2) ((mask - 1) / 2) ≡ k = ap₂ bit_and half other ∙ and_self k in
    let s = and_step mask (mask - 1) in
    record { within = zero-lt-suc n; is_set = one; none = λ d l. absurd (not-suc-le-zero l); cleared = omega arith }

-- one bit more, which is 0: the lowest is one further
lowest_zero : (n : ℕ) (f : ℕ → ℕ) (mask c : ℕ) → f 0 ≡ 0 → mask ≡ 2 * mask_of n (λ i. f (suc i)) → 0 < mask
    → Lowest n (λ i. f (suc i)) (mask_of n (λ i. f (suc i))) c → Lowest (suc n) f mask (suc c)
unfolding mask_of without
lowest_zero n f mask c z e l h =
    let k = mask_of n (λ i. f (suc i)) in
    let half : mask / 2 ≡ k = omega arith in
    let other : (mask - 1) / 2 ≡ k - 1 = omega arith in
    let even : mask % 2 ≡ 0 = omega arith in
    let low : min (mask % 2) ((mask - 1) % 2) ≡ 0 = min-eq_left (omega arith) ∙ even in
    let both : bit_and (mask / 2) ((mask - 1) / 2) ≡ bit_and k (k - 1) = ap₂ bit_and half other in
    let s = and_step mask (mask - 1) in
    let q = h.cleared in
    let w = h.within in
    record { within = omega arith; is_set = h.is_set; none = λ d m. go d m; cleared = omega arith }
  where
    go : (d : ℕ) → d < suc c → f d ≡ 0
    go zero m = z
    go (suc d) m = h.none d (le_of_suc-le-suc m)

-- the smallest value of a set that is not empty is the number of zeros below the lowest bit that is 1
pub lowest : (n : ℕ) (f : ℕ → ℕ) (mask : ℕ) → Flags f → mask ≡ mask_of n f → 0 < mask → Lowest n f mask (count_trailing_zeros n mask)
unfolding mask_of count_trailing_zeros
lowest zero f mask h e l = absurd (omega arith)
lowest (suc n) f mask h e l =
    go (λ p. lowest n (λ i. f (suc i)) (mask_of n (λ i. f (suc i))) (λ i. h (suc i)) refl p) (dec_lt (f 0) 1)
  where
    k : ℕ
    k = mask_of n (λ i. f (suc i))

    go : (0 < k → Lowest n (λ i. f (suc i)) k (count_trailing_zeros n k)) → Dec (f 0 < 1)
        → Lowest (suc n) f mask (under (mask % 2) (count_trailing_zeros n (mask / 2)))
    go ih (yes s) =
        let even : mask % 2 ≡ 0 = omega arith in
        let half : mask / 2 ≡ k = omega arith in
        subst (Lowest (suc n) f mask) (ap₂ (λ (a b : ℕ). under a (count_trailing_zeros n b)) (sym even) (sym half))
        (lowest_zero n f mask (count_trailing_zeros n k) (omega arith) (omega arith) l (ih (omega arith)))
    go ih (no s) =
        let b = h 0 in
        let odd : mask % 2 ≡ 1 = omega arith in
        subst (Lowest (suc n) f mask) (ap (λ (a : ℕ). under a (count_trailing_zeros n (mask / 2))) (sym odd)) (lowest_one n f mask (omega arith) (omega arith))
