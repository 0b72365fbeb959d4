-- Which bases are refused: a base equals itself turned by 32 chips exactly when two different symbols are sent as the same number.
use mathlib.Core.Path.{◌≡◌, sym, ap, ◌∙◌}
use mathlib.Core.Bool.{true}
use Prim.Native.Nat.{ℕ, zero, suc, ◌+◌, ◌*◌, ◌/◌, ◌%◌, ◌-◌, ◌^◌, ◌≤◌, ◌<◌}
use native.Mathlib.Nat.{pow-suc, mod-eq_of_lt, mul_assoc, mul_left_comm, mul_comm, mul-add, add-zero, suc-mul, add-mul-mod_self_left, zero-mul}
use native.Mathlib.Decide.{dec_lt}
use native.Mathlib.Omega.{arith}
use borrow.Author.Tests.{eqb-true, eq-eqb}
use lib.Dec.{lit<}
use Rattle.ccsk.specs.Chips.{chip, symbol_chip, turned, base_row, SameNumber}
use Rattle.ccsk.proofs.ChipLaws.{turned_chip, turned_ext, turned_zero}

-- a number below 2^(m+1) but 0 has a multiple that is 2^m more than a multiple of 2^(m+1)
multiple : (m d : ℕ) → 1 ≤ d → d < 2 ^ suc m → (e : ℕ) × (q : ℕ) × (e * d ≡ 2 ^ m + 2 ^ suc m * q)
multiple zero d l h = let one : d ≡ 1 = omega arith in (1, 0, omega arith)
multiple (suc m) d l h = go (multiple m (d / 2)) (dec_lt 0 (d % 2))
  where
    go : (1 ≤ d / 2 → d / 2 < 2 ^ suc m → (e : ℕ) × (q : ℕ) × (e * (d / 2) ≡ 2 ^ m + 2 ^ suc m * q)) → Dec (0 < d % 2)
        → (e : ℕ) × (q : ℕ) × (e * d ≡ 2 ^ suc m + 2 ^ suc (suc m) * q)
    go ih (yes odd) =
        let split : d ≡ 2 * (d / 2) + 1 = omega arith in
        let a = ap (λ (x : ℕ). 2 ^ suc m * x) split ∙ mul-add (2 ^ suc m) (2 * (d / 2)) 1 in
        let b = ap (λ (x : ℕ). x * (d / 2)) (pow-suc 2 (suc m)) ∙ mul_assoc (2 ^ suc m) 2 (d / 2) in
        (2 ^ suc m, d / 2, omega arith)
    go ih (no even) =
        let split : d ≡ 2 * (d / 2) = omega arith in
        let p = pow-suc 2 (suc m) in
        let w = ih (omega arith) (omega arith) in
        let a = ap (λ (x : ℕ). w.0 * x) split ∙ mul_left_comm w.0 2 (d / 2) in
        let b = ap (λ (x : ℕ). x * w.1) (pow-suc 2 (suc m) ∙ mul_comm (2 ^ suc m) 2) ∙ mul_assoc 2 (2 ^ suc m) w.1 in
        let c = pow-suc 2 m in
        let k = w.2 in
        (w.0, w.1, omega arith)

-- the chips of the base, over and over
unfoldable around : ℕ → ℕ → ℕ
around base j = chip base (j % 64)

module _ (base : ℕ) where
  -- they come again after 64
  around_again : (j q : ℕ) → around base (j + 64 * q) ≡ around base j
  unfolding around
  around_again j q = ap (chip base) (add-mul-mod_self_left j 64 q)

  -- a shift after which they come again does so any number of times
  around_times : (d : ℕ) → ((j : ℕ) → around base (j + d) ≡ around base j) → (e j : ℕ) → around base (j + e * d) ≡ around base j
  around_times d h zero j = ap (around base) (omega (arith, zero-mul d))
  around_times d h (suc e) j =
      ap (around base) (let a = suc-mul e d in let b : j + suc e * d ≡ j + e * d + d = omega arith in b) ∙ h (j + e * d) ∙ around_times d h e j

  -- two symbols sent as the same number: their difference is such a shift
  difference : (s t : ℕ) → s ≤ t → t < 64 → turned base s ≡ turned base t → (j : ℕ) → around base (j + (t - s)) ≡ around base j
  unfolding around symbol_chip
  difference s t l h e j =
      let k = (j + (64 - s)) % 64 in
      let small : k < 64 = omega arith in
      let there : (k + t) % 64 ≡ (j + (t - s)) % 64 = omega arith in
      let here : (k + s) % 64 ≡ j % 64 = omega arith in
      sym (ap (chip base) there) ∙ sym (turned_chip base t k small) ∙ ap (λ (x : ℕ). chip x k) (sym e) ∙ turned_chip base s k small ∙ ap (chip base) here

  -- then so is 32
  by_half : (d : ℕ) → 1 ≤ d → d < 64 → ((j : ℕ) → around base (j + d) ≡ around base j) → (j : ℕ) → around base (j + 32) ≡ around base j
  by_half d l s h j =
      let m = multiple 5 d l s in
      sym (around_again (j + 32) m.1) ∙ ap (around base) (let e = m.2 in let f : j + 32 + 64 * m.1 ≡ j + m.0 * d = omega arith in f) ∙ around_times d h m.0 j

  module _ (fits : base < 2 ^ 64) where
    -- two different symbols are sent as the same number: the base equals itself turned by 32 chips
    pub same_refused : SameNumber base → turned base 32 ≡ base
    unfolding symbol_chip around
    same_refused w = go (dec_lt w.first w.second)
      where
        half : (s t : ℕ) → s < t → t < 64 → turned base s ≡ turned base t → turned base 32 ≡ base
        half s t l h e =
            turned_ext base 32 0 (λ k small. by_half (t - s) (omega arith) (omega arith) (difference s t (omega arith) h e) k ∙ ap (around base) (sym (add-zero k)))
            ∙ turned_zero base ∙ mod-eq_of_lt fits

        go : Dec (w.first < w.second) → turned base 32 ≡ base
        go (yes l) = half w.first w.second l w.second_symbol w.same
        go (no h) = half w.second w.first (let k = w.different in omega arith) w.first_symbol (sym w.same)

    -- and the other way round, with the symbols 0 and 32
    pub refused_same : turned base 32 ≡ base → SameNumber base
    refused_same e = record {
      first = 32;
      second = 0;
      first_symbol = lit< tt;
      second_symbol = lit< tt;
      different = λ q. absurd (omega arith);
      same = e ∙ sym (turned_zero base ∙ mod-eq_of_lt fits);
    }

    -- so row 10 of the table fits exactly then
    pub row_fits : (base_row base).1 ≡ true → SameNumber base
    row_fits e = refused_same (eqb-true (turned base 32) base e)

    -- and the other way round
    pub fits_row : SameNumber base → (base_row base).1 ≡ true
    fits_row w = eq-eqb (turned base 32) base (same_refused w)
