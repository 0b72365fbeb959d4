-- Facts about numbers that the proofs here share.
use mathlib.Core.Path.{◌≡◌, sym, ap, ◌∙◌}
use mathlib.Core.Logic.{◌⊎◌, inl, inr}
use Prim.Native.Nat.{ℕ, suc, ◌+◌, ◌*◌, ◌/◌, ◌^◌, ◌≤◌, ◌<◌}
use native.Mathlib.Nat.{pow-suc}
use native.Mathlib.Decide.{dec_lt}
use native.Mathlib.Omega.{arith}
use lib.Pow.{pow-add}

-- a word of one layer more is twice as long
pub two_pow : (m : ℕ) → 2 ^ suc m ≡ 2 ^ m + 2 ^ m
two_pow m = let e = pow-suc 2 m in omega arith

-- half of that
pub half_pow : (m : ℕ) → 2 ^ suc m / 2 ≡ 2 ^ m
half_pow m = let e = two_pow m in omega arith

-- N places, in 2^d blocks of 2 × 2^m places each
pub whole : (n d m : ℕ) → d + suc m ≡ n → 2 ^ n ≡ 2 ^ d * (2 ^ m + 2 ^ m)
whole n d m e = ap (λ (x : ℕ). 2 ^ x) (sym e) ∙ pow-add 2 d (suc m) ∙ ap (λ (x : ℕ). 2 ^ d * x) (two_pow m)

-- and N/2 kernels, 2^m to a block
pub half_blocks : (n d m : ℕ) → d + suc m ≡ n → 2 ^ n / 2 ≡ 2 ^ d * 2 ^ m
half_blocks n d m e = let q = whole n d m e in omega arith

-- of two numbers one is below the other or not
pub lt_or_le : (a b : ℕ) → (a < b) ⊎ (b ≤ a)
lt_or_le a b = go (dec_lt a b)
  where
    go : Dec (a < b) → (a < b) ⊎ (b ≤ a)
    go (yes l) = inl l
    go (no h) = inr (omega arith)
