-- The largest penalty of a precision.
use mathlib.Core.Path.{◌≡◌, ap}
use Prim.Native.Nat.{ℕ, ◌-◌, ◌^◌, ◌≤◌, min}
use native.Mathlib.Nat.{min-eq_left, min-eq_right, min-le_right}
use native.Mathlib.Omega.{arith}
use lib.Pow.{pow_mono}
use Rattle.vector.specs.Frame.{largest}

module _ (q : ℕ) where
  -- up to 13 bits it is 2^q − 1
  pub largest_is : q ≤ 13 → largest q ≡ 2 ^ q - 1
  unfolding largest
  largest_is l = ap (λ (n : ℕ). 2 ^ n - 1) (min-eq_left l)

  -- from there on it is that of 13 bits
  pub largest_from : 13 ≤ q → largest q ≡ 8191
  unfolding largest
  largest_from l = ap (λ (n : ℕ). 2 ^ n - 1) (min-eq_right l)

  -- 2 to no more than 13 is at most 8,192
  pub power_most : 2 ^ min q 13 ≤ 8192
  power_most = pow_mono {i = min q 13} {j = 13} (min-le_right q 13)

  -- so it is never more than that of 13 bits
  pub largest_most : largest q ≤ 8191
  unfolding largest
  largest_most = let l = power_most in omega arith
