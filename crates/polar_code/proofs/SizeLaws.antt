-- The laws of a code's sizes.
use mathlib.Core.Path.{◌≡◌, ap}
use Prim.Native.Nat.{ℕ, ◌*◌, ◌/◌, ◌^◌, ◌≤◌}
use native.Mathlib.Nat.{min-eq_left}
use Rattle.polar_code.specs.Sizes.{places_of, kernels_of}

module _ (n : ℕ) (few : n ≤ 8) where
  -- up to 8 layers there are 2^n places
  pub places_are : places_of n ≡ 2 ^ n
  unfolding places_of
  places_are = ap (λ (k : ℕ). 2 ^ k) (min-eq_left few)

  -- and n × N/2 coefficients
  pub kernels_are : kernels_of n ≡ n * (2 ^ n / 2)
  unfolding kernels_of places_of
  kernels_are = ap (λ (k : ℕ). k * (2 ^ k / 2)) (min-eq_left few)
