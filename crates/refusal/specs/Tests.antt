-- Tests that several calls make of what they are lent.
use Rattle.std.specs.Prelude.{ℕ, zero, suc, ◌≤◌, Bool, false, not, ◌||◌, List, [], ◌∷◌, ltb, eqb}

-- the number x is not one of low, low + 1, .., high
unfoldable pub outside : ℕ → ℕ → ℕ → Bool
outside low high x = ltb x low || ltb high x

-- some number of the list is not one of low, low + 1, .., high
unfoldable pub any_outside : ℕ → ℕ → List ℕ → Bool
any_outside low high [] = false
any_outside low high (x ∷ xs) = outside low high x || any_outside low high xs

-- one of the tests f 0, f 1, .., f (n − 1) fits
unfoldable pub any_to : ℕ → (ℕ → Bool) → Bool
any_to zero f = false
any_to (suc n) f = any_to n f || f n

-- the two numbers are not equal
unfoldable pub unequal : ℕ → ℕ → Bool
unequal a b = not (eqb a b)

-- what `outside` tests, said of a number for which it does not fit: x is one of low, low + 1, .., high
pub record Within (low high x : ℕ) : Type 0 where
  pub least : low ≤ x
  pub most : x ≤ high
