-- How far two symbols lie apart (document 02, request 06): it depends only on their difference mod 64.
use Rattle.std.specs.Prelude.{ℕ, ◌<◌, ◌≡◌, cond, List, eqb, length, get_or}
use Rattle.vector.specs.Vector.{sum_to}
use Rattle.ccsk.specs.Chips.{chip, shift}
use Rattle.ccsk.specs.Spread.{Spread}
use Rattle.distances.specs.Distance.{shift_distance}

-- in how many of their 64 chips two numbers differ
unfoldable pub chips_apart : (x y : ℕ) → ℕ
chips_apart x y = sum_to 64 (λ k. cond (eqb (chip x k) (chip y k)) 0 1)

module _ (base : ℕ) (symbols before numbers : List ℕ) where
  -- in how many chips the numbers differ that stand in the buffer for symbols i and j
  abbrev pub apart : (i j : ℕ) → ℕ
  apart i j = chips_apart (get_or numbers i 0) (get_or numbers j 0)

  -- the difference of symbols i and j mod 64
  abbrev pub difference : (i j : ℕ) → ℕ
  difference i j = shift (get_or symbols i 0) (get_or symbols j 0)

  -- The distance between any two symbols. Where `spread` accepted these symbols and wrote these numbers, two of the
  -- numbers differ in as many chips as the shift that is the difference of their symbols has for its distance. So
  -- symbols of the same difference lie equally far apart
  pub record BetweenSymbols : Type 0 where
    pub by_difference : Spread base symbols before numbers 0
        → (i j : ℕ) → i < length symbols → j < length symbols → apart i j ≡ shift_distance base (difference i j)
    pub same_difference : Spread base symbols before numbers 0
        → (i j k l : ℕ) → i < length symbols → j < length symbols → k < length symbols → l < length symbols
        → difference i j ≡ difference k l → apart i j ≡ apart k l
