-- The laws of four columns, read byte by byte, and of two lists that are compared.
use mathlib.Core.Path.{◌≡◌, refl, ap}
use mathlib.Core.Bool.{Bool, true, false, ◌&&◌}
use mathlib.Core.List.{List, [], ◌∷◌}
use Prim.Native.Nat.{ℕ, ◌+◌, ◌-◌, ◌*◌, ◌≤◌}
use native.Mathlib.Omega.{arith}
use lib.Dec.{eqb}
use lib.ListN.{length, get_or, take}
use lib.Pointwise.{pointwise}
use Rattle.std.specs.List.{zip, list_all}
use Rattle.columns.specs.Reading.{spelled_from, spelled, same}

-- the number that the first four columns spell, from what each column counts
pub four_columns : (xs : List ℕ) → 4 ≤ length xs
    → (((get_or xs 0 0 - 48) * 10 + (get_or xs 1 0 - 48)) * 10 + (get_or xs 2 0 - 48)) * 10 + (get_or xs 3 0 - 48) ≡ spelled (take 4 xs)
unfolding spelled spelled_from
four_columns [] l = absurd (omega arith)
four_columns (a ∷ []) l = absurd (omega arith)
four_columns (a ∷ b ∷ []) l = absurd (omega arith)
four_columns (a ∷ b ∷ c ∷ []) l = absurd (omega arith)
four_columns (a ∷ b ∷ c ∷ d ∷ xs) l = omega arith

-- lists that are equal entry by entry hold the same numbers
pub same_pointwise : (xs ys : List ℕ) → pointwise eqb xs ys ≡ same xs ys
unfolding same
same_pointwise [] [] = refl
same_pointwise [] (y ∷ ys) = refl
same_pointwise (x ∷ xs) [] = refl
same_pointwise (x ∷ xs) (y ∷ ys) = ap (λ (t : Bool). eqb x y && t) (same_pointwise xs ys)

-- two lists of the same length are equal entry by entry where the two of each pair are equal
pub pairs_pointwise : (xs ys : List ℕ) → length xs ≡ length ys → list_all (λ (p : ℕ × ℕ). eqb p.0 p.1) (zip xs ys) ≡ pointwise eqb xs ys
pairs_pointwise [] [] e = refl
pairs_pointwise [] (y ∷ ys) e = absurd (omega arith)
pairs_pointwise (x ∷ xs) [] e = absurd (omega arith)
pairs_pointwise (x ∷ xs) (y ∷ ys) e = ap (λ (t : Bool). eqb x y && t) (pairs_pointwise xs ys (omega arith))

-- two of different lengths are not
pub other_length : (xs ys : List ℕ) → (length xs ≡ length ys → ⊥) → false ≡ pointwise eqb xs ys
other_length [] [] h = absurd (h refl)
other_length [] (y ∷ ys) h = refl
other_length (x ∷ xs) [] h = refl
other_length (x ∷ xs) (y ∷ ys) h = go (eqb x y) (other_length xs ys (λ z. h (omega arith)))
  where
    go : (t : Bool) → false ≡ pointwise eqb xs ys → false ≡ (t && pointwise eqb xs ys)
    go true rest = rest
    go false rest = refl
