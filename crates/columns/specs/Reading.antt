-- Reading numbers in columns. It undoes writing: columns are accepted exactly when they are what is written for the
-- number that they spell.
use Rattle.std.specs.Prelude.{ℕ, ◌+◌, ◌-◌, ◌*◌, Bool, true, false, ◌&&◌, List, [], ◌∷◌, eqb, take, drop}
use Rattle.vector.specs.Vector.{tabulate}
use Rattle.columns.specs.Columns.{field, line}

-- the number that columns spell after what is already read, v: each column counts its digit, and ten times what stands
-- before it. A blank counts as the digit 0; any byte gets some value here
unfoldable pub spelled_from : ℕ → List ℕ → ℕ
spelled_from v [] = v
spelled_from v (byte ∷ bytes) = spelled_from (v * 10 + (byte - 48)) bytes

-- the number that columns spell
unfoldable pub spelled : List ℕ → ℕ
spelled bytes = spelled_from 0 bytes

-- two lists hold the same numbers
unfoldable pub same : List ℕ → List ℕ → Bool
same [] [] = true
same [] (y ∷ ys) = false
same (x ∷ xs) [] = false
same (x ∷ xs) (y ∷ ys) = eqb x y && same xs ys

-- the bytes are a number in w columns: what is written for the number that they spell
unfoldable pub is_field : ℕ → List ℕ → Bool
is_field w bytes = same bytes (field w (spelled bytes))

-- part i of a list that is cut in parts of w
unfoldable pub part : (w i : ℕ) → List ℕ → List ℕ
part w i bytes = take w (drop (w * i) bytes)

-- the numbers that the first k times w columns of a line spell
unfoldable pub numbers : (w k : ℕ) → List ℕ → List ℕ
numbers w k bytes = tabulate k (λ i. spelled (part w i bytes))

-- the bytes are a line of k numbers in w columns each: what is written for the numbers that they spell
unfoldable pub is_line : (w k : ℕ) → List ℕ → Bool
is_line w k bytes = same bytes (line w (numbers w k bytes))
