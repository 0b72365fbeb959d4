-- The table of products: 64 rows of 64 entries.
use Rattle.std.specs.Prelude.{ℕ, List, [], get_or}
use Rattle.vector.specs.Vector.{tabulate}
use Rattle.gf64.specs.Field.{◌⊙◌, low_six}

-- row x: the products of x with the 64 symbols, in rising order
unfoldable pub product_row : ℕ → List ℕ
product_row x = tabulate 64 (λ y. x ⊙ y)

-- all 64 rows, by first factor
unfoldable pub product_table : List (List ℕ)
product_table = tabulate 64 product_row

-- row x of a table; of a number above 63 the six low bits count
unfoldable pub row_of : (table : List (List ℕ)) (x : ℕ) → List ℕ
row_of table x = get_or table (low_six x) []

-- what stands there at y
unfoldable pub entry_of : (table : List (List ℕ)) (x y : ℕ) → ℕ
entry_of table x y = get_or (row_of table x) (low_six y) 0

-- row x, of each entry the six low bits
unfoldable pub symbols_of : (table : List (List ℕ)) (x : ℕ) → List ℕ
symbols_of table x = tabulate 64 (λ y. low_six (get_or (row_of table x) y 0))
