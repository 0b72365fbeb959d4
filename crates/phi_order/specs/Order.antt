-- What `ordered` promises.
use Rattle.std.specs.Prelude.{ℕ, List, get_or}
use Rattle.vector.specs.Vector.{tabulate}
use Rattle.gf64.specs.ProductTable.{symbols_of}

-- φ's vector in the order of c, by a table that is lent: for each c φ's penalty at what the table has in row h at c.
-- By the table of products that is scms's `ordered`
unfoldable pub ordered_by : (table : List (List ℕ)) (h : ℕ) → List ℕ → List ℕ
ordered_by table h phi = tabulate 64 (λ c. get_or phi (get_or (symbols_of table h) c 0) 0)
