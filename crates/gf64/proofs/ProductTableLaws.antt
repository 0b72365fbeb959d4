-- The laws of the table of products: the rule at each entry.
use mathlib.Core.Path.{◌≡◌, sym, ap, ◌∙◌}
use mathlib.Core.List.{List, []}
use Prim.Native.Nat.{ℕ, ◌<◌}
use lib.ListN.{get_or}
use Rattle.vector.proofs.Laws.{get_d_tabulate, tabulate_ext}
use Rattle.gf64.specs.Field.{◌⊙◌, low_six, IsProduct}
use Rattle.gf64.specs.ProductTable.{product_row, product_table, row_of, entry_of, symbols_of}
use Rattle.gf64.proofs.ProductLaws.{low_lt, low_symbol, product_lt, product_low_left, product_low_right}

-- row x of the table has the products of x
pub row_products : (x : ℕ) → row_of product_table x ≡ product_row x
unfolding row_of product_table product_row
row_products x =
    get_d_tabulate [] 64 product_row (low_six x) (low_lt x)
    ∙ tabulate_ext 64 (λ y. low_six x ⊙ y) (λ y. x ⊙ y) (λ y l. sym (product_low_left x y))

-- the rule at each entry: what stands in row x at y is the product of x and y
pub entry_product : (x y : ℕ) → entry_of product_table x y ≡ x ⊙ y
unfolding entry_of product_row
entry_product x y =
    ap (λ (row : List ℕ). get_or row (low_six y) 0) (row_products x)
    ∙ get_d_tabulate 0 64 (λ k. x ⊙ k) (low_six y) (low_lt y)
    ∙ sym (product_low_right x y)

-- each of the symbols of a row is one
pub symbols_lt : (table : List (List ℕ)) (x y : ℕ) → y < 64 → get_or (symbols_of table x) y 0 < 64
unfolding symbols_of
symbols_lt table x y l = rw get_d_tabulate (low_lt (get_or (row_of table x) y 0))

-- those of row x of the table of products are the products of x
pub symbols_product : (x y : ℕ) → y < 64 → get_or (symbols_of product_table x) y 0 ≡ x ⊙ y
unfolding symbols_of product_row
symbols_product x y l =
    get_d_tabulate 0 64 (λ k. low_six (get_or (row_of product_table x) k 0)) y l
    ∙ ap (λ (row : List ℕ). low_six (get_or row y 0)) (row_products x)
    ∙ ap low_six (get_d_tabulate 0 64 (λ k. x ⊙ k) y l)
    ∙ low_symbol (x ⊙ y) (product_lt x y)

-- what `product` reads from the table and what `worked_out_product` works out are the same, for every two bytes
pub same_product : {x y r s : ℕ} → IsProduct x y r → IsProduct x y s → r ≡ s
same_product p q = p.equal ∙ sym q.equal
