-- The laws of a vector in the order of c.
use mathlib.Core.Path.{◌≡◌, sym, ap, ap₂, ◌∙◌, subst}
use mathlib.Core.List.{List}
use Prim.Native.Nat.{ℕ}
use lib.ListN.{get_or}
use Rattle.vector.proofs.Laws.{length_tabulate, get_d_tabulate, tabulate_ext}
use Rattle.gf64.specs.Field.{◌⊙◌}
use Rattle.gf64.specs.ProductTable.{product_table}
use Rattle.gf64.proofs.ProductLaws.{product_lt}
use Rattle.gf64.proofs.ProductTableLaws.{symbols_product}
use Rattle.scms.specs.Nodes.{ordered}
use Rattle.reorder.specs.Order.{low_bits, Small}
use Rattle.reorder.proofs.LowLaws.{low_same}
use Rattle.phi_order.specs.Order.{ordered_by}

-- phi's entries in another order are no larger
pub ordered_small : (h : ℕ) (phi w : List ℕ) → w ≡ ordered h phi → Small phi → Small w
unfolding ordered
ordered_small h phi w e s = subst Small (sym e) (record {
  long = length_tabulate 64 (λ c. get_or phi (h ⊙ c) 0);
  most = λ b l. rw get_d_tabulate (s.most (h ⊙ b) (product_lt h b));
})

-- by the table of products it is the order of c
pub ordered_products : (h : ℕ) (phi : List ℕ) → ordered_by product_table h phi ≡ ordered h phi
unfolding ordered_by ordered
ordered_products h phi = tabulate_ext 64 _ _ (λ c l. ap (λ (k : ℕ). get_or phi k 0) (symbols_product h c l))

-- of small penalties put in that order all bits count
pub ordered_low : {phi x : List ℕ} {table : List (List ℕ)} (h : ℕ) (source : List ℕ) → table ≡ product_table → phi ≡ source
    → x ≡ ordered_by table h (low_bits phi) → Small source → x ≡ ordered h source
ordered_low h source t p e s =
    e ∙ ap₂ (λ (table : List (List ℕ)) (v : List ℕ). ordered_by table h (low_bits v)) t p
    ∙ ordered_products h (low_bits source) ∙ ap (ordered h) (low_same source s)

-- and again where a node is given them
pub low_ordered : {x : List ℕ} (h : ℕ) (source : List ℕ) → x ≡ ordered h source → Small source → low_bits x ≡ ordered h source
low_ordered {x} h source e s = low_same x (ordered_small h source x e s) ∙ e
