-- Totals by halves: what the nodes that join two halves do to the total of a word.
use mathlib.Core.Path.{◌≡◌, sym, subst}
use mathlib.Core.List.{List}
use Prim.Native.Nat.{ℕ, zero, suc, ◌+◌, ◌≤◌}
use native.Mathlib.Omega.{arith}
use lib.ListN.{get_or}
use Rattle.gf64.specs.Field.{◌⊕◌, ◌⊙◌}
use Rattle.polar.specs.Tree.{Tree, map2, map3, map4, tree_sum, All}
use Rattle.polar.proofs.OneToOne.{Symbol}
use Rattle.scms.specs.Mode.{all_candidates}
use Rattle.scms.specs.Nodes.{ordered}
use Rattle.scms.specs.Halves.{Vectors, check_nodes, variable_nodes, clipped_nodes, taken_nodes, check_nodes_by}
use Rattle.scms.proofs.TriedLaws.{Tried, all_tried}
use Rattle.scms.proofs.NodeLaws.{check_le, check_attained, variable_exact}

-- a vector's penalty for a symbol
abbrev pub llr_at : List ℕ → ℕ → ℕ
llr_at v s = get_or v s 0

-- the total of a word over the vectors of its places
unfoldable pub tree_total : (m : ℕ) → Vectors m → Tree ℕ m → ℕ
tree_total m f x = tree_sum m (map2 m llr_at f x)

-- full check nodes: no word of the second half makes the total of both halves smaller
pub check_total_le : (m candidates : ℕ) (h : Tree ℕ m) (f g : Vectors m) (a b : Tree ℕ m) → candidates ≡ all_candidates → All m Symbol a → All m Symbol b
    → tree_total m (check_nodes m candidates h f g) a ≤ tree_total m f (map2 m ◌⊕◌ a b) + tree_total m g (map2 m ◌⊙◌ h b)
unfolding tree_total check_nodes_by tree_sum map2 map3 All
check_total_le zero candidates h f g a b full la lb =
    check_le h f g candidates a b la (subst (λ (n : ℕ). Tried n (ordered h g) b) (sym full) (all_tried (ordered h g) b lb))
check_total_le (suc m) candidates h f g a b full la lb =
    let p = check_total_le m candidates h.0 f.0 g.0 a.0 b.0 full la.0 lb.0 in
    let q = check_total_le m candidates h.1 f.1 g.1 a.1 b.1 full la.1 lb.1 in
    omega arith

-- and one word of the second half attains it
pub check_total_at : (m candidates : ℕ) (h : Tree ℕ m) (f g : Vectors m) (a : Tree ℕ m) → candidates ≡ all_candidates → All m Symbol a
    → (b : Tree ℕ m) × All m Symbol b × (tree_total m f (map2 m ◌⊕◌ a b) + tree_total m g (map2 m ◌⊙◌ h b) ≡ tree_total m (check_nodes m candidates h f g) a)
unfolding tree_total check_nodes_by tree_sum map2 map3 All
check_total_at zero candidates h f g a full la =
    let p = check_attained h f g candidates a (omega arith) la in
    (p.0, p.1.0, p.2)
check_total_at (suc m) candidates h f g a full la =
    let p = check_total_at m candidates h.0 f.0 g.0 a.0 full la.0 in
    let q = check_total_at m candidates h.1 f.1 g.1 a.1 full la.1 in
    let ep = p.2 in
    let eq = q.2 in
    ((p.0, q.0), (p.1, q.1), omega arith)

-- variable nodes that clip nothing: what they hold and what they took off make the total of both halves
pub variable_total : (m cap : ℕ) (h : Tree ℕ m) (f g : Vectors m) (u b : Tree ℕ m) → clipped_nodes m cap h f g u ≡ 0 → All m Symbol b
    → tree_total m (variable_nodes m cap h f g u) b + taken_nodes m h f g u ≡ tree_total m f (map2 m ◌⊕◌ u b) + tree_total m g (map2 m ◌⊙◌ h b)
unfolding tree_total variable_nodes clipped_nodes taken_nodes tree_sum map2 map4 All
variable_total zero cap h f g u b e lb = variable_exact h f g u cap e b lb
variable_total (suc m) cap h f g u b e lb =
    let p = variable_total m cap h.0 f.0 g.0 u.0 b.0 (omega arith) lb.0 in
    let q = variable_total m cap h.1 f.1 g.1 u.1 b.1 (omega arith) lb.1 in
    omega arith
