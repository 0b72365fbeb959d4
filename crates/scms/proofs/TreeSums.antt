-- Sums over the places of a tree, and sums by index.
use mathlib.Core.Path.{◌≡◌, sym, ap, ap₂, ◌∙◌}
use Prim.Native.Nat.{ℕ, zero, suc, ◌+◌, ◌^◌}
use native.Mathlib.Nat.{zero-add}
use Rattle.vector.specs.Vector.{sum_to}
use Rattle.vector.proofs.Laws.{sum_split}
use Rattle.polar.specs.Tree.{Tree, tree_sum, Place, here, first, second, at, number}
use Rattle.polar.proofs.Numbers.{two_pow}

-- the sum of a tree is the sum of what its places have by number
pub sum_of_tree : (m : ℕ) (t : Tree ℕ m) (f : ℕ → ℕ) → ((p : Place m) → at t p ≡ f (number p)) → tree_sum m t ≡ sum_to (2 ^ m) f
unfolding tree_sum sum_to at number
sum_of_tree zero t f h = h here ∙ sym (zero-add (f 0))
sum_of_tree (suc m) t f h =
    ap₂ (λ (x y : ℕ). x + y) (sum_of_tree m t.0 f (λ p. h (first p))) (sum_of_tree m t.1 (λ i. f (2 ^ m + i)) (λ p. h (second p)))
    ∙ sym (sum_split (2 ^ m) (2 ^ m) f) ∙ ap (λ (k : ℕ). sum_to k f) (sym (two_pow m))
