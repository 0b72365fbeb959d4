-- The transform by halves: a word of 2^m places is made from two words of half the length. A proof device, in which
-- the functions that `encode` calls say what they do; `transform`, by layers, is the definition, and proofs/ByHalves
-- shows that the two agree.
use Rattle.std.specs.Prelude.{ℕ, zero, suc, ◌+◌, ◌/◌, ◌^◌, List, take, drop}
use Rattle.gf64.specs.Field.{◌⊕◌, ◌⊙◌}
use Rattle.polar.specs.Tree.{Tree, map2, leaves, tree_of}

-- the coefficients of 2^m places: those of the kernels that join the halves, and those of the two halves
abbrev pub Coefs : ℕ → Type 0
Coefs zero = Unit {0}
Coefs (suc m) = Tree ℕ m × Coefs m × Coefs m

-- two halves joined: the sums, then the products
unfoldable pub join : (m : ℕ) → Tree ℕ m → Tree ℕ m → Tree ℕ m → Tree ℕ (suc m)
join m h a b = (map2 m ◌⊕◌ a b, map2 m ◌⊙◌ h b)

-- each half transformed, and the two joined
unfoldable pub transform_tree : (m : ℕ) → Coefs m → Tree ℕ m → Tree ℕ m
transform_tree zero h u = u
transform_tree (suc m) h u = join m h.0 (transform_tree m h.1 u.0) (transform_tree m h.2 u.1)

-- the coefficients of a block of 2^m places as they lie in the list of all: those that join its halves from `start`
-- on, those of the next layer `stride` further on
unfoldable pub coefs_at : (m start stride : ℕ) → List ℕ → Coefs m
coefs_at zero start stride cs = tt
coefs_at (suc m) start stride cs = (
  tree_of 1 m (take (2 ^ m) (drop start cs)),
  coefs_at m (start + stride) stride cs,
  coefs_at m (start + stride + 2 ^ m / 2) stride cs,
)

-- such a block, transformed
unfoldable pub block_transform : (m start stride : ℕ) → List ℕ → List ℕ → List ℕ
block_transform m start stride cs u = leaves m (transform_tree m (coefs_at m start stride cs) (tree_of 0 m u))
