-- With coefficients from 1 to 63 the transform is one to one and onto: it is undone by halves.
use mathlib.Core.Path.{◌≡◌, refl, sym, ap, ap₂, ◌∙◌, subst}
use mathlib.Core.List.{List}
use Prim.Native.Nat.{ℕ, zero, suc, ◌+◌, ◌/◌, ◌^◌, ◌<◌}
use native.Mathlib.Omega.{arith}
use lib.Dec.{lit<}
use lib.ListN.{get_or, take, drop}
use lib.Seq.{get_or-take, get_or-drop}
use Rattle.gf64.specs.Field.{◌⊕◌, ◌⊙◌, inverse, NonZero}
use Rattle.gf64.proofs.SumLaws.{sum_lt, sum_back}
use Rattle.gf64.proofs.ProductLaws.{product_lt, inverse_undoes, undoes_inverse}
use Rattle.polar_code.specs.Code.{Coefficients, IsWord}
use Rattle.polar.specs.Transform.{transform}
use Rattle.polar.specs.Tree.{Tree, map2, All, leaves, tree_of, at}
use Rattle.polar.specs.Halves.{Coefs, join, transform_tree, coefs_at, block_transform}
use Rattle.vector.proofs.Entries.{get_d_each}
use Rattle.polar.proofs.TreeLaws.{map2_at, ext_at, all_by, all_at, length_leaves, tree_of_leaves, leaves_tree_of, all_tree_of, all_leaves}
use Rattle.polar.proofs.LayerLaws.{layers_word}
use Rattle.polar.proofs.ByHalves.{by_halves}

-- a symbol, as a property of a place
abbrev pub Symbol : ℕ → Type 0
Symbol s = s < 64

-- ---- by halves

-- every coefficient is from 1 to 63
unfoldable pub AllNonZero : (m : ℕ) → Coefs m → Type 0
AllNonZero zero h = Unit {0}
AllNonZero (suc m) h = All m NonZero h.0 × AllNonZero m h.1 × AllNonZero m h.2

-- a property of what a function makes of the things at each place
all_map2 : {A B C : Type 0} (P : A → Type 0) (Q : B → Type 0) (R : C → Type 0) (f : A → B → C) (m : ℕ) (a : Tree A m) (b : Tree B m)
    → ((x : A) (y : B) → P x → Q y → R (f x y)) → All m P a → All m Q b → All m R (map2 m f a b)
all_map2 P Q R f m a b h p q = all_by R m (map2 m f a b) (λ i. subst R (sym (map2_at f i a b)) (h (at a i) (at b i) (all_at P i a p) (all_at Q i b q)))

-- sums of symbols are symbols
pub sums_symbols : (m : ℕ) (a b : Tree ℕ m) → All m Symbol a → All m Symbol b → All m Symbol (map2 m ◌⊕◌ a b)
sums_symbols m a b p q = all_map2 Symbol Symbol Symbol ◌⊕◌ m a b sum_lt p q

-- products are
pub products_symbols : (m : ℕ) (h b : Tree ℕ m) → All m Symbol (map2 m ◌⊙◌ h b)
products_symbols m h b = all_by Symbol m (map2 m ◌⊙◌ h b) (λ i. subst Symbol (sym (map2_at ◌⊙◌ i h b)) (product_lt (at h i) (at b i)))

-- division by h
quotient : ℕ → ℕ → ℕ
quotient h c = inverse h ⊙ c

-- undone at every place
sums_back : (m : ℕ) (a b : Tree ℕ m) → map2 m ◌⊕◌ (map2 m ◌⊕◌ a b) b ≡ a
sums_back m a b = ext_at m (map2 m ◌⊕◌ (map2 m ◌⊕◌ a b) b) a (λ i.
    map2_at ◌⊕◌ i (map2 m ◌⊕◌ a b) b ∙ ap (λ (x : ℕ). x ⊕ at b i) (map2_at ◌⊕◌ i a b) ∙ sum_back (at a i) (at b i))

module _ (m : ℕ) (h b : Tree ℕ m) (p : All m NonZero h) (q : All m Symbol b) where
  quotients_products : map2 m quotient h (map2 m ◌⊙◌ h b) ≡ b
  unfolding quotient
  quotients_products = ext_at m (map2 m quotient h (map2 m ◌⊙◌ h b)) b (λ i.
      map2_at quotient i h (map2 m ◌⊙◌ h b) ∙ ap (quotient (at h i)) (map2_at ◌⊙◌ i h b)
      ∙ inverse_undoes (at h i) (at b i) (all_at NonZero i h p) (all_at Symbol i b q))

  products_quotients : map2 m ◌⊙◌ h (map2 m quotient h b) ≡ b
  unfolding quotient
  products_quotients = ext_at m (map2 m ◌⊙◌ h (map2 m quotient h b)) b (λ i.
      map2_at ◌⊙◌ i h (map2 m quotient h b) ∙ ap (λ (x : ℕ). at h i ⊙ x) (map2_at quotient i h b)
      ∙ undoes_inverse (at h i) (at b i) (all_at NonZero i h p) (all_at Symbol i b q))

-- quotients are symbols
quotients_symbols : (m : ℕ) (h b : Tree ℕ m) → All m Symbol (map2 m quotient h b)
unfolding quotient
quotients_symbols m h b =
    all_by Symbol m (map2 m quotient h b) (λ i. subst Symbol (sym (map2_at quotient i h b)) (product_lt (inverse (at h i)) (at b i)))

-- the word before the transform, from the word after it
pub undo : (m : ℕ) → Coefs m → Tree ℕ m → Tree ℕ m
undo zero h x = x
undo (suc m) h x =
    let b = map2 m quotient h.0 x.1 in
    (undo m h.1 (map2 m ◌⊕◌ x.0 b), undo m h.2 b)

-- a tree of symbols becomes one of symbols
pub transform_symbols : (m : ℕ) (h : Coefs m) (u : Tree ℕ m) → All m Symbol u → All m Symbol (transform_tree m h u)
unfolding transform_tree join All
transform_symbols zero h u p = p
transform_symbols (suc m) h u p =
    let b = transform_tree m h.2 u.1 in (
      sums_symbols m (transform_tree m h.1 u.0) b (transform_symbols m h.1 u.0 p.0) (transform_symbols m h.2 u.1 p.1),
      products_symbols m h.0 b,
    )

-- and back
pub undo_symbols : (m : ℕ) (h : Coefs m) (x : Tree ℕ m) → All m Symbol x → All m Symbol (undo m h x)
unfolding undo All
undo_symbols zero h x p = p
undo_symbols (suc m) h x p =
    let b = map2 m quotient h.0 x.1 in
    let q = quotients_symbols m h.0 x.1 in
    (undo_symbols m h.1 (map2 m ◌⊕◌ x.0 b) (sums_symbols m x.0 b p.0 q), undo_symbols m h.2 b q)

-- undone after the transform
undo_transform : (m : ℕ) (h : Coefs m) (u : Tree ℕ m) → AllNonZero m h → All m Symbol u → undo m h (transform_tree m h u) ≡ u
unfolding undo transform_tree join All AllNonZero
undo_transform zero h u g p = refl
undo_transform (suc m) h u g p =
    let a = transform_tree m h.1 u.0 in
    let b = transform_tree m h.2 u.1 in
    let q = quotients_products m h.0 b g.0 (transform_symbols m h.2 u.1 p.1) in
    λ i. (
      (ap (λ (x : Tree ℕ m). undo m h.1 (map2 m ◌⊕◌ (map2 m ◌⊕◌ a b) x)) q ∙ ap (undo m h.1) (sums_back m a b) ∙ undo_transform m h.1 u.0 g.1 p.0) i,
      (ap (undo m h.2) q ∙ undo_transform m h.2 u.1 g.2 p.1) i,
    )

-- and before it
pub transform_undo : (m : ℕ) (h : Coefs m) (x : Tree ℕ m) → AllNonZero m h → All m Symbol x → transform_tree m h (undo m h x) ≡ x
unfolding undo transform_tree join All AllNonZero
transform_undo zero h x g p = refl
transform_undo (suc m) h x g p =
    let b = map2 m quotient h.0 x.1 in
    let q = quotients_symbols m h.0 x.1 in
    let r = transform_undo m h.2 b g.2 q in
    let s = transform_undo m h.1 (map2 m ◌⊕◌ x.0 b) g.1 (sums_symbols m x.0 b p.0 q) in
    λ i. (
      (ap₂ (map2 m ◌⊕◌) s r ∙ sums_back m x.0 b) i,
      (ap (map2 m ◌⊙◌ h.0) r ∙ products_quotients m h.0 x.1 g.0 p.1) i,
    )

-- ---- on lists

-- a coefficient, and the 1 past the list's end, is a symbol other than 0
pub coef_nonzero : (cs : List ℕ) → Coefficients cs → (i : ℕ) → NonZero (get_or cs i 1)
coef_nonzero cs g = get_d_each NonZero 1 cs (record { positive = lit< tt; symbol = lit< tt })
    (λ i l. let w = g i l in record { positive = w.least; symbol = (let m = w.most in omega arith) })

-- so are all coefficients of a block
pub coefs_nonzero : (m start stride : ℕ) (cs : List ℕ) → Coefficients cs → AllNonZero m (coefs_at m start stride cs)
unfolding coefs_at AllNonZero
coefs_nonzero zero start stride cs g = tt
coefs_nonzero (suc m) start stride cs g = (
  all_tree_of 1 NonZero m (take (2 ^ m) (drop start cs)) (λ i l.
      subst NonZero (sym (get_or-take (2 ^ m) (drop start cs) i 1 l ∙ get_or-drop start cs i 1)) (coef_nonzero cs g (start + i))),
  coefs_nonzero m (start + stride) stride cs g,
  coefs_nonzero m (start + stride + 2 ^ m / 2) stride cs g,
)

module _ (n : ℕ) (cs : List ℕ) where
  abbrev h : Coefs n
  h = coefs_at n 0 (2 ^ n / 2) cs

  word_tree : (u : List ℕ) → IsWord n u → All n Symbol (tree_of 0 n u)
  word_tree u w = all_tree_of 0 Symbol n u w.symbols

  tree_of_transform : (u : List ℕ) → IsWord n u → tree_of 0 n (transform n cs u) ≡ transform_tree n h (tree_of 0 n u)
  unfolding block_transform
  tree_of_transform u w = ap (tree_of 0 n) (by_halves n cs u w.long) ∙ tree_of_leaves 0 n (transform_tree n h (tree_of 0 n u))

  -- a word becomes a word
  pub transform_word : (u : List ℕ) → IsWord n u → IsWord n (transform n cs u)
  unfolding transform
  transform_word u w = layers_word n n cs u w

  module _ (g : Coefficients cs) where
    -- no two words become the same
    pub one_to_one : (u v : List ℕ) → IsWord n u → IsWord n v → transform n cs u ≡ transform n cs v → u ≡ v
    one_to_one u v a b e =
        let k = coefs_nonzero n 0 (2 ^ n / 2) cs g in
        let same : tree_of 0 n u ≡ tree_of 0 n v
        = sym (undo_transform n h (tree_of 0 n u) k (word_tree u a))
        ∙ ap (undo n h) (sym (tree_of_transform u a) ∙ ap (tree_of 0 n) e ∙ tree_of_transform v b)
        ∙ undo_transform n h (tree_of 0 n v) k (word_tree v b) in
        sym (leaves_tree_of 0 n u a.long) ∙ ap (leaves n) same ∙ leaves_tree_of 0 n v b.long

    -- every word comes from a word
    pub onto : (x : List ℕ) → IsWord n x → (u : List ℕ) × IsWord n u × (transform n cs u ≡ x)
    unfolding block_transform
    onto x w =
        let k = coefs_nonzero n 0 (2 ^ n / 2) cs g in
        let t = undo n h (tree_of 0 n x) in
        let u = leaves n t in
        let lu = length_leaves ℕ n t in (
          u,
          record { long = lu; symbols = all_leaves 0 Symbol n t (undo_symbols n h (tree_of 0 n x) (word_tree x w)) },
          by_halves n cs u lu ∙ ap (λ (y : Tree ℕ n). leaves n (transform_tree n h y)) (tree_of_leaves 0 n t)
              ∙ ap (leaves n) (transform_undo n h (tree_of 0 n x) k (word_tree x w)) ∙ leaves_tree_of 0 n x w.long,
        )
