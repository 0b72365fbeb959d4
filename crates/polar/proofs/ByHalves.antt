-- The transform by layers is the transform by halves, for every number of layers.
use mathlib.Core.Path.{◌≡◌, refl, sym, ap, ap₂, ◌∙◌, subst}
use mathlib.Core.List.{List}
use Prim.Native.Nat.{ℕ, zero, suc, ◌+◌, ◌*◌, ◌/◌, ◌^◌, ◌-◌, ◌≤◌}
use native.Mathlib.Nat.{zero-add}
use native.Mathlib.Omega.{arith}
use lib.ListN.{length, get_or, take, drop}
use Rattle.gf64.specs.Field.{◌⊕◌, ◌⊙◌}
use Rattle.polar.specs.Transform.{coefficient, layer, layers, transform}
use Rattle.polar.specs.Tree.{Tree, map2, tree_of, at, number}
use Rattle.polar.specs.Halves.{join, transform_tree, coefs_at, block_transform}
use Rattle.polar.proofs.Numbers.{two_pow}
use Rattle.polar.proofs.TreeLaws.{map2_at, ext_at, leaves_by}
use Rattle.polar.proofs.LayerLaws.{layers_long}
use Rattle.polar.proofs.Windows.{window, window_at, window_all, first_made, second_made, block_coefs}

-- layer d + 1 on the block of 2 × 2^m places from o on, block w of that layer
module _ (n d m w : ℕ) (e : d + suc m ≡ n) (fits : w * (2 ^ m + 2 ^ m) + (2 ^ m + 2 ^ m) ≤ 2 ^ n) (cs x : List ℕ) (long : length x ≡ 2 ^ n) where
  -- where the block begins
  abbrev o : ℕ
  o = w * (2 ^ m + 2 ^ m)

  -- the word after the layer
  abbrev y : List ℕ
  y = layer n (suc d) cs x

  -- its first half is the sums
  sums : window 0 m o y ≡ map2 m ◌⊕◌ (window 0 m o x) (window 0 m (o + 2 ^ m) x)
  unfolding layer
  sums = ext_at m (window 0 m o y) (map2 m ◌⊕◌ (window 0 m o x) (window 0 m (o + 2 ^ m) x)) (λ p.
      first_made n d m w e fits 0 (λ t p r. p ⊕ r) (λ t p r. coefficient n (suc d) t cs ⊙ r) x long p
      ∙ sym (map2_at ◌⊕◌ p (window 0 m o x) (window 0 m (o + 2 ^ m) x)))

  -- its second half the products, with the coefficients of the block's kernels from `start` on
  products : (start : ℕ) → start ≡ d * (2 ^ n / 2) + w * 2 ^ m
      → window 0 m (o + 2 ^ m) y ≡ map2 m ◌⊙◌ (tree_of 1 m (take (2 ^ m) (drop start cs))) (window 0 m (o + 2 ^ m) x)
  unfolding layer
  products start es = ext_at m (window 0 m (o + 2 ^ m) y) (map2 m ◌⊙◌ (tree_of 1 m (take (2 ^ m) (drop start cs))) (window 0 m (o + 2 ^ m) x)) (λ p.
      second_made n d m w e fits 0 (λ t p r. p ⊕ r) (λ t p r. coefficient n (suc d) t cs ⊙ r) x long p
      ∙ ap (λ (h : ℕ). h ⊙ at (window 0 m (o + 2 ^ m) x) p) (block_coefs n d m w start cs es p)
      ∙ sym (map2_at ◌⊙◌ p (tree_of 1 m (take (2 ^ m) (drop start cs))) (window 0 m (o + 2 ^ m) x)))

module _ (n : ℕ) (cs u : List ℕ) (long : length u ≡ 2 ^ n) where
  -- after the last m layers each block of 2^m places is the block of u, transformed by halves
  pub block_halves : (m d w o start : ℕ) → d + m ≡ n → o ≡ w * 2 ^ m → o + 2 ^ m ≤ 2 ^ n → start ≡ d * (2 ^ n / 2) + o / 2
      → window 0 m o (layers n m cs u) ≡ transform_tree m (coefs_at m start (2 ^ n / 2) cs) (window 0 m o u)
  unfolding window transform_tree coefs_at join layers
  block_halves zero d w o start e eo fits es = refl
  block_halves (suc m) d w o start e eo fits es =
      let q = two_pow m in
      let x = layers n m cs u in
      let lx = layers_long n m cs u ∙ long in
      let l : n - m ≡ suc d = omega arith in
      let o₁ : o ≡ w * (2 ^ m + 2 ^ m) = eo ∙ ap (λ (k : ℕ). w * k) q in
      let s = subst (λ (k : ℕ). window 0 m k (layer n (suc d) cs x) ≡ map2 m ◌⊕◌ (window 0 m k x) (window 0 m (k + 2 ^ m) x)) (sym o₁)
      (sums n d m w e (omega arith) cs x lx) in
      let t = subst (λ (k : ℕ). window 0 m (k + 2 ^ m) (layer n (suc d) cs x) ≡ map2 m ◌⊙◌ (tree_of 1 m (take (2 ^ m) (drop start cs))) (window 0 m (k + 2 ^ m) x)) (sym o₁)
      (products n d m w e (omega arith) cs x lx start (omega arith)) in
      let a = block_halves m (suc d) (w * 2) o (start + 2 ^ n / 2) (omega arith) (omega arith) (omega arith) (omega arith) in
      let b = block_halves m (suc d) (w * 2 + 1) (o + 2 ^ m) (start + 2 ^ n / 2 + 2 ^ m / 2) (omega arith) (omega arith) (omega arith) (omega arith) in
      ap (λ (k : ℕ). window 0 (suc m) o (layer n k cs x)) l
      ∙ (λ i. ((s ∙ ap₂ (map2 m ◌⊕◌) a b) i, (t ∙ ap (map2 m ◌⊙◌ (tree_of 1 m (take (2 ^ m) (drop start cs)))) b) i))

  -- the whole word is one block
  pub by_halves : transform n cs u ≡ block_transform n 0 (2 ^ n / 2) cs u
  unfolding transform block_transform
  by_halves =
      let same = block_halves n 0 0 0 0 (zero-add n) (omega arith) (omega arith) (omega arith) in
      leaves_by 0 n (layers n n cs u) (transform_tree n (coefs_at n 0 (2 ^ n / 2) cs) (tree_of 0 n u)) (layers_long n n cs u ∙ long) (λ p.
      ap (λ (j : ℕ). get_or (layers n n cs u) j 0) (sym (zero-add (number p))) ∙ sym (window_at 0 p 0 (layers n n cs u))
      ∙ ap (λ (x : Tree ℕ n). at x p) (same ∙ ap (transform_tree n (coefs_at n 0 (2 ^ n / 2) cs)) (sym (window_all 0 n u))))
