-- Words, rows and totals as lists and as trees.
use mathlib.Core.Path.{◌≡◌, sym, ap, ap₂, ◌∙◌, subst}
use mathlib.Core.List.{List, [], ◌∷◌, ◌++◌}
use Prim.Native.Nat.{ℕ, ◌+◌, ◌/◌, ◌^◌, ◌<◌}
use native.Mathlib.Nat.{add-zero, not-suc-le-zero}
use native.Mathlib.Numerals.{add-one}
use native.Mathlib.Omega.{arith}
use lib.ListN.{length, get_or, take, length-append, get_or-append}
use lib.Seq.{get_or-take, get_or-append-add, length-take-le, take-suc, ext_get_or}
use Rattle.vector.specs.Vector.{tabulate, vector_at}
use Rattle.vector.proofs.Laws.{get_d_tabulate}
use Rattle.polar_code.specs.Code.{IsWord}
use Rattle.polar.specs.Transform.{transform}
use Rattle.polar.specs.Tree.{Tree, map2, All, leaves, tree_of, Place, here, first, second, at, number}
use Rattle.polar.specs.Halves.{transform_tree, coefs_at, block_transform}
use Rattle.polar.proofs.TreeLaws.{number_lt, map2_at, ext_at, length_leaves, tree_of_leaves, tree_of_at, all_tree_of, all_leaves}
use Rattle.polar.proofs.ByHalves.{by_halves}
use Rattle.polar.proofs.OneToOne.{Symbol}
use Rattle.scms.specs.Totals.{total}
use Rattle.scms.specs.Halves.{frame_tree}
use Rattle.scms.proofs.TreeSums.{sum_of_tree}
use Rattle.scms.proofs.TreeTotals.{llr_at, tree_total}
use Rattle.scms.proofs.Exact.{sent_total, BeginsAt}

-- ---- rows

-- a word that has the symbols of s before place p, and b there
pub begins_by : {m : ℕ} (p : Place m) (s u : Tree ℕ m) (b : ℕ) → ((q : Place m) → number q < number p → at u q ≡ at s q) → at u p ≡ b → BeginsAt s p b u
unfolding BeginsAt at number
begins_by here s u b h e = e
begins_by (first p) s u b h e = begins_by p s.0 u.0 b (λ q l. h (first q) l) e
begins_by (second {m} p) s u b h e = (
  ext_at m u.0 s.0 (λ q. h (first q) (let l = number_lt q in omega arith)),
  begins_by p s.1 u.1 b (λ q l. h (second q) (omega arith)) e,
)

-- and the other way round: b there
pub begins_there : {m : ℕ} (p : Place m) (s u : Tree ℕ m) (b : ℕ) → BeginsAt s p b u → at u p ≡ b
unfolding BeginsAt at
begins_there here s u b h = h
begins_there (first p) s u b h = begins_there p s.0 u.0 b h
begins_there (second p) s u b h = begins_there p s.1 u.1 b h.1

-- and the symbols of s before it
pub begins_before : {m : ℕ} (p q : Place m) (s u : Tree ℕ m) (b : ℕ) → BeginsAt s p b u → number q < number p → at u q ≡ at s q
unfolding BeginsAt at number
begins_before here q s u b h l = absurd (not-suc-le-zero l)
begins_before (first p) (first q) s u b h l = begins_before p q s.0 u.0 b h l
begins_before (first {m} p) (second q) s u b h l = absurd (let k = number_lt p in omega arith)
begins_before (second p) (first {m} q) s u b h l = ap (λ (t : Tree ℕ m). at t q) h.0
begins_before (second p) (second q) s u b h l = begins_before p q s.1 u.1 b h.1 (omega arith)

-- a row of i symbols of s, followed by b
module _ (s : List ℕ) (i b : ℕ) (l : i < length s) where
  -- the row
  abbrev row : List ℕ
  row = take i s ++ (b ∷ [])

  -- the symbols of s in it
  front_long : length (take i s) ≡ i
  front_long = length-take-le i s (omega arith)

  -- it has i + 1 symbols
  pub row_long : length row ≡ i + 1
  row_long = length-append (take i s) (b ∷ []) ∙ ap (λ (x : ℕ). x + 1) front_long

  -- those of s
  row_before : (j : ℕ) → j < i → get_or row j 0 ≡ get_or s j 0
  row_before j lj = get_or-append (take i s) (b ∷ []) 0 j (subst (λ (x : ℕ). j < x) (sym front_long) lj) ∙ get_or-take i s j 0 lj

  -- and b
  row_there : get_or row i 0 ≡ b
  row_there =
      ap (λ (x : ℕ). get_or row x 0) (sym (add-zero i) ∙ ap (λ (x : ℕ). x + 0) (sym front_long)) ∙ get_or-append-add (take i s) (b ∷ []) 0 0

  module _ (u : List ℕ) (lu : length u ≡ length s) where
    -- a list begins with it if it has those symbols
    pub row_by : ((j : ℕ) → j < i → get_or u j 0 ≡ get_or s j 0) → get_or u i 0 ≡ b → take (length row) u ≡ row
    row_by h e =
        let li : i < length u = omega arith in
        let front : take i u ≡ take i s
        = ext_get_or 0 (take i u) (take i s) (length-take-le i u (omega arith) ∙ sym front_long) (λ j lj.
        let k : j < i = subst (λ (x : ℕ). j < x) (length-take-le i u (omega arith)) lj in
        get_or-take i u j 0 k ∙ h j k ∙ sym (get_or-take i s j 0 k)) in
        ap (λ (x : ℕ). take x u) (row_long ∙ add-one i) ∙ take-suc u i 0 li ∙ ap₂ (λ (x : List ℕ) (y : ℕ). x ++ (y ∷ [])) front e

    -- a list that begins with it has its symbols
    row_entry : take (length row) u ≡ row → (j : ℕ) → j < i + 1 → get_or u j 0 ≡ get_or row j 0
    row_entry e j lj = sym (get_or-take (length row) u j 0 (subst (λ (x : ℕ). j < x) (sym row_long) lj)) ∙ ap (λ (x : List ℕ). get_or x j 0) e

    -- and the other way round
    pub row_symbols : take (length row) u ≡ row → (j : ℕ) → j < i → get_or u j 0 ≡ get_or s j 0
    row_symbols e j lj = row_entry e j (omega arith) ∙ row_before j lj

    -- with b at place i
    pub row_last : take (length row) u ≡ row → get_or u i 0 ≡ b
    row_last e = row_entry e i (omega arith) ∙ row_there

-- ---- words

module _ (n : ℕ) where
  -- a tree of symbols is a word
  pub word_leaves : (u : Tree ℕ n) → All n Symbol u → IsWord n (leaves n u)
  word_leaves u h = record { long = length_leaves ℕ n u; symbols = all_leaves 0 Symbol n u h }

  -- and a word is a tree of symbols
  pub tree_word : (u : List ℕ) → IsWord n u → All n Symbol (tree_of 0 n u)
  tree_word u w = all_tree_of 0 Symbol n u w.symbols

-- ---- frames

-- the vector at a place of a frame
pub frame_at : (m : ℕ) (frame : List ℕ) (p : Place m) → at (frame_tree m frame) p ≡ vector_at frame (number p)
unfolding frame_tree
frame_at m frame p =
    tree_of_at [] (tabulate (2 ^ m) (vector_at frame)) p ∙ get_d_tabulate [] (2 ^ m) (vector_at frame) (number p) (number_lt p)

-- ---- totals

module _ (n : ℕ) (cs frame : List ℕ) where
  -- the total of a word
  total_tree : (x : List ℕ) → total n frame x ≡ tree_total n (frame_tree n frame) (tree_of 0 n x)
  unfolding total tree_total
  total_tree x = sym (sum_of_tree n (map2 n llr_at (frame_tree n frame) (tree_of 0 n x)) (λ j. get_or (vector_at frame j) (get_or x j 0) 0) (λ p.
      map2_at llr_at p (frame_tree n frame) (tree_of 0 n x)
      ∙ ap₂ (λ (v : List ℕ) (s : ℕ). get_or v s 0) (frame_at n frame p) (tree_of_at 0 x p)))

  -- of the transform of a word
  pub sent_tree : (u : List ℕ) → length u ≡ 2 ^ n → total n frame (transform n cs u) ≡ sent_total n (coefs_at n 0 (2 ^ n / 2) cs) (frame_tree n frame) (tree_of 0 n u)
  unfolding block_transform
  sent_tree u long =
      let k = coefs_at n 0 (2 ^ n / 2) cs in
      ap (total n frame) (by_halves n cs u long) ∙ total_tree (leaves n (transform_tree n k (tree_of 0 n u)))
      ∙ ap (tree_total n (frame_tree n frame)) (tree_of_leaves 0 n (transform_tree n k (tree_of 0 n u)))

  -- of a tree's
  pub sent_leaves : (u : Tree ℕ n) → total n frame (transform n cs (leaves n u)) ≡ sent_total n (coefs_at n 0 (2 ^ n / 2) cs) (frame_tree n frame) u
  sent_leaves u =
      sent_tree (leaves n u) (length_leaves ℕ n u)
      ∙ ap (λ (x : Tree ℕ n). sent_total n (coefs_at n 0 (2 ^ n / 2) cs) (frame_tree n frame) x) (tree_of_leaves 0 n u)
