-- By halves, where nothing is clipped: what is held at a place and what was taken off along its line make the least total of the symbols
-- decided before it, followed by a value.
use mathlib.Core.Path.{◌≡◌, refl, sym, ap, ◌∙◌, subst}
use Prim.Native.Nat.{ℕ, suc, ◌+◌, ◌<◌}
use native.Mathlib.Nat.{le_trans, le_of_eq, le_refl, add-zero, add_assoc, add-le-add}
use native.Mathlib.Omega.{arith}
use Rattle.gf64.specs.Field.{◌⊕◌, ◌⊙◌}
use Rattle.polar.specs.Tree.{Tree, map1, map2, tree_sum, All, Place, here, first, second, at}
use Rattle.polar.specs.Halves.{Coefs, join, transform_tree}
use Rattle.polar.proofs.TreeLaws.{map1_at}
use Rattle.polar.proofs.OneToOne.{Symbol, AllNonZero, transform_symbols, undo, undo_symbols, transform_undo}
use Rattle.scms.specs.Mode.{Mode, Full}
use Rattle.scms.specs.Totals.{Least}
use Rattle.scms.specs.Halves.{Vectors, check_nodes, variable_nodes, clipped_nodes, taken_nodes, decode_tree, decode_tree_by}
use Rattle.scms.proofs.TreeTotals.{llr_at, tree_total, check_total_le, check_total_at, variable_total}
use Rattle.scms.proofs.TreeDecoder.{decoded_symbols, word_transform}

-- the total of the transform of a word
abbrev pub sent_total : (m : ℕ) → Coefs m → Vectors m → Tree ℕ m → ℕ
sent_total m k f u = tree_total m f (transform_tree m k u)

-- a word of symbols with a property
abbrev pub Words : (m : ℕ) → (Tree ℕ m → Type 0) → Tree ℕ m → Type 0
Words m P u = All m Symbol u × P u

-- one layer: m + 1 layers, of which the first joins two halves
module _ (m : ℕ) (mode : Mode) (k : Coefs (suc m)) (f : Vectors (suc m)) (nz : AllNonZero (suc m) k) where
  -- full check nodes: the least over a free second half
  pub least_check : Full mode → (P : Tree ℕ m → Type 0) (t : ℕ) → Least (Words m P) (sent_total m k.1 (check_nodes m mode.candidates k.0 f.0 f.1)) t
      → Least (Words (suc m) (λ u. P u.0)) (sent_total (suc m) k f) t
  unfolding transform_tree join All tree_total tree_sum map2 AllNonZero
  least_check full P t l =
      let a = transform_tree m k.1 l.by in
      let p = check_total_at m mode.candidates k.0 f.0 f.1 a full (transform_symbols m k.1 l.by l.meets.0) in
      let q = transform_undo m k.2 p.0 nz.2 p.1 in
      record {
        by = (l.by, undo m k.2 p.0);
        meets = ((l.meets.0, undo_symbols m k.2 p.0 p.1), l.meets.1);
        gives = ap (λ (x : Tree ℕ m). tree_total m f.0 (map2 m ◌⊕◌ a x) + tree_total m f.1 (map2 m ◌⊙◌ k.0 x)) q ∙ p.2 ∙ l.gives;
        bound = λ u h. le_trans (l.bound u.0 (h.0.0, h.1))
            (check_total_le m mode.candidates k.0 f.0 f.1 (transform_tree m k.1 u.0) (transform_tree m k.2 u.1) full
            (transform_symbols m k.1 u.0 h.0.0) (transform_symbols m k.2 u.1 h.0.1));
      }

  -- variable nodes that clip nothing, with the first half decided as s and its word w: each total is less by what they took off
  module _ (s w : Tree ℕ m) (ls : All m Symbol s) (ew : w ≡ transform_tree m k.1 s) (e : clipped_nodes m mode.cap k.0 f.0 f.1 w ≡ 0) where
    -- the total of a word whose first half is s, from the second half's
    whole : (u v : Tree ℕ m) → u ≡ s → All m Symbol v
        → tree_total m (variable_nodes m mode.cap k.0 f.0 f.1 w) (transform_tree m k.2 v) + taken_nodes m k.0 f.0 f.1 w
        ≡ sent_total (suc m) k f (u, v)
    unfolding transform_tree join tree_total tree_sum map2
    whole u v eu lv =
        variable_total m mode.cap k.0 f.0 f.1 w (transform_tree m k.2 v) e (transform_symbols m k.2 v lv)
        ∙ ap (λ (x : Tree ℕ m). tree_total m f.0 (map2 m ◌⊕◌ x (transform_tree m k.2 v)) + tree_total m f.1 (map2 m ◌⊙◌ k.0 (transform_tree m k.2 v)))
        (ew ∙ ap (transform_tree m k.1) (sym eu))

    -- the least over the second half, the first being s
    pub least_variable : (P : Tree ℕ m → Type 0) (t : ℕ) → Least (Words m P) (sent_total m k.2 (variable_nodes m mode.cap k.0 f.0 f.1 w)) t
        → Least (Words (suc m) (λ u. (u.0 ≡ s) × P u.1)) (sent_total (suc m) k f) (t + taken_nodes m k.0 f.0 f.1 w)
    unfolding All
    least_variable P t l = record {
      by = (s, l.by);
      meets = ((ls, l.meets.0), (refl, l.meets.1));
      gives = sym (whole s l.by refl l.meets.0) ∙ ap (λ (x : ℕ). x + taken_nodes m k.0 f.0 f.1 w) l.gives;
      bound = λ u h. le_trans (add-le-add (l.bound u.1 (h.0.1, h.1.1)) (le_refl (taken_nodes m k.0 f.0 f.1 w)))
          (le_of_eq (whole u.0 u.1 h.1.0 h.0.1));
    }

-- u begins with the symbols of s before place i, then b
unfoldable pub BeginsAt : {m : ℕ} → Tree ℕ m → Place m → ℕ → Tree ℕ m → Type 0
BeginsAt s here b u = u ≡ b
BeginsAt s (first i) b u = BeginsAt s.0 i b u.0
BeginsAt s (second i) b u = (u.0 ≡ s.0) × BeginsAt s.1 i b u.1

-- the least total of what was decided before place i, followed by b
pub exact : {m : ℕ} (i : Place m) (mode : Mode) (k : Coefs m) (map : Tree ℕ m) (f : Vectors m) → Full mode → AllNonZero m k → (decode_tree m mode k map f).count ≡ 0 → (b : ℕ) → b < 64
    → Least (Words m (BeginsAt (decode_tree m mode k map f).symbols i b)) (sent_total m k f)
    (llr_at (at (decode_tree m mode k map f).held i) b + at (decode_tree m mode k map f).taken i)
unfolding decode_tree_by transform_tree at BeginsAt All tree_total tree_sum map2 AllNonZero
exact here mode k map f full nz e b lb = record {
  by = b;
  meets = (lb, refl);
  gives = sym (add-zero (llr_at f b));
  bound = λ u p. le_of_eq (add-zero (llr_at f b) ∙ ap (llr_at f) (sym p.1));
}
exact (first {m} i) mode k map f full nz e b lb =
    let a = decode_tree m mode k.1 map.0 (check_nodes m mode.candidates k.0 f.0 f.1) in
    least_check m mode k f nz full (BeginsAt a.symbols i b) (llr_at (at a.held i) b + at a.taken i)
    (exact i mode k.1 map.0 (check_nodes m mode.candidates k.0 f.0 f.1) full nz.1 (omega arith) b lb)
exact (second {m} i) mode k map f full nz e b lb =
    let c = check_nodes m mode.candidates k.0 f.0 f.1 in
    let a = decode_tree m mode k.1 map.0 c in
    let v = variable_nodes m mode.cap k.0 f.0 f.1 a.word in
    let d = decode_tree m mode k.2 map.1 v in
    let t = taken_nodes m k.0 f.0 f.1 a.word in
    let q : llr_at (at d.held i) b + at d.taken i + t ≡ llr_at (at d.held i) b + at (map1 m (λ x. x + t) d.taken) i
    = add_assoc (llr_at (at d.held i) b) (at d.taken i) t ∙ ap (λ (x : ℕ). llr_at (at d.held i) b + x) (sym (map1_at (λ x. x + t) i d.taken)) in
    subst (Least (Words (suc m) (λ u. (u.0 ≡ a.symbols) × BeginsAt d.symbols i b u.1)) (sent_total (suc m) k f)) q
    (least_variable m mode k f nz a.symbols a.word (decoded_symbols m mode k.1 map.0 c) (word_transform m mode k.1 map.0 c) (omega arith)
    (BeginsAt d.symbols i b) (llr_at (at d.held i) b + at d.taken i) (exact i mode k.2 map.1 v full nz.2 (omega arith) b lb))
