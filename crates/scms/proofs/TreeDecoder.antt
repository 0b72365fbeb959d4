-- The decoder by halves: what it decides, and its word.
use mathlib.Core.Path.{◌≡◌, refl, sym, ap₂, subst}
use Prim.Native.Nat.{ℕ, zero, suc}
use Rattle.polar_code.specs.Code.{kind_of}
use Rattle.polar.specs.Tree.{Tree, All, Place, here, first, second, at}
use Rattle.polar.specs.Halves.{Coefs, join, transform_tree}
use Rattle.polar.proofs.OneToOne.{Symbol, transform_symbols}
use Rattle.scms.specs.Mode.{Mode}
use Rattle.scms.specs.Decision.{decision}
use Rattle.scms.specs.Halves.{Vectors, check_nodes, variable_nodes, decode_tree, decode_tree_by}
use Rattle.scms.proofs.DecisionLaws.{decision_lt}

-- every place gets a symbol
pub decoded_symbols : (m : ℕ) (mode : Mode) (k : Coefs m) (map : Tree ℕ m) (f : Vectors m) → All m Symbol (decode_tree m mode k map f).symbols
unfolding decode_tree_by All
decoded_symbols zero mode k map f = decision_lt map f
decoded_symbols (suc m) mode k map f =
    let c = check_nodes m mode.candidates k.0 f.0 f.1 in (
      decoded_symbols m mode k.1 map.0 c,
      decoded_symbols m mode k.2 map.1 (variable_nodes m mode.cap k.0 f.0 f.1 (decode_tree m mode k.1 map.0 c).word),
    )

-- it is decided from what is held there
pub decoded_from : {m : ℕ} (p : Place m) (mode : Mode) (k : Coefs m) (map : Tree ℕ m) (f : Vectors m)
    → at (decode_tree m mode k map f).symbols p ≡ decision (kind_of (at map p)) (at (decode_tree m mode k map f).held p)
unfolding decode_tree_by at
decoded_from here mode k map f = refl
decoded_from (first {m} p) mode k map f = decoded_from p mode k.1 map.0 (check_nodes m mode.candidates k.0 f.0 f.1)
decoded_from (second {m} p) mode k map f =
    decoded_from p mode k.2 map.1
    (variable_nodes m mode.cap k.0 f.0 f.1 (decode_tree m mode k.1 map.0 (check_nodes m mode.candidates k.0 f.0 f.1)).word)

-- the word is the transform of the symbols
pub word_transform : (m : ℕ) (mode : Mode) (k : Coefs m) (map : Tree ℕ m) (f : Vectors m)
    → (decode_tree m mode k map f).word ≡ transform_tree m k (decode_tree m mode k map f).symbols
unfolding decode_tree_by transform_tree
word_transform zero mode k map f = refl
word_transform (suc m) mode k map f =
    let c = check_nodes m mode.candidates k.0 f.0 f.1 in
    ap₂ (join m k.0) (word_transform m mode k.1 map.0 c)
    (word_transform m mode k.2 map.1 (variable_nodes m mode.cap k.0 f.0 f.1 (decode_tree m mode k.1 map.0 c).word))

-- so it has symbols only
pub decoded_word : (m : ℕ) (mode : Mode) (k : Coefs m) (map : Tree ℕ m) (f : Vectors m) → All m Symbol (decode_tree m mode k map f).word
decoded_word m mode k map f =
    subst (All m Symbol) (sym (word_transform m mode k map f)) (transform_symbols m k (decode_tree m mode k map f).symbols (decoded_symbols m mode k map f))
