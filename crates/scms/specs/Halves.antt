-- The decoder by halves: a block of 2^m places is decoded by decoding its first half from check nodes, and then its
-- second half from variable nodes. A proof device, and the way that the code goes; proofs/ByHalves shows that it gives
-- what specs/Decoder says.
use Rattle.std.specs.Prelude.{ℕ, zero, suc, ◌+◌, ◌/◌, ◌^◌, ◌<◌, ◌≡◌, List, [], get_or}
use Rattle.vector.specs.Vector.{tabulate, vector_at, joined}
use Rattle.polar_code.specs.Code.{Code, kind_of}
use Rattle.polar.specs.Tree.{Tree, map1, map3, map4, tree_sum, tree_of, leaves}
use Rattle.polar.specs.Transform.{transform}
use Rattle.polar.specs.Halves.{Coefs, join, coefs_at}
use Rattle.scms.specs.Mode.{Mode}
use Rattle.scms.specs.Nodes.{check_node_by, variable_node, lowered, clipped_entries}
use Rattle.scms.specs.Decision.{decision}
use Rattle.scms.specs.Decoder.{held, symbols, report, totals, count}

-- the vectors of 2^m places
abbrev pub Vectors : ℕ → Type 0
Vectors m = Tree (List ℕ) m

-- what decoding a block answers: the symbols decided, their transform, the vectors held, what was taken off along each
-- place's line inside the block, and the count of clipped entries
pub record BlockAnswer (m : ℕ) : Type 0 where
  pub symbols : Tree ℕ m
  pub word : Tree ℕ m
  pub held : Vectors m
  pub taken : Tree ℕ m
  pub count : ℕ

-- the check node of a kernel, by whatever rule: from its coefficient, θ's vector and φ's
abbrev pub CheckNode : Type 0
CheckNode = (h : ℕ) (theta phi : List ℕ) → List ℕ

-- the check nodes that join two halves
unfoldable pub check_nodes_by : CheckNode → (m : ℕ) → Tree ℕ m → Vectors m → Vectors m → Vectors m
check_nodes_by check m h f g = map3 m check h f g

-- those that try m values
abbrev pub check_nodes : (m candidates : ℕ) → Tree ℕ m → Vectors m → Vectors m → Vectors m
check_nodes m candidates h f g = check_nodes_by (check_node_by candidates) m h f g

-- the variable nodes, with the first half's word u decided
unfoldable pub variable_nodes : (m cap : ℕ) → Tree ℕ m → Vectors m → Vectors m → Tree ℕ m → Vectors m
variable_nodes m cap h f g u = map4 m (λ k v w s. variable_node cap k s v w) h f g u

-- their count of clipped entries
unfoldable pub clipped_nodes : (m cap : ℕ) → Tree ℕ m → Vectors m → Vectors m → Tree ℕ m → ℕ
clipped_nodes m cap h f g u = tree_sum m (map4 m (λ k v w s. clipped_entries cap k s v w) h f g u)

-- what they took off, all kernels counted
unfoldable pub taken_nodes : (m : ℕ) → Tree ℕ m → Vectors m → Vectors m → Tree ℕ m → ℕ
taken_nodes m h f g u = tree_sum m (map4 m (λ k v w s. (lowered k s v w).taken) h f g u)

-- the decoder of a block, by a rule for its check nodes: the cap, its coefficients, its map bytes and its vectors
unfoldable pub decode_tree_by : CheckNode → (m cap : ℕ) → Coefs m → Tree ℕ m → Vectors m → BlockAnswer m
decode_tree_by check zero cap k map f =
    let s = decision (kind_of map) f in
    record { symbols = s; word = s; held = f; taken = 0; count = 0 }
decode_tree_by check (suc m) cap k map f =
    let a = decode_tree_by check m cap k.1 map.0 (check_nodes_by check m k.0 f.0 f.1) in
    let b = decode_tree_by check m cap k.2 map.1 (variable_nodes m cap k.0 f.0 f.1 a.word) in
    record {
      symbols = (a.symbols, b.symbols);
      word = join m k.0 a.word b.word;
      held = (a.held, b.held);
      taken = (a.taken, map1 m (λ x. x + taken_nodes m k.0 f.0 f.1 a.word) b.taken);
      count = a.count + clipped_nodes m cap k.0 f.0 f.1 a.word + b.count;
    }

-- the decoder of a block by a mode
abbrev pub decode_tree : (m : ℕ) → Mode → Coefs m → Tree ℕ m → Vectors m → BlockAnswer m
decode_tree m mode k map f = decode_tree_by (check_node_by mode.candidates) m mode.cap k map f

-- the vectors of a frame
unfoldable pub frame_tree : (m : ℕ) → List ℕ → Vectors m
frame_tree m frame = tree_of [] m (tabulate (2 ^ m) (vector_at frame))

-- the whole word, decoded by halves
unfoldable pub decode_halves : (code : Code) → Mode → (frame : List ℕ) → BlockAnswer code.n
decode_halves code mode frame =
    decode_tree code.n mode (coefs_at code.n 0 (2 ^ code.n / 2) code.coefs) (tree_of 0 code.n code.map)
    (frame_tree code.n frame)

-- the two forms of the decoder say the same: symbols, vectors held, totals, count; and the word by halves is the
-- decoded word, the transform (by layers) of the symbols answered
pub record SameAnswer (code : Code) (mode : Mode) (frame : List ℕ) : Type 0 where
  pub same_symbols : leaves code.n (decode_halves code mode frame).symbols ≡ symbols code mode frame
  pub same_held : (i : ℕ) → i < 2 ^ code.n
      → get_or (leaves code.n (decode_halves code mode frame).held) i [] ≡ held code mode frame i
  pub same_report : joined (2 ^ code.n) (λ i. get_or (leaves code.n (decode_halves code mode frame).held) i [])
      ≡ report code mode frame
  pub same_totals : leaves code.n (decode_halves code mode frame).taken ≡ totals code mode frame
  pub same_count : (decode_halves code mode frame).count ≡ count code mode frame
  pub same_word : leaves code.n (decode_halves code mode frame).word
      ≡ transform code.n code.coefs (symbols code mode frame)
