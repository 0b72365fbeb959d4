-- With m = 64 the decoder by halves is the one whose check nodes follow the full rule. That one is quick to compute: it
-- does not first find out for each node that all 64 values are tried.
use mathlib.Core.Path.{◌≡◌, sym, ap, ◌∙◌}
use mathlib.Core.List.{List, []}
use Prim.Native.Nat.{ℕ, ◌/◌, ◌^◌, ◌<◌}
use lib.ListN.{get_or}
use Rattle.vector.specs.Vector.{joined}
use Rattle.polar_code.specs.Code.{Code}
use Rattle.polar.specs.Tree.{tree_of, leaves}
use Rattle.polar.specs.Halves.{coefs_at}
use Rattle.scms.specs.Mode.{Mode, Full}
use Rattle.scms.specs.Nodes.{check_node, check_node_by}
use Rattle.scms.specs.Decoder.{held, symbols, report, totals, count}
use Rattle.scms.specs.Halves.{BlockAnswer, CheckNode, decode_tree_by, frame_tree, decode_halves}
use Rattle.scms.proofs.NodeLaws.{check_full}
use Rattle.scms.proofs.ByHalves.{same_answer}

-- the whole word, by halves and with full check nodes
unfoldable pub full_halves : (code : Code) (cap : ℕ) (frame : List ℕ) → BlockAnswer code.n
full_halves code cap frame =
    decode_tree_by check_node code.n cap (coefs_at code.n 0 (2 ^ code.n / 2) code.coefs) (tree_of 0 code.n code.map)
    (frame_tree code.n frame)

-- the two rules are one
same_rule : (mode : Mode) → Full mode → ◌≡◌ {A = CheckNode} (check_node_by mode.candidates) check_node
same_rule mode full = ap check_node_by full ∙ (λ i h v w. check_full h v w i)

-- so the answers are the same
pub full_halves_same : (code : Code) (mode : Mode) (frame : List ℕ) → Full mode → decode_halves code mode frame ≡ full_halves code mode.cap frame
unfolding decode_halves full_halves
full_halves_same code mode frame full =
    ap (λ (check : CheckNode).
    decode_tree_by check code.n mode.cap (coefs_at code.n 0 (2 ^ code.n / 2) code.coefs) (tree_of 0 code.n code.map) (frame_tree code.n frame))
    (same_rule mode full)

-- and what the decoder's definition gives with m = 64 is read from that answer
module _ (code : Code) (mode : Mode) (frame : List ℕ) (full : Full mode) where
  -- the number of layers
  abbrev n : ℕ
  n = code.n

  -- the answer with full check nodes
  abbrev A : BlockAnswer n
  A = full_halves code mode.cap frame

  -- the symbols
  pub full_symbols : symbols code mode frame ≡ leaves n A.symbols
  full_symbols = sym (same_answer code mode frame).same_symbols ∙ ap (λ (a : BlockAnswer n). leaves n a.symbols) (full_halves_same code mode frame full)

  -- the vector held at place i
  pub full_held : (i : ℕ) → i < 2 ^ n → held code mode frame i ≡ get_or (leaves n A.held) i []
  full_held i l =
      sym ((same_answer code mode frame).same_held i l)
      ∙ ap (λ (a : BlockAnswer n). get_or (leaves n a.held) i []) (full_halves_same code mode frame full)

  -- the report
  pub full_report : report code mode frame ≡ joined (2 ^ n) (λ i. get_or (leaves n A.held) i [])
  full_report =
      sym (same_answer code mode frame).same_report
      ∙ ap (λ (a : BlockAnswer n). joined (2 ^ n) (λ i. get_or (leaves n a.held) i [])) (full_halves_same code mode frame full)

  -- the totals
  pub full_totals : totals code mode frame ≡ leaves n A.taken
  full_totals = sym (same_answer code mode frame).same_totals ∙ ap (λ (a : BlockAnswer n). leaves n a.taken) (full_halves_same code mode frame full)

  -- the count
  pub full_count : count code mode frame ≡ A.count
  full_count = sym (same_answer code mode frame).same_count ∙ ap (λ (a : BlockAnswer n). a.count) (full_halves_same code mode frame full)
