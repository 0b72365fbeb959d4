-- `decode_block` meets its contract: the halves are decoded one after the other, one layer less each, from the nodes of
-- the kernels that join them (BlockLaws).
use Rattle.std.proofs.Common.{◌≡◌, ℕ, ◌-◌, ◌*◌, ◌/◌, ◌<◌, arith, length, List}
use Rattle.vector.proofs.LentParts.{put, put_drop, put_long, tail}
use Rattle.polar.proofs.JoinLaws.{joined_products}
use Rattle.decoder.specs.Parts.{BlockGiven}
use Rattle.decoder.specs.declared.vectors.BlockAt.{BlockAt}
use Rattle.decoder.proofs.HalvesLaws as halves
use Rattle.decoder.proofs.BlockLaws as laws
use Rattle.decoder.proofs.block.+decode_block.Goals as goal
use Rattle.decoder.proofs.block.+decode_block.Goals.{After-decode_block-left, After-decode_block-right}

-- the number of layers falls at each call
fewer : (layers t : ℕ) → (layers ≡ 0 → ⊥) → layers ≡ t → layers - 1 < t
fewer layers t ne e = omega arith

-- the report, with φ's vectors in its second half, has the length that it had: so the block is given what it was
pub noted_given : {block : BlockAt} {cs map frame work word symbols report totals : List ℕ} (ne : block.layers ≡ 0 → ⊥)
    (g : BlockGiven block cs map frame work word symbols report totals) (room : List ℕ) (e : length room ≡ length (tail (64 * (length map / 2)) report))
    → BlockGiven block cs map frame work word symbols (put (64 * (length map / 2)) report room) totals
noted_given {map = map} {report = report} ne g room e =
    laws.at_report ne g (put_long (64 * (length map / 2)) report room (laws.at_sizes ne g).in_report e)

-- ---- what the first half left
abbrev first_left : (t : ℕ) → After-decode_block-left t → halves.Left
first_left t c = record {
  work = c.decode_block-left.new.work;
  word = c.decode_block-left.new.word;
  symbols = c.decode_block-left.new.symbols;
  report = c.decode_block-left.new.report;
  totals = c.decode_block-left.new.totals;
  count = c.decode_block-left.result;
}

-- the block is still given what it was
abbrev again : (t : ℕ) (c : After-decode_block-left t) → let a = c.args in
    BlockGiven a.block a.coefs.now a.map.now a.frame.now a.work.now a.word.now a.symbols.now
    (put (64 * (length a.map.now / 2)) a.report.now c.check_nodes.new.room) a.totals.now
again t c = noted_given c.if-block-eq0.false c.requires.0 c.check_nodes.new.room c.check_nodes.auto.room

first_half : (t : ℕ) (c : After-decode_block-left t)
    → laws.FirstHalf c.if-block-eq0.false (again t c) c.check_nodes.new.work c.check_nodes.new.room (first_left t c)
first_half t c = record {
  checked_long = c.check_nodes.auto.work;
  checked = c.check_nodes.ensures;
  in_report = put_drop (64 * (length c.args.map.now / 2)) c.args.report.now c.check_nodes.new.room
      (laws.at_sizes c.if-block-eq0.false c.requires.0).in_report;
  work_long = c.decode_block-left.auto.work;
  word_long = c.decode_block-left.auto.word;
  symbols_long = c.decode_block-left.auto.symbols;
  report_long = c.decode_block-left.auto.report;
  totals_long = c.decode_block-left.auto.totals;
  decoded = c.decode_block-left.ensures;
}

-- ---- one place
pub returns-then-block-eq0 : goal.returns-then-block-eq0
returns-then-block-eq0 t c = laws.at_leaf c.if-block-eq0.true c.requires.0 c.decode_place.ensures

-- ---- where the coefficients of the first half begin
pub overflow_add-first_start : goal.overflow_add-first_start
overflow_add-first_start t c = let z = laws.at_sizes c.if-block-eq0.false c.requires.0 in omega arith

-- ---- the check nodes
pub check_nodes-requires : goal.check_nodes-requires
check_nodes-requires t c = (
  laws.kernels_given c.if-block-eq0.false c.requires.0,
  laws.at_room c.if-block-eq0.false c.requires.0,
  c.requires.1,
)

-- ---- the first half
pub decode_block-left-requires : goal.decode_block-left-requires
decode_block-left-requires t c = (
  fewer c.args.block.layers t c.if-block-eq0.false c.decreases,
  (
    laws.at_first c.if-block-eq0.false (noted_given c.if-block-eq0.false c.requires.0 c.check_nodes.new.room c.check_nodes.auto.room)
        c.check_nodes.auto.work c.check_nodes.ensures,
    c.requires.1,
  ),
)

-- ---- the variable nodes
pub variable_nodes-nodes-requires : goal.variable_nodes-nodes-requires
variable_nodes-nodes-requires t c =
    let d = (goal.at.variable_nodes-nodes-requires t c).After-decode_block-left in
    let g = again t d in
    let f = first_half t d in
    let ne = d.if-block-eq0.false in
    (laws.at_variable ne g f, laws.at_symbols ne g f, laws.at_ordered ne g f, laws.at_sum ne g f)

-- ---- the second half
pub overflow_add-second : goal.overflow_add-second
overflow_add-second t c = let z = laws.at_sizes c.if-block-eq0.false c.requires.0 in omega arith

-- what its places take off fits 16 bits
pub overflow_add-second-2 : goal.overflow_add-second-2
overflow_add-second-2 t c =
    let d = (goal.at.overflow_add-second-2 t c).After-decode_block-left in
    let fits = laws.at_taken d.if-block-eq0.false (again t d) (first_half t d) c.variable_nodes-nodes.auto.work c.variable_nodes-nodes.ensures in
    omega arith

pub decode_block-right-requires : goal.decode_block-right-requires
decode_block-right-requires t c =
    let d = (goal.at.decode_block-right-requires t c).After-decode_block-left in (
      fewer c.args.block.layers t c.if-block-eq0.false c.decreases,
      (
        laws.at_second d.if-block-eq0.false (again t d) (first_half t d) c.variable_nodes-nodes.auto.work c.variable_nodes-nodes.ensures,
        c.requires.1,
      ),
    )

-- ---- the words joined, and what is left
abbrev second_left : (t : ℕ) → After-decode_block-right t → halves.Left
second_left t c = record {
  work = c.decode_block-right.new.work;
  word = c.decode_block-right.new.word;
  symbols = c.decode_block-right.new.symbols;
  report = c.decode_block-right.new.report;
  totals = c.decode_block-right.new.totals;
  count = c.decode_block-right.result;
}

pub returns : goal.returns
returns t c =
    let d = (goal.at.returns t c).After-decode_block-left in
    let ne = d.if-block-eq0.false in
    let g = again t d in
    let f = first_half t d in
    let s : laws.SecondHalf ne g f c.variable_nodes-nodes.auto.work c.variable_nodes-nodes.ensures (second_left t (goal.at.returns t c).After-decode_block-right) =
    record { word_long = c.decode_block-right.auto.word; decoded = c.decode_block-right.ensures } in
    let h = laws.at_joins ne g f c.variable_nodes-nodes.auto.work c.variable_nodes-nodes.ensures s in
    laws.at_done ne g f c.variable_nodes-nodes.auto.work c.variable_nodes-nodes.ensures s c.join_halves.auto.word
    (joined_products c.requires.1 (c.join_halves.ensures.joins h))
