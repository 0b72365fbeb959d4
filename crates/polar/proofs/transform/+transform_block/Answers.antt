-- `transform_block` meets its contract: the halves are transformed, one layer less each, and then joined (BlockLaws),
-- down to two places, whose halves stay as they are.
use Rattle.std.proofs.Common.{rules, ◌≡◌, ℕ, ◌-◌, ◌<◌, arith}
use Rattle.polar.proofs.JoinLaws.{joined_products}
use Rattle.polar.proofs.BlockLaws.{at_leaf, at_pair_given, at_pair, at_sizes, at_first, at_second, at_joins, at_transformed}
use Rattle.polar.proofs.transform.+transform_block.Goals as goal

-- the number of layers falls at each call
fewer : (layers t : ℕ) → (layers ≡ 0 → ⊥) → layers ≡ t → layers - 1 < t
fewer layers t ne e = omega arith

-- one place
pub returns-then-layers-eq0 : goal.returns-then-layers-eq0
returns-then-layers-eq0 t c = at_leaf c.if-layers-eq0.true c.requires.0

-- two places
pub join_kernels-requires : goal.join_kernels-requires
join_kernels-requires t c =
    let one : c.args.layers ≡ 1 = search rules in
    at_pair_given one c.requires.0

pub returns-then-layers-eq1 : goal.returns-then-layers-eq1
returns-then-layers-eq1 t c =
    let one : c.args.layers ≡ 1 = search rules in
    at_pair one c.requires.0 c.join_kernels.new.word c.join_kernels.auto.word
    (joined_products c.requires.1 c.join_kernels.ensures)

-- where the coefficients of the halves begin
pub overflow_add-first : goal.overflow_add-first
overflow_add-first t c =
    let z = at_sizes c.if-layers-eq0.false c.requires.0 in
    let l = c.requires.0.stride_small in
    omega arith

pub overflow_add-second : goal.overflow_add-second
overflow_add-second t c =
    let z = at_sizes c.if-layers-eq0.false c.requires.0 in
    let l = c.requires.0.stride_small in
    omega arith

-- the first half
pub transform_block-requires : goal.transform_block-requires
transform_block-requires t c =
    (fewer c.args.layers t c.if-layers-eq0.false c.decreases, (at_first c.if-layers-eq0.false c.requires.0, c.requires.1))

-- the second half
pub transform_block-requires-2 : goal.transform_block-requires-2
transform_block-requires-2 t c = (
  fewer c.args.layers t c.if-layers-eq0.false c.decreases,
  (at_second c.if-layers-eq0.false c.requires.0 c.transform_block.new.word c.transform_block.auto.word, c.requires.1),
)

-- the two joined
pub join_kernels-requires-2 : goal.join_kernels-requires-2
join_kernels-requires-2 t c =
    at_joins c.if-layers-eq0.false c.requires.0 c.transform_block.new.word c.transform_block.auto.word
    c.transform_block-2.new.word c.transform_block-2.auto.word

pub returns : goal.returns
returns t c =
    at_transformed c.if-layers-eq0.false c.requires.0 c.transform_block.new.word c.transform_block.auto.word
    c.transform_block-2.new.word c.transform_block-2.auto.word c.join_kernels-2.new.word c.join_kernels-2.auto.word
    c.transform_block.ensures c.transform_block-2.ensures (joined_products c.requires.1 c.join_kernels-2.ensures)
