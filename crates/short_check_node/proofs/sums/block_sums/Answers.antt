-- `block_sums`: one value more has its sum in a turn.
use Rattle.std.proofs.Common.{◌+◌, ◌*◌, ◌∙◌, arith, rules}
use Rattle.gf64.specs.Field.{◌⊕◌}
use Rattle.reorder.proofs.LoopLaws.{map_more}
use Rattle.short_check_node.proofs.SumLaws.{block_with}
use Rattle.short_check_node.proofs.sums.block_sums.Goals as goal

pub loop-i-preserved : goal.loop-i-preserved
unfolding ◌⊕◌
loop-i-preserved c =
    let a = c.args in
    let h = c.loop-i.invariant in
    let n = 8 * a.block + c.loop-i.i in
    map_more h (omega arith) (omega arith) (omega arith)
    (c.signed_min.ensures ∙ block_with a.copies.now a.x a.c a.block c.loop-i.i _ _ _ (omega arith) (h.later n (omega arith)) (search rules))
