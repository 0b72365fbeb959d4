-- `half_steps`: one value more of each block makes its steps.
use Rattle.std.proofs.Common.{◌*◌, ◌+◌, get_or, refl, ap, arith}
use Rattle.gf64.specs.Field.{◌⊕◌}
use Rattle.check_node.proofs.StepLaws.{lanes_steps, four_at}
use Rattle.check_node.proofs.steps.half_steps.Goals as goal

pub loop-i-preserved : goal.loop-i-preserved
unfolding ◌⊕◌
loop-i-preserved c =
    let a = c.args in
    let copies = a.copies.now in
    let from = 32 * (a.q ⊕ a.half) in
    let i = c.loop-i.i in
    let entry = four_at (λ m. get_or copies (from + 8 * m + i) 0) (ap (λ k. get_or copies k 0) (omega arith)) (ap (λ k. get_or copies k 0) (omega arith)) (ap (λ k. get_or copies k 0) (omega arith)) (ap (λ k. get_or copies k 0) (omega arith)) in
    lanes_steps copies a.d.now a.q c.loop-i.invariant (omega arith) (omega arith) refl refl refl refl entry c.lane_steps.ensures
