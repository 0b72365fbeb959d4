-- `copies`: each store adds one copy.
use Rattle.std.proofs.Common.{◌≡◌, ◌%◌, ◌∙◌, ap, arith, rules}
use Rattle.reorder.specs.Order.{swapped}
use Rattle.check_node.proofs.CopyLaws.{copies_more}
use Rattle.check_node.proofs.copying.copies.Goals as goal

pub loop-k-preserved : goal.loop-k-preserved
loop-k-preserved c =
    let v = c.args.v.now in
    let k = c.loop-k.k in
    let low : k % 8 ≡ k = omega arith in
    let copy : c.swapped.result ≡ swapped v (k % 8) = search rules in
    copies_more k c.loop-k.invariant (omega arith) (search rules) (copy ∙ ap (swapped v) low)
