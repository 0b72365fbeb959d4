-- One kernel more: its check node, and phi's vector in the order of c.
use Rattle.std.proofs.Common.{◌≡◌, ℕ, ◌+◌, ◌++◌, get_or, refl, sym, ap, ap₂, ◌∙◌}
use native.Mathlib.Omega.{arith}
use Rattle.vector.specs.Vector.{vector_at}
use Rattle.vector.proofs.Entries.{get_d_any}
use Rattle.scms.specs.Nodes.{ordered, check_tried}
use Rattle.scms.proofs.NodeLaws.{check_long, check_by_order}
use Rattle.phi_order.proofs.OrderLaws.{ordered_small, ordered_low, low_ordered}
use Rattle.reorder.specs.Order.{low_bits}
use Rattle.short_check_node.proofs.SetLaws.{asked_some}
use Rattle.decoder.proofs.LayerLaws.{layer_more, source_small, loaded_is, low_is, first_more}
use Rattle.decoder.proofs.layers.check_nodes.Goals as goal

pub loop-t-preserved : goal.loop-t-preserved
loop-t-preserved c =
    let known = c.loop-t.invariant in
    let t = c.loop-t.t in
    let a = c.args in
    let at = a.block.at in
    let start = a.block.start in
    let m = a.block.candidates in
    let layer = c.requires.0.layer in
    let l = c.loop-t-test.true in
    let coef : get_or a.coefs.now (start + t) 0 ≡ get_or a.coefs.now (start + t) 1
    = get_d_any a.coefs.now (start + t) 0 1 (let r = c.requires.0.room in omega arith) in
    let k = get_or a.coefs.now (start + t) 1 in
    let phi = vector_at (a.frame.now ++ a.work.now) (at + (a.half + t)) in
    let small = source_small layer (a.half + t) (omega arith) in
    let x : c.ordered-ordered.result ≡ ordered k phi =
    ordered_low (get_or a.coefs.now (start + t) 0) phi c.requires.2 (loaded_is layer known.nodes (a.half + t) (omega arith) _ c.load_vector-phi.ensures) c.ordered-ordered.ensures small
    ∙ ap (λ (j : ℕ). ordered j phi) coef in
    let node =
    c.short_check_node-r.ensures
    ∙ ap (λ (j : ℕ). check_tried j (low_bits c.load_vector-theta.result) (low_bits c.ordered-ordered.result)) (sym (asked_some m c.requires.0.tries))
    ∙ ap₂ (check_tried m) (low_is layer known.nodes t (omega arith) _ c.load_vector-theta.ensures) (low_ordered k phi x small)
    ∙ check_by_order m k (vector_at (a.frame.now ++ a.work.now) (at + t)) phi in
    record {
      nodes = layer_more layer known.nodes l c.short_check_node-r.result node (check_long _ _ _ _) _ c.store-in-loop-t.ensures;
      ordered = first_more known.ordered l x (ordered_small k phi (ordered k phi) refl small).long c.store.ensures;
    }
