-- One kernel more: its variable node, the count of its clipped entries, and what it took off, which fits in 16 bits.
use Rattle.std.proofs.Common.{◌≡◌, ℕ, ◌+◌, ◌*◌, ◌≤◌, ◌++◌, List, get_or, refl, sym, ap, ap₂, ◌∙◌}
use native.Mathlib.Nat.{le_trans, le_of_eq}
use native.Mathlib.Omega.{arith}
use Rattle.vector.specs.Vector.{sum_to}
use Rattle.vector.proofs.Laws.{sum_more, sum_part}
use Rattle.gf64.proofs.ProductLaws.{low_symbol}
use Rattle.scms.specs.Nodes.{Lowered, less_from, clipped, exceeding}
use Rattle.reorder.specs.Order.{low_bits}
use Rattle.scms.proofs.NodeLaws.{clipped_long}
use Rattle.decoder.specs.Parts.{less_at}
use Rattle.decoder.proofs.LayerLaws.{layer_none, layer_more, low_is, low_first}
use Rattle.decoder.proofs.layers.variable_nodes.Goals as goal

pub loop-t-init : goal.loop-t-init
unfolding sum_to
loop-t-init c = record { nodes = layer_none; counted = refl; few = omega arith; takes = refl }

pub overflow_add-taken : goal.overflow_add-taken
overflow_add-taken c =
    let known = c.loop-t.invariant in
    let t = c.loop-t.t in
    let a = c.args in
    let l = c.loop-t-test.true in
    let u = get_or a.word.now t 0 in
    let takes = c.variable_node-r.ensures.taken_is
    ∙ ap (λ (z : ℕ). (less_from z (low_bits c.load_vector-theta.result) (low_bits c.vector_of-ordered.result)).taken) (low_symbol u (c.requires.1.symbols t l))
    ∙ ap₂ (λ (x y : List ℕ). (less_from u x y).taken) (low_is c.requires.0 known.nodes t (omega arith) _ c.load_vector-theta.ensures)
    (low_first c.requires.2 t l _ c.vector_of-ordered.ensures) in
    let all = ap₂ (λ (x y : ℕ). x + y) known.takes takes ∙ sym (sum_more t (λ k. (less_at a.block.at a.word.now (a.frame.now ++ a.work.now) a.room.now k).taken)) in
    let part = sum_part (t + 1) a.half (λ k. (less_at a.block.at a.word.now (a.frame.now ++ a.work.now) a.room.now k).taken) (omega arith) in
    let fits = le_trans (le_of_eq all) (le_trans part c.requires.3) in
    omega arith

pub loop-t-preserved : goal.loop-t-preserved
loop-t-preserved c =
    let known = c.loop-t.invariant in
    let t = c.loop-t.t in
    let a = c.args in
    let l = c.loop-t-test.true in
    let u = get_or a.word.now t 0 in
    let theta = low_is c.requires.0 known.nodes t (omega arith) _ c.load_vector-theta.ensures in
    let phi = low_first c.requires.2 t l _ c.vector_of-ordered.ensures in
    let less = ap (λ (z : ℕ). less_from z (low_bits c.load_vector-theta.result) (low_bits c.vector_of-ordered.result)) (low_symbol u (c.requires.1.symbols t l))
    ∙ ap₂ (less_from u) theta phi in
    let node = c.variable_node-r.ensures in
    let so_far = known.few in
    let more = node.few in
    let rest = ap (λ (x : Lowered). x.rest) less in
    record {
      nodes = layer_more c.requires.0 known.nodes l c.variable_node-r.result.llrs (node.llrs_are ∙ ap (clipped a.block.cap) rest) (clipped_long a.block.cap _) _ c.store.ensures;
      counted = ap₂ (λ (x y : ℕ). x + y) known.counted (node.count_is ∙ ap (exceeding a.block.cap) rest) ∙ sym (sum_more t _);
      few = omega arith;
      takes = ap₂ (λ (x y : ℕ). x + y) known.takes (node.taken_is ∙ ap (λ (x : Lowered). x.taken) less) ∙ sym (sum_more t _);
    }
