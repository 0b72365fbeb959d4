-- `clip_llrs`: one entry more is clipped and counted in a turn.
use Rattle.std.proofs.Common.{◌≡◌, ℕ, ◌+◌, ◌≤◌, cond, ltb, min, get_or, refl, ap, ap₂, sym, ◌∙◌, arith, rules}
use Rattle.std.proofs.Math.Nat.{min_comm}
use Rattle.std.proofs.lemmas.Grind.{common_steps}
use Rattle.vector.specs.Vector.{sum_to}
use Rattle.vector.proofs.Laws.{sum_more, tabulate_by}
use Rattle.reorder.proofs.LoopLaws.{map_none, map_more}
use Rattle.scms.specs.Nodes.{clipped, exceeding}
use Rattle.variable_node.proofs.variable.clip_llrs.Goals as goal

pub loop-x-init : goal.loop-x-init
unfolding sum_to
loop-x-init c = (refl, omega arith, map_none (omega arith) c.told-v)

pub loop-x-preserved : goal.loop-x-preserved
loop-x-preserved c =
    let v = c.args.v.now in
    let cap = c.args.cap in
    let k = c.loop-x.x-index in
    let m = c.loop-x.invariant.2 in
    let own : get_or c.loop-x.x-items k 0 ≡ get_or v k 0 = m.later k (omega arith) in
    let one : c.from-count.result ≡ cond (ltb cap (get_or v k 0)) 1 0 = search (rules, ap (λ (z : ℕ). cond {A = ℕ} (ltb cap z) 1 0) own) in
    let most : c.from-count.result ≤ 1 = grind (arith, common_steps) in
    let clip : c.min.result ≡ min cap (get_or v k 0) = grind (arith, min_comm) in (
      ap₂ (λ (x y : ℕ). x + y) c.loop-x.invariant.0 one ∙ sym (sum_more k (λ j. cond (ltb cap (get_or v j 0)) 1 0)),
      omega arith,
      map_more m (omega arith) (omega arith) (omega arith) clip,
    )

pub returns : goal.returns
unfolding clipped exceeding
returns c =
    let last : c.loop-x.x-index ≡ 64 = omega arith in
    let m = c.loop-x.invariant.2 in
    let count : c.from-count-2.result ≡ c.loop-x.count = search rules in (
      tabulate_by 0 64 _ _ m.long (λ i l. m.done i (omega arith) (omega arith)),
      count ∙ c.loop-x.invariant.0 ∙ ap (λ (n : ℕ). sum_to n (λ k. cond (ltb c.args.cap (get_or c.args.v.now k 0)) 1 0)) last,
      omega arith,
    )
