-- `count_below`: one value more is counted in a turn.
use Rattle.std.proofs.Common.{◌≡◌, ℕ, ◌+◌, get_or, refl, ap, ap₂, sym, ◌∙◌, arith, rules}
use Rattle.vector.specs.Vector.{sum_to}
use Rattle.vector.proofs.Laws.{sum_more}
use Rattle.scms.specs.Tried.{count_below}
use Rattle.short_check_node.specs.Masks.{below_at}
use Rattle.short_check_node.proofs.SetLaws.{below_flag}
use Rattle.short_check_node.proofs.counts.count_below.Goals as goal

pub loop-x-init : goal.loop-x-init
unfolding sum_to
loop-x-init c = (refl, omega arith)

pub loop-x-preserved : goal.loop-x-preserved
loop-x-preserved c =
    let v = c.args.v.now in
    let one : c.from-count.result ≡ below_at v c.args.t c.loop-x.x-index = search rules in
    let most = below_flag (get_or v c.loop-x.x-index 0) c.args.t in
    (ap₂ (λ (x y : ℕ). x + y) c.loop-x.invariant.0 one ∙ sym (sum_more c.loop-x.x-index (below_at v c.args.t)), omega arith)

pub returns : goal.returns
unfolding count_below
returns c =
    let last : c.loop-x.x-index ≡ 64 = omega arith in
    c.loop-x.invariant.0 ∙ ap (λ (n : ℕ). sum_to n (below_at c.args.v.now c.args.t)) last
