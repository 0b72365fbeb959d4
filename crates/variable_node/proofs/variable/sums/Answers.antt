-- `sums`: the closure adds two penalties of at most thirteen bits, and changes nothing.
use Rattle.std.proofs.Common.{◌≡◌, ◌≤◌, ◌<◌, ◌+◌, ℕ, get_or, arith, rules}
use Rattle.vector.proofs.Arrays.{callable_each, made_of}
use Rattle.scms.specs.Nodes.{sum_at, sums_from}
use Rattle.reorder.specs.Order.{swapped}
use Rattle.reorder.proofs.SwapLaws.{swapped_small}
use Rattle.variable_node.proofs.TranslateLaws.{translated_sum}
use Rattle.variable_node.proofs.variable.sums.Goals as goal

pub from_fn-requires : goal.from_fn-requires
from_fn-requires c = (
  omega arith,
  callable_each _ _ (λ x q e. search rules) _ _ (λ x l.
      let within : x < 64 = l in
      let same : c.translated-t.result ≡ swapped c.args.theta.now c.args.u = search rules in
      let t = swapped_small c.args.theta.now c.args.u (omega arith) same c.requires.1 in
      let fits : get_or c.translated-t.result x 0 + get_or c.args.ordered.now x 0 ≤ 65535 = omega (arith, t.most x within, c.requires.2.most x within) in
      search rules),
)

pub returns : goal.returns
unfolding sums_from
returns c =
    let same : c.translated-t.result ≡ swapped c.args.theta.now c.args.u = search rules in
    let sum : (k : ℕ) → k < 64 → get_or c.translated-t.result k 0 + get_or c.args.ordered.now k 0 ≡ sum_at c.args.theta.now c.args.ordered.now c.args.u k =
    (λ k l. translated_sum c.args.theta.now c.args.ordered.now c.args.u k same l) in
    made_of _ _ _ _ 0 64 c.from_fn.ensures.items (λ j y q l e. search rules)
