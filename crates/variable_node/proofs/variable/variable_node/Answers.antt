-- `variable_node`: what its parts ensure, put together.
use Rattle.std.proofs.Common.{◌≡◌, ◌∙◌, List, ap, ap₂, arith, rules}
use Rattle.vector.specs.Vector.{least, less_least}
use Rattle.gf64.specs.Field.{low_six}
use Rattle.scms.specs.Nodes.{sums_from, subtract_least, less_from, clipped, exceeding}
use Rattle.reorder.proofs.LowLaws.{low_small}
use Rattle.variable_node.proofs.variable.variable_node.Goals as goal

pub sums-all-requires : goal.sums-all-requires
sums-all-requires c = (
  omega arith,
  low_small c.args.theta.now c.low_bits-low_theta.ensures,
  low_small c.args.ordered.now c.low_bits-low_ordered.ensures,
)

pub returns : goal.returns
unfolding less_from subtract_least low_six
returns c =
    let a = c.args in
    let all = c.sums-all.ensures ∙ ap₂ (λ (t w : List _). sums_from (low_six a.u) t w) c.low_bits-low_theta.ensures c.low_bits-low_ordered.ensures in
    let low = c.subtract_least-taken.ensures.0 ∙ ap less_least all in
    let took = c.subtract_least-taken.ensures.1 ∙ ap least all in
    let clip : c.clip_llrs-count.result.llrs ≡ clipped a.cap c.subtract_least-taken.result.rest = search rules in
    record {
      llrs_are = clip ∙ ap (clipped a.cap) low;
      count_is = c.clip_llrs-count.ensures.1 ∙ ap (exceeding a.cap) low;
      few = c.clip_llrs-count.ensures.2;
      taken_is = cc;
    }
