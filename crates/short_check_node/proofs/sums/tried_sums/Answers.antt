-- `tried_sums`: the set is that of the values tried.
use Rattle.short_check_node.proofs.SumLaws.{tried_node}
use Rattle.short_check_node.proofs.sums.tried_sums.Goals as goal

pub returns : goal.returns
returns c =
    let p = c.requires in
    let theta = c.args.theta.now in
    let k = c.tried_set-set.ensures in
    tried_node c.args.m theta c.args.ordered.now _ _ p.2 p.0 p.1 k (c.set_sums.ensures.least k.set theta k.flags k.is_mask c.copies-copied.ensures p.0 p.1)
