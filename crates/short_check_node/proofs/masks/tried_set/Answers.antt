-- `tried_set`: the equal ones from some value on are left out.
use Rattle.std.proofs.Common.{rules}
use Rattle.short_check_node.proofs.SetLaws.{same_mask, has_same, same_cut, tried_set}
use Rattle.short_check_node.proofs.masks.tried_set.Goals as goal

pub overflow_sub-upto : goal.overflow_sub-upto
overflow_sub-upto c = (same_mask c.args.ordered.now c.args.t _ _ c.mask_below-upto.ensures c.mask_below-below.ensures).0

pub after_lowest-left-requires : goal.after_lowest-left-requires
after_lowest-left-requires c =
    let same = same_mask c.args.ordered.now c.args.t _ _ c.mask_below-upto.ensures c.mask_below-below.ensures in
    has_same c.args.m c.args.ordered.now c.args.t _ _ c.requires c.count_below-few.ensures same.1

pub returns : goal.returns
returns c =
    let a = c.args in
    let v = a.ordered.now in
    let few = c.count_below-few.ensures in
    let same = same_mask v a.t _ _ c.mask_below-upto.ensures c.mask_below-below.ensures in
    let made = tried_set a.m v a.t _ _ _ c.requires few c.mask_below-upto.ensures (same_cut a.m v a.t _ _ _ c.requires few same.1 c.after_lowest-left.ensures) in
    search rules
