-- `short_check_node`: with 64 or more all values are tried.
use Rattle.std.proofs.Common.{sym, ◌∙◌, arith}
use Rattle.reorder.specs.Order.{low_bits}
use Rattle.reorder.proofs.LowLaws.{low_small}
use Rattle.scms.proofs.NodeLaws.{tried_all}
use Rattle.short_check_node.specs.Masks.{at_least_one}
use Rattle.short_check_node.proofs.SetLaws.{asked_least, asked_most}
use Rattle.short_check_node.proofs.short.short_check_node.Goals as goal

pub returns-then-candidates-gt63 : goal.returns-then-candidates-gt63
returns-then-candidates-gt63 c =
    let a = c.args in
    let m = asked_least a.candidates in
    c.check_node.ensures
    ∙ sym (tried_all (at_least_one a.candidates) (low_bits a.theta.now) (low_bits a.ordered.now) (omega arith))

pub tried_sums-requires : goal.tried_sums-requires
tried_sums-requires c =
    let m = c.at_least_one-m.ensures in
    let l = asked_most c.args.candidates (omega arith) in
    (low_small c.args.theta.now c.low_bits-low_theta.ensures, low_small c.args.ordered.now c.low_bits-low_ordered.ensures, omega arith, omega arith)
