-- `check_node`: the least sums are of penalties of thirteen bits.
use Rattle.reorder.proofs.LowLaws.{low_small}
use Rattle.check_node.proofs.check.check_node.Goals as goal

pub least_sums-requires : goal.least_sums-requires
least_sums-requires c = (low_small c.args.theta.now c.low_bits-low_theta.ensures, low_small c.args.ordered.now c.low_bits-low_ordered.ensures)
