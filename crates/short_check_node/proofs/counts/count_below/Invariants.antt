-- `count_below`: the count is that of the values before this one.
use Rattle.std.proofs.Common.{◌≡◌, ◌≤◌}
use Rattle.vector.specs.Vector.{sum_to}
use Rattle.short_check_node.specs.Masks.{below_at}
use Rattle.short_check_node.proofs.counts.count_below.Given as goal

abbrev pub invariant-loop-x : goal.invariant-loop-x
invariant-loop-x l = (l.count ≡ sum_to l.x-index (below_at l.v l.t)) × (l.count ≤ l.x-index)
