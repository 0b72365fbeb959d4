-- `threshold`: it is at least t and below t + n.
use Rattle.std.proofs.Common.{◌+◌, ◌≤◌}
use Rattle.scms.specs.Tried.{count_below}
use Rattle.short_check_node.proofs.counts.threshold.Given as goal

abbrev pub invariant-loop-n : goal.invariant-loop-n
invariant-loop-n l = (l.t + l.n ≤ 8192) × (1 ≤ l.n) × (count_below l.v l.t ≤ l.m) × (l.m ≤ count_below l.v (l.t + l.n))

abbrev pub decreases-loop-n : goal.decreases-loop-n
decreases-loop-n l = l.n
