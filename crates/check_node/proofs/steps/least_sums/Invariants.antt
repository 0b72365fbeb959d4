-- `least_sums`: what is held for each value is the least sum of the steps made, less the last penalty.
use Rattle.std.proofs.Common.{ℕ, ◌*◌, ◌<◌, get_or}
use Rattle.check_node.proofs.LeastLaws.{Holds}
use Rattle.check_node.proofs.steps.least_sums.Given as goal

abbrev pub invariant-loop-column : goal.invariant-loop-column
invariant-loop-column l = (b : ℕ) → b < 64 → Holds l.fn.theta l.ordered b (8 * l.column) (get_or l.held b 0)
