-- `least` is the least distance of the shifts 1 to i.
use Rattle.std.proofs.Common.{◌≡◌, ◌+◌, ◌-◌}
use Rattle.vector.specs.Vector.{least_to}
use Rattle.distances.specs.Distance.{shift_distance}
use Rattle.distances.proofs.distance.least_apart.Given as goal

abbrev pub invariant-loop-i : goal.invariant-loop-i
invariant-loop-i l = l.least ≡ least_to (l.i - 1) (λ i. shift_distance l.base (i + 1))
