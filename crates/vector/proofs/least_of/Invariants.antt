-- `least_of`: it is the least of the first entry and those so far.
use Rattle.std.proofs.Common.{◌≡◌, min, get_or, take}
use Rattle.std.specs.List.{fold}
use Rattle.vector.proofs.least_of.Given as goal

abbrev pub invariant-loop-x : goal.invariant-loop-x
invariant-loop-x l = l.least ≡ fold min (get_or l.v 0 0) (take l.x-index l.v)
