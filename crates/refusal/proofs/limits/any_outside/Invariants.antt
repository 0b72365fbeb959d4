-- The bytes before x are from the least to the greatest, and where one of those two is outside, so is a byte.
use Rattle.refusal.proofs.Within.{Ranged}
use Rattle.refusal.proofs.limits.any_outside.Given as goal

abbrev pub invariant-loop-x : goal.invariant-loop-x
invariant-loop-x l = Ranged l.low l.high l.s l.least l.most l.x-index
