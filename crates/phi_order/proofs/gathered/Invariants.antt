-- `gathered`: the entries before the one of this turn are filled.
use Rattle.std.proofs.Common.{◌+◌, ◌*◌, ◌%◌, get_or}
use Rattle.vector.proofs.Laws.{Filled}
use Rattle.phi_order.proofs.gathered.Given as goal

abbrev pub invariant-loop-q : goal.invariant-loop-q
invariant-loop-q l = Filled 64 (λ j. get_or l.v (get_or l.products j 0) 0 % 8192) l.r (4 * l.q)

abbrev pub invariant-loop-j : goal.invariant-loop-j
invariant-loop-j l = Filled 64 (λ j. get_or l.v (get_or l.products j 0) 0 % 8192) l.r (4 * l.q + l.j)
