-- `flags_below`: the entries before c are filled.
use Rattle.vector.proofs.Laws.{Filled}
use Rattle.short_check_node.specs.Masks.{below_at}
use Rattle.short_check_node.proofs.masks.flags_below.Given as goal

abbrev pub invariant-loop-c : goal.invariant-loop-c
invariant-loop-c l = Filled 64 (below_at l.v l.t) l.flags l.c
