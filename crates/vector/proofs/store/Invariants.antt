-- `store`: the entries before c are stored.
use Rattle.std.proofs.Common.{get_or}
use Rattle.vector.proofs.SliceLaws.{StoredTo}
use Rattle.vector.proofs.store.Given as goal

abbrev pub invariant-loop-c : goal.invariant-loop-c
invariant-loop-c l = StoredTo l.fn.s l.i (λ b. get_or l.v b 0) l.s l.c
