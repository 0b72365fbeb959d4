-- The penalties before i stand at the start of the buffer, in four columns each.
use Rattle.std.proofs.Common.{get_or}
use Rattle.vector.proofs.JoinedLaws.{PutTo}
use Rattle.columns.specs.Columns.{field}
use Rattle.writer.proofs.frame_line.write_llrs.Given as goal

abbrev pub invariant-loop-i : goal.invariant-loop-i
invariant-loop-i l = PutTo 4 64 (λ i. field 4 (get_or l.llrs i 0)) l.fn.out l.out l.i
