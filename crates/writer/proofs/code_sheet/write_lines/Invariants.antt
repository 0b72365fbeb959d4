-- The lines of the numbers before i stand at the start of the buffer.
use Rattle.std.proofs.Common.{[], ◌∷◌, length, get_or}
use Rattle.vector.proofs.JoinedLaws.{PutTo}
use Rattle.columns.specs.Columns.{line}
use Rattle.writer.proofs.code_sheet.write_lines.Given as goal

abbrev pub invariant-loop-i : goal.invariant-loop-i
invariant-loop-i l = PutTo 5 (length l.numbers) (λ i. line 4 (get_or l.numbers i 0 ∷ [])) l.fn.out l.out l.i
