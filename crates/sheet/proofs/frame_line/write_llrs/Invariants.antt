-- The numbers before i are those of the line.
use Rattle.vector.proofs.Laws.{Filled}
use Rattle.columns.specs.Reading.{spelled, part}
use Rattle.sheet.proofs.frame_line.write_llrs.Given as goal

abbrev pub invariant-loop-i : goal.invariant-loop-i
invariant-loop-i l = Filled 64 (λ j. spelled (part 4 j l.line)) l.llrs l.i
