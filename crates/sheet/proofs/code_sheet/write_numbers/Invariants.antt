-- The bytes before i are the numbers on their lines.
use Rattle.std.proofs.Common.{◌+◌, length}
use Rattle.vector.proofs.Laws.{Filled}
use Rattle.sheet.specs.CodeSheet.{number_on}
use Rattle.sheet.proofs.code_sheet.write_numbers.Given as goal

abbrev pub invariant-loop-i : goal.invariant-loop-i
invariant-loop-i l = Filled (length l.fn.out) (λ j. number_on (l.first + j) l.bytes) l.out l.i
