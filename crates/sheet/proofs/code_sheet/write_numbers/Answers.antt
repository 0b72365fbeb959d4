-- With all of them written the buffer is the list of numbers.
use native.Mathlib.Omega.{arith}
use Rattle.vector.proofs.Laws.{fill_all}
use Rattle.sheet.specs.CodeSheet.{numbers_on}
use Rattle.sheet.proofs.code_sheet.write_numbers.Goals as goal

pub returns : goal.returns
unfolding numbers_on
returns c = let known = c.loop-i.invariant in let long = known.long in fill_all known (omega arith)
