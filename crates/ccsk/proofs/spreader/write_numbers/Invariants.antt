-- The numbers before place i are written.
use Rattle.std.proofs.Common.{length, get_or}
use Rattle.vector.proofs.Laws.{Filled}
use Rattle.ccsk.specs.Chips.{turned}
use Rattle.ccsk.proofs.spreader.write_numbers.Given as goal

abbrev pub invariant-loop-i : goal.invariant-loop-i
invariant-loop-i l = Filled (length l.symbols) (λ j. turned l.base (get_or l.symbols j 0)) l.numbers l.i
