-- `write_shifts`: the first i bytes are written (ShiftLaws).
use Rattle.distances.proofs.ShiftLaws.{Written}
use Rattle.distances.proofs.shifts.write_shifts.Given as goal

abbrev pub invariant-loop-i : goal.invariant-loop-i
invariant-loop-i l = Written l.base l.d l.shifts l.count l.i
