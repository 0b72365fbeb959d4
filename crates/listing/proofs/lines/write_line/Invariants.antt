-- `write_line`: the numbers before number i are written, each in its columns.
use Rattle.std.proofs.Common.{◌≡◌, ◌*◌, take}
use Rattle.columns.specs.Columns.{fields}
use Rattle.listing.proofs.lines.write_line.Given as goal

abbrev pub invariant-loop-i : goal.invariant-loop-i
invariant-loop-i l = take (5 * l.i) l.out ≡ fields 5 (take l.i l.numbers)
