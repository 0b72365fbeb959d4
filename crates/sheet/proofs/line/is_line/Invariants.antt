-- Each four bytes before part i are a number.
use Rattle.std.proofs.Common.{◌≡◌, ℕ, ◌<◌, true}
use Rattle.columns.specs.Reading.{is_field, part}
use Rattle.sheet.proofs.line.is_line.Given as goal

abbrev pub invariant-loop-i : goal.invariant-loop-i
invariant-loop-i l = (j : ℕ) → j < l.i → is_field 4 (part 4 j l.bytes) ≡ true
