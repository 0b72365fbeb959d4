-- No line before i is bad.
use Rattle.std.proofs.Common.{◌≡◌, ℕ, ◌<◌, false}
use Rattle.sheet.specs.CodeSheet.{bad_line}
use Rattle.sheet.proofs.check.any_bad_line.Given as goal

abbrev pub invariant-loop-i : goal.invariant-loop-i
invariant-loop-i l = (j : ℕ) → j < l.i → bad_line j l.bytes ≡ false
