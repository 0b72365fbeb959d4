-- No number before i is outside.
use Rattle.std.proofs.Common.{◌≡◌, ℕ, ◌+◌, ◌<◌, false}
use Rattle.refusal.specs.Tests.{outside}
use Rattle.sheet.specs.CodeSheet.{number_on}
use Rattle.sheet.proofs.check.any_number_outside.Given as goal

abbrev pub invariant-loop-i : goal.invariant-loop-i
invariant-loop-i l = (j : ℕ) → j < l.i → outside l.low l.high (number_on (l.first + j) l.bytes) ≡ false
