-- A bad line, and none.
use Rattle.std.proofs.Common.{◌/◌, sym, ◌∙◌}
use native.Mathlib.Omega.{arith}
use lib.ListN.{length}
use Rattle.refusal.proofs.AnyTo.{any_there, none_there}
use Rattle.sheet.specs.CodeSheet.{bad_line}
use Rattle.sheet.proofs.check.any_bad_line.Goals as goal

pub returns-then-is_bad_line : goal.returns-then-is_bad_line
returns-then-is_bad_line c =
    sym (any_there (λ i. bad_line i c.args.bytes.now) (length c.args.bytes.now / 5) c.loop-i.i (omega arith) (sym c.is_bad_line.ensures ∙ c.if-is_bad_line.true))

pub returns : goal.returns
returns c = sym (none_there (λ i. bad_line i c.args.bytes.now) (length c.args.bytes.now / 5) (λ j l. c.loop-i.invariant j (omega arith)))
