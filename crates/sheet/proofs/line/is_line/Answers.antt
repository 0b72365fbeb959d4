-- Another length, a part that is no number, and all numbers.
use Rattle.std.proofs.Common.{ap, sym, ◌∙◌}
use native.Mathlib.Omega.{arith}
use Rattle.refusal.proofs.Within.{true_false}
use Rattle.columns.specs.Reading.{is_field, is_line}
use Rattle.columns.proofs.LineLaws.{refuted, line_long, line_field, last_decides}
use Rattle.sheet.proofs.line.is_line.Goals.{then-bytes-ne1-via-then-bytes-ne1, then-bytes-ne1-via-else-bytes-ne1+then-bytes-fields}
use Rattle.sheet.proofs.line.is_line.Goals as goal

pub returns-then-bytes-ne1 : goal.returns-then-bytes-ne1
returns-then-bytes-ne1 c =
    sym (refuted (is_line 4 c.args.fields c.args.bytes.now) (λ e.
    let long = line_long 4 c.args.fields c.args.bytes.now e in
    elim c.then-bytes-ne1.branch [
      | then-bytes-ne1-via-then-bytes-ne1 w ↦ absurd (let t = w.if-bytes-ne1.true in omega arith)
      | then-bytes-ne1-via-else-bytes-ne1+then-bytes-fields w ↦ absurd (let t = w.if-bytes-fields.true in omega arith)
    ]))

pub returns-then-not-is_number : goal.returns-then-not-is_number
returns-then-not-is_number c =
    sym (refuted (is_line 4 c.args.fields c.args.bytes.now) (λ e.
    let number = line_field 4 c.args.fields c.args.bytes.now e c.loop-i.i c.loop-i-test.true in
    true_false (sym number ∙ ap (is_field 4) (sym c.part.ensures.part) ∙ sym c.is_number.ensures ∙ c.if-not-is_number.true)))

pub returns : goal.returns
returns c = sym (last_decides 4 c.args.fields c.args.bytes.now (λ j l. c.loop-i.invariant j (omega arith)) (omega arith))
