-- Fewer than five bytes, and the other rows (SheetLaws).
use Rattle.std.proofs.Common.{◌<◌, length, ap, rules, ◌∙◌}
use Rattle.refusal.specs.Kinds.{number_of}
use Rattle.refusal.proofs.KindLaws.{exit_number}
use Rattle.sheet.proofs.SheetLaws.{form_short, form_tried}
use Rattle.sheet.proofs.check.check_form.Goals as goal

pub returns-in_err-require-clause-refusal : goal.returns-in_err-require-clause-refusal
returns-in_err-require-clause-refusal c =
    let short : length c.args.bytes.now < 5 = search rules in
    exit_number _ _ c.from_residual.ensures.1 ∙ ap number_of c.in_err-require.ensures.refused.0 ∙ form_short _ short

pub returns-in_err-check_lines-clause-refusal : goal.returns-in_err-check_lines-clause-refusal
returns-in_err-check_lines-clause-refusal c =
    exit_number _ _ c.from_residual-in_err-check_lines.ensures.1 ∙ form_tried _ c.number_on-n.ensures (search rules) c.in_err-check_lines.ensures

pub returns-clause-refusal : goal.returns-clause-refusal
returns-clause-refusal c = form_tried _ c.number_on-n.ensures (search rules) c.in_ok-check_lines.ensures
