-- The table in three parts, with the largest penalty that `largest` gives.
use Rattle.std.proofs.Common.{ℕ, ◌++◌, ap, ◌∙◌}
use Rattle.refusal.specs.Table.{refusal_of}
use Rattle.refusal.proofs.KindLaws.{exit_number, part_refused, part_passed}
use Rattle.polar_code.specs.Code.{code_table}
use Rattle.decoder_refusal.specs.Refusals.{settings_rows, frame_rows, penalty_table}
use Rattle.decoder_refusal.proofs.RefusalLaws.{penalties_tried}
use Rattle.decoder_refusal.proofs.call.check_contents.Goals as goal

pub returns-in_err-check : goal.returns-in_err-check
returns-in_err-check c =
    exit_number _ _ c.from_residual.ensures.1
    ∙ part_refused (settings_rows c.args.settings) (code_table _ _ ++ frame_rows _ _ _) _ c.in_err-check.ensures

pub returns-in_err-check_bytes : goal.returns-in_err-check_bytes
returns-in_err-check_bytes c =
    exit_number _ _ c.from_residual-in_err-check_bytes.ensures.1
    ∙ part_passed (settings_rows c.args.settings) (code_table _ _ ++ frame_rows _ _ _) tt c.in_ok-check.ensures
    (part_refused (code_table _ _) (frame_rows _ _ _) _ c.in_err-check_bytes.ensures)

pub returns : goal.returns
returns c =
    let largest = ap (λ (most : ℕ). refusal_of (penalty_table most c.args.frame.now)) c.largest.ensures in
    penalties_tried _ _ c.args.settings c.args.frame.now
    (part_passed (settings_rows c.args.settings) (code_table _ _ ++ frame_rows _ _ _) tt c.in_ok-check.ensures
    (part_passed (code_table _ _) (frame_rows _ _ _) tt c.in_ok-check_bytes.ensures (c.check_frame.ensures ∙ largest)))
