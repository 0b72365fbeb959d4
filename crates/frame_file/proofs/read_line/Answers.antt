-- A line that is refused by its form, and one whose penalties decide.
use Rattle.std.proofs.Common.{refl, ◌∙◌}
use Rattle.refusal.proofs.KindLaws.{exit_number}
use Rattle.frame_file.proofs.FrameLaws.{form_refused, penalties_decide}
use Rattle.frame_file.proofs.read_line.Goals as goal

pub returns-in_err-read_frame_line-clause-refusal : goal.returns-in_err-read_frame_line-clause-refusal
returns-in_err-read_frame_line-clause-refusal c =
    exit_number _ _ c.from_residual.ensures.1 ∙ form_refused _ _ c.in_err-read_frame_line.ensures _ refl

pub returns-clause-refusal : goal.returns-clause-refusal
returns-clause-refusal c = penalties_decide _ _ c.in_ok-read_frame_line.ensures refl c.check_frame.ensures
