-- On a refusal nothing is written, and else the part writes all (ShiftLaws).
use Rattle.std.proofs.Common.{ap, ◌∙◌, sym}
use Rattle.refusal.specs.Kinds.{returned}
use Rattle.refusal.proofs.KindLaws.{exit_is, number_nonzero, left_kept, left_made}
use Rattle.distances.specs.Shifts.{shifts_answer, shifts_buffer}
use Rattle.distances.proofs.AnswerLaws.{answered_value, answered_err}
use Rattle.distances.proofs.ShiftLaws.{near_list, sixty_three}
use Rattle.distances.proofs.shifts.shifts_within.Goals as goal

pub returns-in_err-check : goal.returns-in_err-check
unfolding shifts_answer shifts_buffer
returns-in_err-check c =
    let refused = c.in_err-check.ensures in
    record {
      answer_is = ap returned (exit_is _ _ c.from_residual.ensures.1) ∙ answered_err _ _ refused;
      buffer_is = left_kept _ _ _ refused;
      list = λ z. absurd (number_nonzero _ (refused ∙ z));
    }

pub write_shifts-requires : goal.write_shifts-requires
write_shifts-requires c = sixty_three _ _ (sym c.in_ok-check.ensures)

pub returns : goal.returns
unfolding shifts_answer shifts_buffer
returns c =
    let none = c.in_ok-check.ensures in
    let written = c.write_shifts.ensures in
    record {
      answer_is = answered_value _ (sym none) written.0;
      buffer_is = written.1 ∙ left_made _ _ none;
      list = λ y. near_list _ _ _ written.1;
    }
