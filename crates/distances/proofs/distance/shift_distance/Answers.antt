-- The refusal of the base, or the distance.
use Rattle.std.proofs.Common.{ap, ◌∙◌, sym}
use Rattle.refusal.specs.Kinds.{returned}
use Rattle.refusal.proofs.KindLaws.{exit_is}
use Rattle.distances.specs.Distance.{base_refusal, distance_answer}
use Rattle.distances.proofs.AnswerLaws.{answered_value, answered_err}
use Rattle.distances.proofs.DistanceLaws.{distance_even}
use Rattle.distances.proofs.distance.shift_distance.Goals as goal

pub returns-in_err-check_base : goal.returns-in_err-check_base
unfolding distance_answer base_refusal
returns-in_err-check_base c =
    let e = distance_even c.args.base c.args.s in
    record {
      answer_is = ap returned (exit_is _ _ c.from_residual.ensures.1) ∙ answered_err _ _ c.in_err-check_base.ensures;
      half = e.0;
      even = e.1;
    }

pub returns : goal.returns
unfolding distance_answer base_refusal
returns c =
    let e = distance_even c.args.base c.args.s in
    record { answer_is = answered_value _ (sym c.in_ok-check_base.ensures) c.chips_apart.ensures; half = e.0; even = e.1 }
