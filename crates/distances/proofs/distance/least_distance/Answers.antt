-- The refusal of the base, or the least distance.
use Rattle.std.proofs.Common.{ap, ◌∙◌, sym}
use Rattle.refusal.specs.Kinds.{returned}
use Rattle.refusal.proofs.KindLaws.{exit_is}
use Rattle.distances.specs.Distance.{base_refusal, least_answer}
use Rattle.distances.proofs.AnswerLaws.{answered_value, answered_err}
use Rattle.distances.proofs.DistanceLaws.{least_is}
use Rattle.distances.proofs.distance.least_distance.Goals as goal

pub returns-in_err-check_base : goal.returns-in_err-check_base
unfolding least_answer base_refusal
returns-in_err-check_base c = record {
  answer_is = ap returned (exit_is _ _ c.from_residual.ensures.1) ∙ answered_err _ _ c.in_err-check_base.ensures;
  least = least_is c.args.base c.ranges.base.fits;
}

pub returns : goal.returns
unfolding least_answer base_refusal
returns c = record {
  answer_is = answered_value _ (sym c.in_ok-check_base.ensures) c.least_apart.ensures;
  least = least_is c.args.base c.ranges.base.fits;
}
