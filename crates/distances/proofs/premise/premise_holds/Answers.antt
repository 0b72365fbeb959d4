-- The refusal, or yes or no; all else follows from the answer (PremiseLaws).
use Rattle.std.proofs.Common.{◌≡◌, ℕ, Bool, true, false, cond, not, refl, ap, ◌∙◌, sym}
use Rattle.refusal.specs.Kinds.{returned_flag}
use Rattle.refusal.proofs.KindLaws.{exit_is}
use Rattle.distances.specs.Premise.{premise_answer}
use Rattle.distances.proofs.AnswerLaws.{answered_value, answered_err}
use Rattle.distances.proofs.PremiseLaws.{gain, premise_answered}
use Rattle.distances.proofs.premise.premise_holds.Goals as goal

-- the value of an answer that is no where the test fits
value : (fails : Bool) → cond {A = ℕ} (not fails) 1 0 ≡ cond fails 0 1
value true = refl
value false = refl

pub returns-in_err-check : goal.returns-in_err-check
unfolding premise_answer
returns-in_err-check c =
    premise_answered _ _ _ _ _ (ap returned_flag (exit_is _ _ c.from_residual.ensures.1) ∙ answered_err _ _ c.in_err-check.ensures)

pub premise_fails-requires : goal.premise_fails-requires
premise_fails-requires c = (gain _ _ _ (sym c.in_ok-check.ensures)).0

pub returns : goal.returns
unfolding premise_answer
returns c =
    premise_answered _ _ _ _ _ (answered_value _ (sym c.in_ok-check.ensures)
    (value c.premise_fails.result ∙ ap (λ (t : Bool). cond {A = ℕ} t 0 1) c.premise_fails.ensures))
