-- What `premise_holds` of distances says of the premise of the noiseless statement (document 02, request 06).
use Rattle.std.specs.Prelude.{Result, Ok, Bool, true, false, ◌≡◌}
use Rattle.refusal.specs.Tests.{Within}
use Rattle.refusal.specs.declared.kinds.Refusal.{Refusal}
use Rattle.distances.specs.Premise.{Accepted, PremiseAnswered}
use Rattle.link.specs.Noiseless.{Transmission, Reception, Sendable, NoiselessPremise}

module _ (s : Transmission) (r : Reception) (answer : Result Bool Refusal) where
  -- the answer is yes exactly where the premise holds, for a gain that is accepted
  pub record AnswerAgrees : Type 0 where
    pub yes_holds : answer ≡ Ok true → NoiselessPremise s r
    pub holds_yes : Accepted s.base s.amplitude r.top r.bottom → NoiselessPremise s r → answer ≡ Ok true

  -- the statement: it is so for every code and every message that can be sent with this base and an amplitude from 1 to
  -- 127, and for every Qc from 1 to 5, whatever else is set; what is supposed of the answer is what the call promises
  abbrev pub PremiseStatement : Type 0
  PremiseStatement =
      PremiseAnswered s.base s.amplitude r.top r.bottom answer → Sendable s → Within 1 5 r.settings.qc
      → AnswerAgrees
