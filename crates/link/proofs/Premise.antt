-- `premise_holds` says whether the premise of the noiseless statement holds: by the corollary, with a Qm and an m that
-- are accepted, as the premise goes by neither.
use Rattle.std.proofs.Common.{Result, Ok, Bool, true}
use native.Mathlib.Omega.{arith}
use Rattle.refusal.specs.Tests.{Within}
use Rattle.scms.specs.Mode.{all_candidates}
use Rattle.decoder_refusal.specs.Refusals.{settings_of}
use Rattle.refusal.specs.declared.kinds.Refusal.{Refusal}
use Rattle.distances.specs.Premise.{Accepted}
use Rattle.distances.proofs.PremiseLaws.{gain, far_apart, apart_far, yes_accepted}
use Rattle.link.specs.Noiseless.{Transmission, Reception, Sendable, message_frame, PremiseConditions}
use Rattle.link.specs.Premise.{PremiseStatement}
use Rattle.link.proofs.Noiseless.{corollary}

module _ (s : Transmission) (r : Reception) (sendable : Sendable s) (precision : Within 1 5 r.settings.qc) where
  -- the same reception at Qm = 13 with full check nodes
  abbrev full : Reception
  full = record { top = r.top; bottom = r.bottom; settings = settings_of r.settings.qc 13 all_candidates }

  -- its premise's conditions, for a gain that is accepted
  conditions : Accepted s.base s.amplitude r.top r.bottom → PremiseConditions s full
  conditions e =
      let g = gain s.base r.top r.bottom e in
      let few = precision.most in
      corollary s full (record {
        sendable = sendable;
        gain_top = g.0;
        gain_bottom = g.1;
        channel_precision = precision;
        internal_precision = record { least = omega arith; most = omega arith };
        candidates_fit = record { least = omega arith; most = omega arith };
      })

-- the answer is yes exactly where the premise holds
pub premise_statement : (s : Transmission) (r : Reception) (answer : Result Bool Refusal) → PremiseStatement s r answer
unfolding message_frame
premise_statement s r answer promised sendable precision = record {
  yes_holds = λ q.
      let e = yes_accepted _ _ _ _ answer promised.answer_is q in
      (conditions s r sendable precision e).apart_holds (far_apart _ _ _ _ (promised.yes_far q).1);
  holds_yes = λ e p.
      let apart = (conditions s r sendable precision e).holds_apart p in
      promised.far_yes e sendable.amplitude_fits (apart_far _ _ _ _ apart);
}
