-- When `premise_holds` answers yes, by its answer alone.
use mathlib.Core.Path.{◌≡◌, refl, sym, ap, ap₂, ◌∙◌, subst}
use mathlib.Core.Bool.{Bool, true, false, cond, ◌||◌}
use mathlib.Core.List.{List, [], ◌∷◌}
use Rattle.std.proofs.Common.{Result, Ok, Err}
use Prim.Native.Nat.{ℕ, ◌*◌, ◌≤◌, ◌<◌}
use native.Mathlib.Nat.{mul-le-mul_left, mul_assoc, mul_comm, le_trans}
use native.Mathlib.Omega.{arith}
use borrow.Author.Tests.{le-ltb, ltb-false}
use lib.Dec.{ltb, lit<}
use lib.ListN.{length, get_or}
use Rattle.refusal.specs.Returned.{Returned}
use Rattle.refusal.specs.Tests.{outside, Within}
use Rattle.refusal.proofs.Laws.{accepted_none, when_accepted}
use Rattle.refusal.proofs.Within.{inside_within, within_inside, or_left, or_right}
use Rattle.ccsk.specs.Chips.{differing}
use Rattle.demapper.specs.Noiseless.{Apart}
use Rattle.demapper.proofs.NoiselessLaws.{premise_apart, apart_premise}
use Rattle.refusal.specs.Kinds.{returned_flag}
use Rattle.refusal.specs.declared.kinds.Refusal.{Refusal}
use Rattle.distances.specs.Distance.{least_distance, answered}
use Rattle.distances.specs.Premise as premise
use Rattle.distances.specs.Premise.{premise_refusal, premise_fails, premise_answer, PremiseAnswered}
use Rattle.distances.proofs.DistanceLaws.{distance_below, least_bound, least_attained}

-- the answer by its value: 1 is yes, 0 is no
by_value : (answer : Result Bool Refusal) (value : ℕ) → (returned_flag answer).values ≡ value ∷ []
    → (value ≡ 1 → answer ≡ Ok true) × (value ≡ 0 → answer ≡ Ok false)
by_value (Ok true) value e = ((λ q. refl), (λ q. absurd (let v = ap (λ (vs : List ℕ). get_or vs 0 0) e in omega arith)))
by_value (Ok false) value e = ((λ q. absurd (let v = ap (λ (vs : List ℕ). get_or vs 0 0) e in omega arith)), (λ q. refl))
by_value (Err number) value e = absurd (let l = ap length e in omega arith)

-- the gain of an accepted call
pub gain : (base top bottom : ℕ) → premise_refusal base top bottom ≡ 0 → Within 1 255 top × Within 1 255 bottom
unfolding premise_refusal
gain base top bottom e =
    let f = accepted_none _ (lit< tt, (lit< tt, (lit< tt, tt))) e in
    (inside_within 1 255 top f.1.0, inside_within 1 255 bottom f.1.1.0)

module _ (base amplitude top bottom : ℕ) where
  -- for this base, amplitude and gain: the call is accepted
  abbrev Accepted : Type 0
  Accepted = premise.Accepted base amplitude top bottom

  -- amplitude × top × least distance ≥ bottom
  abbrev FarEnough : Type 0
  FarEnough = premise.FarEnough base amplitude top bottom

  -- the answer is no
  abbrev fails : Bool
  fails = premise_fails base amplitude top bottom

  -- the product that is compared with bottom
  abbrev product : ℕ
  product = amplitude * top * least_distance base

  -- ---- the inequality and the premise

  -- the factors in another order
  factors : (x : ℕ) → amplitude * top * x ≡ amplitude * x * top
  factors x =
      mul_assoc amplitude top x ∙ ap (λ (y : ℕ). amplitude * y) (mul_comm top x) ∙ sym (mul_assoc amplitude x top)

  -- far enough at the least distance, so at every shift
  pub far_apart : FarEnough → Apart base amplitude top bottom
  far_apart far d w =
      let below : d < 64 = (let m = w.most in omega arith) in
      let here = distance_below base d below in
      let nearest = subst (λ (x : ℕ). least_distance base ≤ x) here (least_bound base d w) in
      let more = mul-le-mul_left (amplitude * top) nearest in
      le_trans far (subst (λ (x : ℕ). product ≤ x) (factors (differing base 0 d)) more)

  -- and the other way round: a shift has the least distance
  pub apart_far : Apart base amplitude top bottom → FarEnough
  apart_far apart =
      let p = least_attained base in
      let below : p.0 < 64 = (let m = p.1.most in omega arith) in
      let at = sym (distance_below base p.0 below) ∙ p.2 in
      let same = sym (factors (differing base 0 p.0)) ∙ ap (λ (x : ℕ). amplitude * top * x) at in
      subst (λ (x : ℕ). bottom ≤ x) same (apart p.0 p.1)

  -- the answer is not no: an amplitude from 1 to 127, far enough
  fits_far : fails ≡ false → Within 1 127 amplitude × FarEnough
  unfolding premise_fails
  fits_far e =
      (inside_within 1 127 amplitude (or_left _ _ e), ltb-false _ _ (or_right (outside 1 127 amplitude) _ e))

  -- and the other way round
  far_fits : Within 1 127 amplitude → FarEnough → fails ≡ false
  unfolding premise_fails
  far_fits w far =
      ap₂ (λ (a b : Bool). a || b) (within_inside 1 127 amplitude w) (le-ltb product bottom far)

  -- an amplitude that is not
  other_fails : (Within 1 127 amplitude → ⊥) → fails ≡ true
  unfolding premise_fails
  other_fails h = go (outside 1 127 amplitude) refl
    where
      go : (t : Bool) → outside 1 127 amplitude ≡ t → outside 1 127 amplitude || ltb product bottom ≡ true
      go true q = ap (λ (t : Bool). t || ltb product bottom) q
      go false q = absurd (h (inside_within 1 127 amplitude q))

  -- ---- the answer

  module _ (answer : Result Bool Refusal) (is : returned_flag answer ≡ premise_answer base amplitude top bottom) where
    -- the value of an accepted call
    value : Accepted → (returned_flag answer).values ≡ cond fails 0 1 ∷ []
    unfolding premise_answer answered
    value e = ap (λ (r : Returned). r.values) is ∙ when_accepted _ _ _ e

    -- accepted, and not no
    pub accepted_yes : Accepted → fails ≡ false → answer ≡ Ok true
    accepted_yes e f = (by_value answer _ (value e)).0 (ap (λ (t : Bool). cond t 0 1) f)

    -- accepted, and no
    pub accepted_no : Accepted → fails ≡ true → answer ≡ Ok false
    accepted_no e f = (by_value answer _ (value e)).1 (ap (λ (t : Bool). cond t 0 1) f)

    -- yes is an accepted call's
    pub yes_accepted : answer ≡ Ok true → Accepted
    unfolding premise_answer answered
    yes_accepted q = sym (ap (λ (r : Returned). r.number) is) ∙ ap (λ (a : Result Bool Refusal). (returned_flag a).number) q

    -- and not no
    yes_fits : answer ≡ Ok true → fails ≡ false
    yes_fits q = go fails refl
      where
        one : ◌≡◌ {A = ℕ} 1 (cond fails 0 1)
        one =
            let values = sym (ap (λ (a : Result Bool Refusal). (returned_flag a).values) q) ∙ value (yes_accepted q) in
            ap (λ (vs : List ℕ). get_or vs 0 0) values

        go : (t : Bool) → fails ≡ t → fails ≡ false
        go true e = absurd (let z = one ∙ ap (λ (t : Bool). cond t 0 1) e in omega arith)
        go false e = e

    -- bottom is at least 1 in an accepted call
    bottom_least : Accepted → 1 ≤ bottom
    bottom_least e = (gain base top bottom e).1.least

    -- all that the answer promises
    pub premise_answered : PremiseAnswered base amplitude top bottom answer
    premise_answered = record {
      answer_is = is;
      yes_premise = λ q qc s w l.
          let far = fits_far (yes_fits q) in
          let least = bottom_least (yes_accepted q) in
          apart_premise base amplitude s far.0.most l top bottom qc least w.least (far_apart far.1);
      premise_yes = λ e a qc s w l p.
          let apart = premise_apart base amplitude s a.most l top bottom qc (bottom_least e) w.least p in
          accepted_yes e (far_fits a (apart_far apart));
      yes_far = λ q. fits_far (yes_fits q);
      far_yes = λ e a far. accepted_yes e (far_fits a far);
      other_no = λ e h. accepted_no e (other_fails h);
    }
