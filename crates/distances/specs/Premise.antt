-- Whether the premise of the noiseless statement holds (document 02, request 06): what `premise_holds` promises.
use Rattle.std.specs.Prelude.{ℕ, ◌*◌, ◌≤◌, ◌<◌, ◌≡◌, Bool, true, false, cond, ◌||◌, Result, Ok, List, [], ◌∷◌, ltb}
use Rattle.refusal.specs.Table.{Row, refusal_of}
use Rattle.refusal.specs.Tests.{outside, Within}
use Rattle.refusal.specs.Returned.{Returned}
use Rattle.refusal.specs.Kinds.{returned_flag}
use Rattle.refusal.specs.declared.kinds.Refusal.{Refusal}
use Rattle.ccsk.specs.Chips.{base_row}
use Rattle.demapper.specs.Demap.{gain_row}
use Rattle.demapper.specs.Noiseless.{Premise}
use Rattle.distances.specs.Distance.{least_distance, answered}

-- the rows of document 01's table that `premise_holds` has the input for, in its order
abbrev pub premise_table : (base top bottom : ℕ) → List Row
premise_table base top bottom = base_row base ∷ gain_row top ∷ gain_row bottom ∷ []

-- the number that `premise_holds` refuses by, 0 where it accepts its input
unfoldable pub premise_refusal : (base top bottom : ℕ) → ℕ
premise_refusal base top bottom = refusal_of (premise_table base top bottom)

module _ (base amplitude top bottom : ℕ) where
  -- the answer is no: the amplitude is outside 1 to 127, or amplitude × top × least distance is below bottom
  unfoldable pub premise_fails : Bool
  premise_fails = outside 1 127 amplitude || ltb (amplitude * top * least_distance base) bottom

  -- what `premise_holds` answers
  unfoldable pub premise_answer : Returned
  premise_answer = answered (premise_refusal base top bottom) (cond premise_fails 0 1)

  -- the call is accepted: no row of the table fits
  abbrev pub Accepted : Type 0
  Accepted = premise_refusal base top bottom ≡ 0

  -- amplitude × top × least distance ≥ bottom
  abbrev pub FarEnough : Type 0
  FarEnough = bottom ≤ amplitude * top * least_distance base

  -- The promise, for every input. First the answer. Then, where the call is accepted: for an amplitude from 1 to 127 it
  -- is yes exactly where the premise of the noiseless statement holds, at whatever symbol is sent and for whatever Qc
  -- from 1 to 5; and exactly where amplitude × top × least distance ≥ bottom; for any other amplitude it is no
  pub record PremiseAnswered (answer : Result Bool Refusal) : Type 0 where
    pub answer_is : returned_flag answer ≡ premise_answer
    pub yes_premise : answer ≡ Ok true → (qc s : ℕ) → Within 1 5 qc → s < 64 → Premise base amplitude top bottom qc s
    pub premise_yes : Accepted → Within 1 127 amplitude → (qc s : ℕ) → Within 1 5 qc → s < 64
        → Premise base amplitude top bottom qc s → answer ≡ Ok true
    pub yes_far : answer ≡ Ok true → Within 1 127 amplitude × FarEnough
    pub far_yes : Accepted → Within 1 127 amplitude → FarEnough → answer ≡ Ok true
    pub other_no : Accepted → (Within 1 127 amplitude → ⊥) → answer ≡ Ok false
