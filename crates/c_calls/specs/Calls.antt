-- What `zithejo_decode` promises, and what the calls on a base do. The other calls promise what `encode` of polar,
-- `demap` of demapper, and `write_sheet` and `write_frame_line` of writer do.
use Rattle.std.specs.Prelude.{ℕ, ◌≡◌, List, [], ◌∷◌, Result}
use Rattle.refusal.specs.Returned.{Returned}
use Rattle.refusal.specs.Kinds.{returned, returned_flag}
use Rattle.refusal.specs.declared.kinds.Refusal.{Refusal}
use Rattle.polar_code.specs.Code.{Code}
use Rattle.decoder_refusal.specs.Refusals.{Settings, Lent}
use Rattle.decoder.specs.Decode.{Decoded}
use Rattle.distances.specs.Distance.{DistanceAnswered, LeastAnswered}
use Rattle.distances.specs.Shifts.{ShiftsListed}
use Rattle.distances.specs.Premise.{PremiseAnswered}

-- what a lent number holds afterwards: the first of an answer's values, or where it has none what the number held
unfoldable pub first_or : List ℕ → ℕ → ℕ
first_or [] before = before
first_or (value ∷ values) before = value

-- The promise, for every input: there is an answer of `decode`, with all that `decode` promises of it and of the lent
-- buffers at exit; the number returned is that of the answer, 0 where the frame was decoded; and the count at exit is
-- the answer's value, or as it came where the answer is a refusal
pub record DecodeCalled (code : Code) (settings : Settings) (frame : List ℕ) (lent after : Lent)
    (count count_after r : ℕ) : Type 0 where
  pub answer : Result ℕ Refusal
  pub decoded : Decoded code settings frame lent after answer
  pub number_returned : r ≡ (returned answer).number
  pub count_is : count_after ≡ first_or (returned answer).values count

-- an answer in C: the number is returned, and its value is put into a lent number, which is as it came where the answer
-- is a refusal
pub record Told (answer : Returned) (before after r : ℕ) : Type 0 where
  pub number_returned : r ≡ answer.number
  pub value_is : after ≡ first_or answer.values before

-- the promise, for every input: there is an answer of the call that is made, with all that this promises of it and of
-- what it is lent; and that answer is told
pub record Called {A : Type 0} (returned : A → Returned) (promise : A → Type 0) (before after r : ℕ) : Type 0 where
  pub answer : A
  pub promised : promise answer
  pub told : Told (returned answer) before after r

-- `shift_distance`: it is the distance
abbrev pub DistanceCalled : (base s : ℕ) → (distance after r : ℕ) → Type 0
DistanceCalled base s before after r = Called returned (DistanceAnswered base s) before after r

-- `least_distance`: the same
abbrev pub LeastCalled : (base : ℕ) → (distance after r : ℕ) → Type 0
LeastCalled base before after r = Called returned (LeastAnswered base) before after r

-- `shifts_within`: it is the count of the shifts
abbrev pub ShiftsCalled : (base d : ℕ) → (list list_after : List ℕ) → (count count_after r : ℕ) → Type 0
ShiftsCalled base d list list_after before after r =
    Called returned (ShiftsListed base d list list_after) before after r

-- `premise_holds`: it is 1 for yes and 0 for no
abbrev pub PremiseCalled : (base amplitude top bottom : ℕ) → (holds after r : ℕ) → Type 0
PremiseCalled base amplitude top bottom before after r =
    Called returned_flag (PremiseAnswered base amplitude top bottom) before after r
