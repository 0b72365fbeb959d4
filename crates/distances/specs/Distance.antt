-- Chip distances of a base (document 02, request 06): what `shift_distance` and `least_distance` promise.
use Rattle.std.specs.Prelude.{ℕ, ◌+◌, ◌*◌, ◌%◌, ◌≤◌, ◌≡◌, cond, [], ◌∷◌, eqb, Result}
use Rattle.refusal.specs.Table.{refusal_of}
use Rattle.refusal.specs.Tests.{Within}
use Rattle.refusal.specs.Returned.{Returned}
use Rattle.refusal.specs.Kinds.{returned}
use Rattle.refusal.specs.declared.kinds.Refusal.{Refusal}
use Rattle.vector.specs.Vector.{least_to}
use Rattle.ccsk.specs.Chips.{differing, base_row}

-- the distance of the shift s: the number of chips in which shift s differs from shift 0, s counted mod 64
unfoldable pub shift_distance : (base s : ℕ) → ℕ
shift_distance base s = differing base 0 (s % 64)

-- the least distance of the shifts 1, 2, .., 63
unfoldable pub least_distance : (base : ℕ) → ℕ
least_distance base = least_to 62 (λ i. shift_distance base (i + 1))

-- what a call with one value answers: the value where the number of its refusal is 0, else that number alone
unfoldable pub answered : (number value : ℕ) → Returned
answered number value = record { number = number; values = cond (eqb number 0) (value ∷ []) [] }

module _ (base : ℕ) where
  -- the number by which a base is refused, 0 where it is accepted
  unfoldable pub base_refusal : ℕ
  base_refusal = refusal_of (base_row base ∷ [])

  -- what `shift_distance` answers
  unfoldable pub distance_answer : (s : ℕ) → Returned
  distance_answer s = answered base_refusal (shift_distance base s)

  -- what `least_distance` answers
  unfoldable pub least_answer : Returned
  least_answer = answered base_refusal (least_distance base)

  -- the promise of `shift_distance`, for every input: the answer; and the distance is even
  pub record DistanceAnswered (s : ℕ) (answer : Result ℕ Refusal) : Type 0 where
    pub answer_is : returned answer ≡ distance_answer s
    pub half : ℕ
    pub even : shift_distance base s ≡ 2 * half

  -- a number is the least distance: a shift from 1 to 63 has it, none of them is nearer; and it is even, and at least 2
  pub record Least (least : ℕ) : Type 0 where
    pub at : ℕ
    pub at_shift : Within 1 63 at
    pub attained : shift_distance base at ≡ least
    pub bound : (s : ℕ) → Within 1 63 s → least ≤ shift_distance base s
    pub half : ℕ
    pub even : least ≡ 2 * half
    pub at_least_two : 2 ≤ least

  -- the promise of `least_distance`, for every input: the answer, and what holds of it where the base is accepted
  pub record LeastAnswered (answer : Result ℕ Refusal) : Type 0 where
    pub answer_is : returned answer ≡ least_answer
    pub least : base_refusal ≡ 0 → Least (least_distance base)
