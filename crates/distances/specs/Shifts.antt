-- The shifts within some number of chips (document 02, request 06): what `shifts_within` promises.
use Rattle.std.specs.Prelude.{ℕ, ◌+◌, ◌-◌, ◌≤◌, ◌<◌, ◌≡◌, cond, List, [], ◌∷◌, ◌++◌, eqb, ltb, length, get_or, replicate, Result}
use Rattle.refusal.specs.Table.{Row, refusal_of}
use Rattle.refusal.specs.Tests.{Within}
use Rattle.refusal.specs.Rows.{length_row}
use Rattle.refusal.specs.Returned.{Returned}
use Rattle.refusal.specs.Kinds.{returned}
use Rattle.refusal.specs.declared.kinds.Refusal.{Refusal}
use Rattle.vector.specs.Vector.{joined}
use Rattle.ccsk.specs.Chips.{base_row}
use Rattle.distances.specs.Distance.{shift_distance, answered}

module _ (base d : ℕ) where
  -- the shift s alone where its distance is at most d, else nothing
  unfoldable pub near_shift : (s : ℕ) → List ℕ
  near_shift s = cond (ltb d (shift_distance base s)) [] (s ∷ [])

  -- the shifts from 1 to n within d chips, in rising order
  unfoldable pub near_to : (n : ℕ) → List ℕ
  near_to n = joined n (λ i. near_shift (i + 1))

  -- all shifts within d chips: those from 1 to 63
  abbrev pub near_shifts : List ℕ
  near_shifts = near_to 63

-- n bytes that begin with these, the rest zeros
unfoldable pub with_zeros : (n : ℕ) → List ℕ → List ℕ
with_zeros n bytes = bytes ++ replicate (n - length bytes) 0

module _ (base : ℕ) (buffer : List ℕ) where
  -- the rows that `shifts_within` has the input for, in their order: the buffer has 63 bytes, and the base
  abbrev pub shifts_table : List Row
  shifts_table = length_row (length buffer) 63 ∷ base_row base ∷ []

  -- the number that `shifts_within` refuses by, 0 where it accepts its input
  unfoldable pub shifts_refusal : ℕ
  shifts_refusal = refusal_of shifts_table

  -- what it answers: the count of the shifts
  unfoldable pub shifts_answer : (d : ℕ) → Returned
  shifts_answer d = answered shifts_refusal (length (near_shifts base d))

  -- what the lent buffer holds afterwards: the shifts and zeros, or on a refusal what it held
  unfoldable pub shifts_buffer : (d : ℕ) → List ℕ
  shifts_buffer d = cond (eqb shifts_refusal 0) (with_zeros 63 (near_shifts base d)) buffer

-- what holds of the bytes of the buffer, the first `count` of which are listed: each of these is a shift from 1 to 63
-- within d chips, they rise, each such shift is among them, and the bytes after them are 0
pub record NearList (base d count : ℕ) (bytes : List ℕ) : Type 0 where
  pub near : (i : ℕ) → i < count → Within 1 63 (get_or bytes i 0) × (shift_distance base (get_or bytes i 0) ≤ d)
  pub rising : (i j : ℕ) → i < j → j < count → get_or bytes i 0 < get_or bytes j 0
  pub all : (s : ℕ) → Within 1 63 s → shift_distance base s ≤ d → (i : ℕ) × (i < count) × (get_or bytes i 0 ≡ s)
  pub rest : (i : ℕ) → count ≤ i → i < 63 → get_or bytes i 0 ≡ 0

-- the promise, for every input: the answer, the buffer at exit, and what holds of it where the call is accepted
pub record ShiftsListed (base d : ℕ) (before after : List ℕ) (answer : Result ℕ Refusal) : Type 0 where
  pub answer_is : returned answer ≡ shifts_answer base before d
  pub buffer_is : after ≡ shifts_buffer base before d
  pub list : shifts_refusal base before ≡ 0 → NearList base d (length (near_shifts base d)) after
