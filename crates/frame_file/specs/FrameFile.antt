-- A frame file: N lines of 64 numbers each. The verdict on its bytes as a whole, and the same verdict line by line.
use Rattle.std.specs.Prelude.{ℕ, zero, suc, ◌+◌, ◌*◌, ◌≡◌, Bool, cond, ◌||◌, List, [], ◌∷◌, ◌++◌, eqb, ltb, length, take, drop}
use Rattle.refusal.specs.Table.{Row, refusal_of}
use Rattle.refusal.specs.Tests.{any_to, unequal}
use Rattle.refusal.specs.Rows.{length_row}
use Rattle.vector.specs.Vector.{joined, vector_at}
use Rattle.columns.specs.Reading.{part}
use Rattle.decoder_refusal.specs.Refusals.{llrs_row, zeros_row}
use Rattle.sheet.specs.FrameLine.{line_row, line_llrs, line_output}

module _ (places : ℕ) (bytes : List ℕ) where
  -- line i of the file: 257 bytes, or fewer where the file ends
  unfoldable pub frame_line : ℕ → List ℕ
  frame_line i = part 257 i bytes

  -- the numbers of the frame: those of its N lines, one after the other
  unfoldable pub frame_llrs : List ℕ
  frame_llrs = joined places (λ i. line_llrs (frame_line i))

  -- the rows of a frame file for a code of N places, in document 01's order: 12 for too few or too many bytes or a line
  -- that breaks its form; then, with Qc = 5, 8 and 9
  abbrev pub frame_table : List Row
  frame_table =
      (12, unequal (length bytes) (257 * places))
      ∷ (12, any_to places (λ i. (line_row (frame_line i)).1))
      ∷ llrs_row 5 frame_llrs
      ∷ zeros_row places frame_llrs
      ∷ []

  -- the verdict on the file: the number of its refusal, 0 where it is accepted
  unfoldable pub frame_verdict : ℕ
  frame_verdict = refusal_of frame_table

-- the rows of one line, for an output of so many numbers
abbrev pub fed_table : (long : ℕ) → List ℕ → List Row
fed_table long bytes = length_row long 64 ∷ line_row bytes ∷ llrs_row 5 (line_llrs bytes) ∷ zeros_row 1 (line_llrs bytes) ∷ []

-- the verdict on one line
unfoldable pub line_verdict : (long : ℕ) → List ℕ → ℕ
line_verdict long bytes = refusal_of (fed_table long bytes)

-- the number k, where one of two verdicts is k
abbrev pub either_row : (k a b : ℕ) → Row
either_row k a b = (k, eqb a k || eqb b k)

-- two verdicts, in the order in which they are tried: 2, 12, 8, 9
abbrev pub tried_table : (a b : ℕ) → List Row
tried_table a b = either_row 2 a b ∷ either_row 12 a b ∷ either_row 8 a b ∷ either_row 9 a b ∷ []

-- of two verdicts the one that is tried first. A number that is none of the four counts as 0
unfoldable pub first_tried : (a b : ℕ) → ℕ
first_tried a b = refusal_of (tried_table a b)

-- the verdict at the end, from that on the lines and whether a byte is left after them
unfoldable pub end_verdict : ℕ → Bool → ℕ
end_verdict so_far left = first_tried so_far (cond left 12 0)

-- What `feed_line` promises, for every input, any number for the verdict so far included: its answer r, the verdict on
-- this line and what was read before; and the output at exit
pub record LineFed (so_far : ℕ) (bytes llrs llrs_after : List ℕ) (r : ℕ) : Type 0 where
  pub answer : r ≡ first_tried so_far (line_verdict (length llrs) bytes)
  pub llrs_are : llrs_after ≡ line_output bytes llrs

module _ (bytes : List ℕ) where
  -- the verdict after the first k lines of a file, fed one after the other
  unfoldable pub fed_verdict : ℕ → ℕ
  fed_verdict zero = 0
  fed_verdict (suc k) = first_tried (fed_verdict k) (line_verdict 64 (part 257 k bytes))

  -- the frame buffer then, each line's output being the 64 numbers of its place
  unfoldable pub fed_frame : ℕ → List ℕ → List ℕ
  fed_frame zero frame = frame
  fed_frame (suc k) frame =
      let f = fed_frame k frame in
      take (64 * k) f ++ (line_output (part 257 k bytes) (vector_at f k) ++ drop (64 * k + 64) f)

-- Feeding a file's bytes line by line, for every list of bytes, and then whether a byte is left: that is the verdict on
-- the file; and where the file is accepted the buffer holds the frame's numbers
pub record Fed (places : ℕ) (bytes frame : List ℕ) : Type 0 where
  pub verdict : end_verdict (fed_verdict bytes places) (ltb (257 * places) (length bytes)) ≡ frame_verdict places bytes
  pub llrs : frame_verdict places bytes ≡ 0 → fed_frame bytes places frame ≡ frame_llrs places bytes
