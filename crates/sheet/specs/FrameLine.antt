-- One line of a frame file: 64 numbers in four columns each, and a line feed.
use Rattle.std.specs.Prelude.{ℕ, ◌≡◌, not, cond, List, [], ◌∷◌, eqb, length}
use Rattle.refusal.specs.Table.{Row, refusal_of}
use Rattle.refusal.specs.Rows.{length_row}
use Rattle.columns.specs.Reading.{numbers, is_line}

-- 12: the bytes are not a line of 64 numbers, which has 257 bytes
abbrev pub line_row : List ℕ → Row
line_row bytes = (12, not (is_line 4 64 bytes))

-- the numbers of a line, one for each value of a symbol
unfoldable pub line_llrs : List ℕ → List ℕ
line_llrs bytes = numbers 4 64 bytes

module _ (bytes llrs : List ℕ) where
  -- the rows of `read_frame_line`, in document 01's order for it: first the output, then the line
  abbrev pub line_table : List Row
  line_table = length_row (length llrs) 64 ∷ line_row bytes ∷ []

  -- the number of the refusal, 0 where the line is accepted
  unfoldable pub line_refusal : ℕ
  line_refusal = refusal_of line_table

  -- the output: the line's numbers, or on a refusal as it came
  unfoldable pub line_output : List ℕ
  line_output = cond (eqb line_refusal 0) (line_llrs bytes) llrs

  -- what `read_frame_line` promises, for every input: its answer r, and the output at exit
  pub record LineRead (llrs_after : List ℕ) (r : ℕ) : Type 0 where
    pub answer : r ≡ line_refusal
    pub llrs_are : llrs_after ≡ line_output
