-- One line of a frame file, written: the 64 penalties of one place in four columns each, and a line feed.
use Rattle.std.specs.Prelude.{ℕ, ◌≡◌, cond, List, [], ◌∷◌, eqb, length}
use Rattle.refusal.specs.Table.{Row, refusal_of}
use Rattle.refusal.specs.Rows.{length_row}
use Rattle.columns.specs.Columns.{line}
use Rattle.decoder_refusal.specs.Refusals.{llrs_row, zeros_row}

module _ (llrs out : List ℕ) where
  -- the rows of document 01's table that `write_frame_line` has the input for, in its order: the two lengths; then,
  -- with Qc = 5, a penalty above 31, and no 0
  abbrev pub line_write_table : List Row
  line_write_table =
      length_row (length llrs) 64 ∷ length_row (length out) 257 ∷ llrs_row 5 llrs ∷ zeros_row 1 llrs ∷ []

  -- the number of the refusal, 0 where the penalties are accepted
  unfoldable pub line_write_refusal : ℕ
  line_write_refusal = refusal_of line_write_table

  -- what the output holds afterwards: the line, or on a refusal what it held
  unfoldable pub line_buffer : List ℕ
  line_buffer = cond (eqb line_write_refusal 0) (line 4 llrs) out

  -- what `write_frame_line` promises, for every input: its answer r, and the output at exit
  pub record LineWritten (after : List ℕ) (r : ℕ) : Type 0 where
    pub answer : r ≡ line_write_refusal
    pub bytes_are : after ≡ line_buffer
