-- The code sheet, written: lines of one number in four columns each, first n, then the N map bytes, then the n × N/2
-- coefficients. By which number a code is refused, and what `write_sheet` promises.
use Rattle.std.specs.Prelude.{ℕ, ◌+◌, ◌*◌, ◌/◌, ◌^◌, ◌≡◌, cond, List, ◌∷◌, ◌++◌, eqb, length}
use Rattle.refusal.specs.Table.{Row, refusal_of}
use Rattle.refusal.specs.Rows.{length_row}
use Rattle.columns.specs.Columns.{lines}
use Rattle.polar_code.specs.Code.{Code, code_sizes, code_table}

-- the bytes of a sheet with this many map bytes and coefficients: five for each line
abbrev pub sheet_length : (places kernels : ℕ) → ℕ
sheet_length places kernels = 5 * (1 + places + kernels)

-- the numbers of a sheet, in its order
abbrev pub sheet_numbers : Code → List ℕ
sheet_numbers code = code.n ∷ (code.map ++ code.coefs)

-- the sheet of a code: each of these on a line of its own, in four columns
unfoldable pub sheet_of : Code → List ℕ
sheet_of code = lines 4 (sheet_numbers code)

-- the row on the length of the output, for this many places and kernels, and the rows on the code's bytes
abbrev pub output_rows : Code → (out : List ℕ) (places kernels : ℕ) → List Row
output_rows code out places kernels =
    length_row (length out) (sheet_length places kernels) ∷ code_table code.map code.coefs

module _ (code : Code) (out : List ℕ) where
  -- the rows of document 01's table that `write_sheet` has the input for, in its order
  abbrev pub sheet_write_table : List Row
  sheet_write_table = code_sizes code ++ output_rows code out (2 ^ code.n) (code.n * (2 ^ code.n / 2))

  -- the number of the refusal, 0 where the code is accepted
  unfoldable pub sheet_write_refusal : ℕ
  sheet_write_refusal = refusal_of sheet_write_table

  -- what the output holds afterwards: the sheet, or on a refusal what it held
  unfoldable pub sheet_buffer : List ℕ
  sheet_buffer = cond (eqb sheet_write_refusal 0) (sheet_of code) out

  -- what `write_sheet` promises, for every input: its answer r, and the output at exit
  pub record SheetWritten (after : List ℕ) (r : ℕ) : Type 0 where
    pub answer : r ≡ sheet_write_refusal
    pub bytes_are : after ≡ sheet_buffer
