-- The code sheet: lines of one number in four columns each, first n, then the N map bytes, then the n × N/2
-- coefficients. What it holds, by which number it is refused, and what `read_sheet` promises.
use Rattle.std.specs.Prelude.{ℕ, ◌+◌, ◌*◌, ◌/◌, ◌^◌, ◌≤◌, ◌≡◌, Bool, not, cond, List, [], ◌∷◌, ◌++◌, eqb, ltb, length, take, drop, Result}
use Rattle.refusal.specs.Table.{Row, refusal_of}
use Rattle.refusal.specs.Tests.{any_to, unequal}
use Rattle.refusal.specs.Returned.{Returned}
use Rattle.vector.specs.Vector.{tabulate}
use Rattle.columns.specs.Reading.{spelled, part, is_line}
use Rattle.polar_code.specs.Code.{layers_row, map_row, empty_row, coefs_row, code_of, IsCode}
use Rattle.refusal.specs.Kinds.{returned}
use Rattle.refusal.specs.declared.kinds.Refusal.{Refusal}

-- line i, counted from 0, is not four columns with one number and a line feed
unfoldable pub bad_line : ℕ → List ℕ → Bool
bad_line i bytes = not (is_line 4 1 (part 5 i bytes))

-- the number on line i
unfoldable pub number_on : ℕ → List ℕ → ℕ
number_on i bytes = spelled (take 4 (part 5 i bytes))

-- the numbers on the k lines from line i on
unfoldable pub numbers_on : (i k : ℕ) → List ℕ → List ℕ
numbers_on i k bytes = tabulate k (λ j. number_on (i + j) bytes)

module _ (bytes : List ℕ) where
  -- n, on the first line
  abbrev pub sheet_layers : ℕ
  sheet_layers = number_on 0 bytes

  -- N
  abbrev pub sheet_places : ℕ
  sheet_places = 2 ^ sheet_layers

  -- n × N/2
  abbrev pub sheet_kernels : ℕ
  sheet_kernels = sheet_layers * (sheet_places / 2)

  -- how many lines a sheet with this n has
  abbrev pub sheet_lines : ℕ
  sheet_lines = 1 + sheet_places + sheet_kernels

  -- the numbers of the map
  unfoldable pub sheet_map : List ℕ
  sheet_map = numbers_on 1 sheet_places bytes

  -- the coefficients
  unfoldable pub sheet_coefs : List ℕ
  sheet_coefs = numbers_on (1 + sheet_places) sheet_kernels bytes

  -- the rows of `read_sheet`, in the reader's own order: first those on the form, with n among them
  abbrev pub form_table : List Row
  form_table =
      (12, ltb (length bytes) 5)
      ∷ (12, bad_line 0 bytes)
      ∷ layers_row sheet_layers
      ∷ (12, unequal (length bytes) (5 * sheet_lines))
      ∷ (12, any_to sheet_lines (λ i. bad_line i bytes))
      ∷ []

  -- then those on buffers that are too short, and on the numbers; these are judged before they are cut to a byte
  abbrev pub content_table : (map coefs : List ℕ) → List Row
  content_table map coefs =
      (2, ltb (length map) sheet_places)
      ∷ (2, ltb (length coefs) sheet_kernels)
      ∷ map_row sheet_map
      ∷ empty_row sheet_map
      ∷ coefs_row sheet_coefs
      ∷ []

module _ (bytes map coefs : List ℕ) where
  -- all rows
  abbrev pub sheet_table : List Row
  sheet_table = form_table bytes ++ content_table bytes map coefs

  -- the number of the refusal, 0 where the sheet is accepted
  unfoldable pub sheet_refusal : ℕ
  sheet_refusal = refusal_of sheet_table

  -- what is made where the sheet is accepted, or on a refusal what is kept
  abbrev either : List ℕ → List ℕ → List ℕ
  either made kept = cond (eqb sheet_refusal 0) made kept

  -- the answer: the refusal, or n
  unfoldable pub sheet_answer : Returned
  sheet_answer = record { number = sheet_refusal; values = either (sheet_layers bytes ∷ []) [] }

  -- the map buffer: the N bytes of the map, and after them what was there
  unfoldable pub map_read : List ℕ
  map_read = either (sheet_map bytes ++ drop (sheet_places bytes) map) map

  -- the coefficient buffer: the n × N/2 coefficients, and after them what was there
  unfoldable pub coefs_read : List ℕ
  coefs_read = either (sheet_coefs bytes ++ drop (sheet_kernels bytes) coefs) coefs

  -- What `read_sheet` promises, for every input: the answer r and the two buffers at exit; and that a sheet that is
  -- accepted is a code, with room for it in the buffers
  pub record SheetRead (new_map new_coefs : List ℕ) (r : Result ℕ Refusal) : Type 0 where
    pub answer : returned r ≡ sheet_answer
    pub map_is : new_map ≡ map_read
    pub coefs_are : new_coefs ≡ coefs_read
    pub code : sheet_refusal ≡ 0 → IsCode (code_of (sheet_layers bytes) (sheet_map bytes) (sheet_coefs bytes))
    pub map_room : sheet_refusal ≡ 0 → sheet_places bytes ≤ length map
    pub coefs_room : sheet_refusal ≡ 0 → sheet_kernels bytes ≤ length coefs
