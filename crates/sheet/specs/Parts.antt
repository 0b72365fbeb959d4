-- What the functions inside this crate are given. No public call asks any of this.
use Rattle.std.specs.Prelude.{ℕ, ◌+◌, ◌*◌, ◌≤◌, ◌<◌, ◌≡◌, true, not, List, [], ◌∷◌, ◌/◌, ltb, length}
use Rattle.refusal.specs.Table.{Row}
use Rattle.refusal.specs.Tests.{any_outside, any_to, unequal, Within}
use Rattle.columns.specs.Reading.{is_line}
use Rattle.sheet.specs.CodeSheet.{bad_line, number_on, numbers_on, sheet_layers, sheet_lines}
use Rattle.polar_code.specs.Code.{layers_row, map_row, coefs_row}
use Rattle.polar_code.specs.Sizes.{places_of, kernels_of}

-- the bytes have the lines from line `first` on, `count` of them
pub record Lines (first count : ℕ) (bytes : List ℕ) : Type 0 where
  pub few : first + count ≤ 2000
  pub there : 5 * (first + count) ≤ length bytes

-- what `content_refusal` is given: n, and all lines that a sheet with this n has
pub record Formed (n : ℕ) (bytes : List ℕ) : Type 0 where
  pub is_n : n ≡ sheet_layers bytes
  pub layers : Within 1 8 n
  pub long : length bytes ≡ 5 * sheet_lines bytes

-- the rows that `check_lines` goes down, with the sizes that `place_count` and `kernel_count` give for n, and all lines
-- that the bytes have
abbrev pub tried_form : (n : ℕ) → List ℕ → List Row
tried_form n bytes =
    (12, bad_line 0 bytes)
    ∷ layers_row n
    ∷ (12, unequal (length bytes) (5 * (1 + places_of n + kernels_of n)))
    ∷ (12, any_to (length bytes / 5) (λ i. bad_line i bytes))
    ∷ []

-- those that `check_contents` goes down, for this many places and kernels, with the test that is made for row 5
abbrev pub tried_content : (places kernels : ℕ) → (bytes map coefs : List ℕ) → List Row
tried_content places kernels bytes map coefs =
    (2, ltb (length map) places)
    ∷ (2, ltb (length coefs) kernels)
    ∷ map_row (numbers_on 1 places bytes)
    ∷ (5, not (any_outside 1 1 (numbers_on 1 places bytes)))
    ∷ coefs_row (numbers_on (1 + places) kernels bytes)
    ∷ []

-- what `write_numbers` is given: the lines are there, and their numbers are bytes
pub record NumbersGiven (first : ℕ) (bytes out : List ℕ) : Type 0 where
  pub lines : Lines first (length out) bytes
  pub small : (i : ℕ) → i < length out → number_on (first + i) bytes < 256

-- what `write_llrs` is given: a line of the right form, and 64 numbers to write
pub record LineGiven (line llrs : List ℕ) : Type 0 where
  pub of_line_form : is_line 4 64 line ≡ true
  pub long : length llrs ≡ 64
