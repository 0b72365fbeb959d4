-- What the functions inside this crate are given. No public call asks any of this.
use Rattle.std.specs.Prelude.{ℕ, ◌+◌, ◌*◌, ◌/◌, ◌^◌, ◌≤◌, ◌≡◌, List, length}
use Rattle.polar_code.specs.Code.{Code, IsCode}
use Rattle.writer.specs.CodeSheet.{sheet_length}

-- what `write_lines` is given: room for just a line for each number
pub record LinesRoom (numbers out : List ℕ) : Type 0 where
  pub few : length numbers ≤ 1024
  pub out_long : length out ≡ 5 * length numbers

-- what `write_both` is given: room for just a line for each number of the two slices
pub record BothRoom (first second out : List ℕ) : Type 0 where
  pub few_first : length first ≤ 1024
  pub few_second : length second ≤ 1024
  pub out_long : length out ≡ 5 * (length first + length second)

-- what `write_code` is given: a code, and room for just its sheet
pub record SheetRoom (code : Code) (out : List ℕ) : Type 0 where
  pub is_code : IsCode code
  pub out_long : length out ≡ sheet_length (2 ^ code.n) (code.n * (2 ^ code.n / 2))

-- what `write_llrs` is given: the penalties of one place, and room for just their line
pub record LineRoom (llrs out : List ℕ) : Type 0 where
  pub llrs_long : length llrs ≡ 64
  pub out_long : length out ≡ 257
