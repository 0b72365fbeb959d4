-- A sheet written and then read, and read and then written. The premises are what the two calls promise, so what is
-- said holds for every code, every list of bytes and every buffer.
use Rattle.std.specs.Prelude.{ℕ, ◌*◌, ◌/◌, ◌^◌, ◌≤◌, ◌≡◌, List, ◌++◌, length, take, drop, Result, Ok}
use Rattle.polar_code.specs.Code.{Code, code_of}
use Rattle.sheet.specs.CodeSheet.{SheetRead}
use Rattle.refusal.specs.declared.kinds.Refusal.{Refusal}
use Rattle.writer.specs.CodeSheet.{SheetWritten}

-- what `read_sheet` gives for the sheet of a code: n, and at the start of the two buffers the map and the coefficients,
-- with what was there after them
pub record CodeRead (code : Code) (map coefs new_map new_coefs : List ℕ) (answer : Result ℕ Refusal) : Type 0 where
  pub layers : answer ≡ Ok code.n
  pub map_is : new_map ≡ code.map ++ drop (2 ^ code.n) map
  pub coefs_are : new_coefs ≡ code.coefs ++ drop (code.n * (2 ^ code.n / 2)) coefs

-- what `write_sheet` left for a code that it accepted is accepted by `read_sheet`, for any two buffers that are long
-- enough, and gives the code back
abbrev pub SheetReadBack : (code : Code) (out bytes map coefs new_map new_coefs : List ℕ) → Result ℕ Refusal → Type 0
SheetReadBack code out bytes map coefs new_map new_coefs answer =
    SheetWritten code out bytes 0 → 2 ^ code.n ≤ length map → code.n * (2 ^ code.n / 2) ≤ length coefs
    → SheetRead bytes map coefs new_map new_coefs answer → CodeRead code map coefs new_map new_coefs answer

-- a sheet that `read_sheet` accepted: `write_sheet`, given n, the first N and n × N/2 bytes of the two buffers and an
-- output as long as the sheet, accepts it and leaves the same bytes
abbrev pub SheetWrittenBack : (bytes map coefs new_map new_coefs : List ℕ) (n : ℕ) (out after : List ℕ) (r : ℕ)
    → Type 0
SheetWrittenBack bytes map coefs new_map new_coefs n out after r =
    SheetRead bytes map coefs new_map new_coefs (Ok n) → length out ≡ length bytes
    → SheetWritten (code_of n (take (2 ^ n) new_map) (take (n * (2 ^ n / 2)) new_coefs)) out after r
    → (r ≡ 0) × (after ≡ bytes)
