-- What it means that `write_sheet` accepts a code, and how the sheet is put together.
use mathlib.Core.Path.{◌≡◌, sym, ◌∙◌}
use mathlib.Core.List.{List, [], ◌∷◌, ◌++◌}
use Prim.Native.Nat.{ℕ, ◌*◌, ◌/◌, ◌^◌, ◌≤◌}
use native.Mathlib.Nat.{mul-le-mul_right}
use native.Mathlib.Omega.{arith}
use lib.ListN.{length}
use lib.Pow.{pow_mono}
use Rattle.refusal.specs.Table.{Numbered}
use Rattle.refusal.proofs.Laws.{accepted_none, none_accepted, when_accepted, when_refused}
use Rattle.refusal.proofs.Laws.{numbered}
use Rattle.refusal.proofs.Within.{false_equal, equal_false}
use Rattle.columns.specs.Columns.{lines}
use Rattle.columns.proofs.LinesLaws.{lines_append}
use Rattle.polar_code.specs.Code.{Code, IsCode}
use Rattle.polar_code.proofs.CodeLaws.{rows_code, sizes_of_code, code_bytes}
use Rattle.writer.specs.CodeSheet.{sheet_length, sheet_of, sheet_write_table, sheet_write_refusal}
use Rattle.writer.specs.CodeSheet.{sheet_buffer, SheetWritten}
use Rattle.writer.specs.Parts.{SheetRoom}

-- the sheet by its two parts: the line of n, and those of the map and the coefficients
pub two_parts : (code : Code) → lines 4 (code.n ∷ []) ++ lines 4 (code.map ++ code.coefs) ≡ sheet_of code
unfolding sheet_of
two_parts code = sym (lines_append 4 (code.n ∷ []) (code.map ++ code.coefs))

-- a code has at most 256 map bytes, and at most 1,024 coefficients
pub few_places : (code : Code) → IsCode code → length code.map ≤ 256
few_places code c =
    let long = c.map_long in
    let size = pow_mono {i = code.n} {j = 8} c.layers.most in
    omega arith

pub few_kernels : (code : Code) → IsCode code → length code.coefs ≤ 1024
few_kernels code c =
    let few = c.layers.most in
    let long = c.coefs_long in
    let size = pow_mono {i = code.n} {j = 8} few in
    let count = mul-le-mul_right (2 ^ code.n / 2) few in
    omega arith

module _ (code : Code) (out : List ℕ) where
  -- no row has the number 0
  rows_numbered : Numbered (sheet_write_table code out)
  rows_numbered = numbered (sheet_write_table code out) tt

  -- accepted exactly when no row fits: it is a code, and the output has just the length of its sheet
  pub accepted : sheet_write_refusal code out ≡ 0 → SheetRoom code out
  unfolding sheet_write_refusal
  accepted e =
      let sizes = accepted_none (sheet_write_table code out) rows_numbered e in
      let rooms = sizes.1.1.1 in
      let bytes = rooms.1 in
      record {
        is_code = rows_code code (sizes.0, (sizes.1.0, (sizes.1.1.0, tt)))
            (bytes.0, (bytes.1.0, (bytes.1.1.0, tt)));
        out_long = false_equal (length out) (sheet_length (2 ^ code.n) (code.n * (2 ^ code.n / 2))) rooms.0;
      }

  -- and the other way round
  pub accepts : SheetRoom code out → sheet_write_refusal code out ≡ 0
  unfolding sheet_write_refusal
  accepts room =
      let sizes = sizes_of_code code room.is_code in
      let bytes = code_bytes code room.is_code in
      let long = sheet_length (2 ^ code.n) (code.n * (2 ^ code.n / 2)) in
      none_accepted (sheet_write_table code out)
      (sizes.0, (sizes.1.0, (sizes.1.1.0, (equal_false (length out) long room.out_long, bytes))))

  -- what a call that was refused leaves, and one that was accepted
  pub sheet_refused : {r : ℕ} → r ≡ sheet_write_refusal code out → (r ≡ 0 → ⊥) → SheetWritten code out out r
  unfolding sheet_buffer
  sheet_refused e h = record { answer = e; bytes_are = sym (when_refused _ (sheet_of code) out (λ z. h (e ∙ z))) }

  pub sheet_accepted : {after : List ℕ} → sheet_write_refusal code out ≡ 0 → after ≡ sheet_of code
      → SheetWritten code out after 0
  unfolding sheet_buffer
  sheet_accepted e is = record { answer = sym e; bytes_are = is ∙ sym (when_accepted _ (sheet_of code) out e) }

  -- what an accepted call wrote
  pub sheet_left : {after : List ℕ} {r : ℕ} → SheetWritten code out after r → sheet_write_refusal code out ≡ 0
      → after ≡ sheet_of code
  unfolding sheet_buffer
  sheet_left done e = done.bytes_are ∙ when_accepted _ (sheet_of code) out e
