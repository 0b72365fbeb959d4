-- Which numbers the parts of the program can print.
use mathlib.Core.Path.{◌≡◌, sym, ◌∙◌, subst}
use mathlib.Core.List.{List, [], ◌∷◌}
use Prim.Native.Nat.{ℕ, ◌+◌, ◌*◌, ◌/◌, ◌%◌, ◌≤◌, ◌<◌}
use native.Mathlib.Omega.{arith}
use native.Mathlib.Nat.{le_of_eq}
use lib.ListN.{length, get_or}
use Rattle.vector.specs.Frame.{IsFrame}
use Rattle.vector.proofs.SliceLaws.{vector_entry}
use Rattle.std.proofs.Common.{Result}
use Rattle.refusal.specs.Table.{OneOf}
use Rattle.refusal.specs.Kinds.{returned}
use Rattle.refusal.specs.declared.kinds.Refusal.{Refusal}
use Rattle.refusal.proofs.Among.{wider}
use Rattle.polar_code.specs.Code.{Code}
use Rattle.program_listing.specs.Listing.{listing_refusal}
use Rattle.program_listing.proofs.ListingLaws.{accepts}
use Rattle.sheet.specs.CodeSheet.{SheetRead}
use Rattle.sheet.proofs.SheetLaws.{sheet_numbered, number_read}
use Rattle.files.specs.Printed.{Printed, FrameNumber, Penalties}
use Rattle.files.specs.Parts.{Given}

-- a frame's numbers
pub frame_printed : (r : ℕ) → FrameNumber r → Printed r
frame_printed r o =
    wider r (0 ∷ 12 ∷ 8 ∷ 9 ∷ []) (0 ∷ 1 ∷ 4 ∷ 5 ∷ 6 ∷ 8 ∷ 9 ∷ 12 ∷ []) tt o

-- a frame that was accepted is one of penalties at Qc = 5
is_frame : (frame : List ℕ) → Penalties frame → length frame % 64 ≡ 0 → IsFrame 5 frame
is_frame frame p whole = record {
  small = λ j l.
      let v : j / 64 < length frame / 64 = omega arith in
      let b : j % 64 < 64 = omega arith in
      let at : 64 * (j / 64) + j % 64 ≡ j = omega arith in
      subst (λ (k : ℕ). get_or frame k 0 ≤ 31) at (subst (λ (x : ℕ). x ≤ 31) (vector_entry frame (j / 64) (j % 64) b) ((p (j / 64) v).0 (j % 64) b));
  zeros = λ i l. (p i l).1;
}

-- so it is not refused, with a code and a buffer for its listing
pub not_refused : {code : Code} {frame output : List ℕ} → Given code frame output → Penalties frame
    → listing_refusal code frame output ≡ 0
not_refused {code} {frame} {output} g p =
    let long = g.frame_long in
    accepts code frame output (record {
      is_code = g.is_code;
      frame_long = long;
      output_long = g.output_long;
      is_frame = is_frame frame p (omega arith);
    })

-- the sheet reader's, with buffers that have room for every code
pub sheet_printed : {bytes map coefs m c : List ℕ} {a : Result ℕ Refusal} → SheetRead bytes map coefs m c a → 256 ≡ length map
    → 1024 ≡ length coefs → (r : ℕ) → r ≡ (returned a).number → Printed r
sheet_printed {bytes} {map} {coefs} read room space r e =
    wider r (0 ∷ 1 ∷ 4 ∷ 5 ∷ 6 ∷ 12 ∷ []) (0 ∷ 1 ∷ 4 ∷ 5 ∷ 6 ∷ 8 ∷ 9 ∷ 12 ∷ []) tt
    (subst (λ (k : ℕ). OneOf k (0 ∷ 1 ∷ 4 ∷ 5 ∷ 6 ∷ 12 ∷ [])) (sym (e ∙ number_read read)) (sheet_numbered bytes map coefs (le_of_eq room) (le_of_eq space)))
