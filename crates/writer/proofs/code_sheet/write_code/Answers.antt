-- The line of n, and after it the lines of the map and of the coefficients.
use Rattle.std.proofs.Common.{◌≡◌, ℕ, ◌+◌, ◌*◌, ◌≤◌, List, [], ◌∷◌, ◌++◌, sym, ap, ap₂, ◌∙◌, subst, append-nil}
use native.Mathlib.Omega.{arith}
use lib.ListN.{length, take, length-drop}
use lib.Seq.{length-take-le}
use Rattle.vector.proofs.LentParts.{lent_tail, lent_both}
use Rattle.columns.specs.Columns.{line, lines}
use Rattle.polar_code.specs.Code.{Code, code_of}
use Rattle.writer.specs.CodeSheet.{sheet_of}
use Rattle.writer.specs.Parts.{SheetRoom}
use Rattle.writer.proofs.SheetLaws.{two_parts, few_places, few_kernels}
use Rattle.writer.proofs.code_sheet.write_code.Goals as goal

module _ {code : Code} {out : List ℕ} (room : SheetRoom code out) where
  -- how long the buffer is
  out_long : length out ≡ 5 + 5 * (length code.map + length code.coefs)
  out_long =
      let long = room.out_long in
      let map_long = room.is_code.map_long in
      let coefs_long = room.is_code.coefs_long in
      omega arith

  -- it has room for the line of n
  fits : 5 ≤ length out
  fits = let long = out_long in omega arith

  -- which is how long the first part is
  first_part : length (take 5 out) ≡ 5
  first_part = length-take-le 5 out fits

-- the lines of one number are its line
one_line : (v : ℕ) → lines 4 (v ∷ []) ≡ line 4 (v ∷ [])
unfolding lines
one_line v = append-nil (line 4 (v ∷ []))

-- what is given, by the fields of the code
given : {a b : Code} {out : List ℕ} → a ≡ b → SheetRoom b out → SheetRoom a out
given {out = out} e = subst (λ (code : Code). SheetRoom code out) (sym e)

pub write_both-requires : goal.write_both-requires
write_both-requires c =
    let out = c.args.out.now in
    let room = given c.code.view_is c.requires in
    let few = few_places _ room.is_code in
    let few_coefs = few_kernels _ room.is_code in
    let long = out_long room in
    let rest = lent_tail 5 out c.write_line.new.out c.write_line.auto.out (fits room) in
    record {
      few_first = omega arith;
      few_second = omega arith;
      out_long = ap length rest ∙ length-drop 5 out ∙ omega arith;
    }

pub returns : goal.returns
returns c =
    let room = given c.code.view_is c.requires in
    lent_both 5 c.args.out.now c.write_line.new.out c.write_line.auto.out (fits room) c.write_both.new.out
    ∙ ap₂ (λ (xs ys : List ℕ). xs ++ ys) (c.write_line.ensures ∙ sym (one_line c.code.inside.n)) c.write_both.ensures
    ∙ two_parts (code_of c.code.inside.n c.code.inside.map.now c.code.inside.coefs.now) ∙ ap sheet_of c.code.view_is
