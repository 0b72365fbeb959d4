-- The lines of the first slice, and after them those of the second.
use Rattle.std.proofs.Common.{◌≡◌, ℕ, ◌*◌, ◌≤◌, List, ◌++◌, sym, ap, ap₂, ◌∙◌}
use native.Mathlib.Omega.{arith}
use lib.ListN.{length, take, length-drop}
use lib.Seq.{length-take-le}
use Rattle.vector.proofs.LentParts.{lent_tail, lent_both}
use Rattle.columns.proofs.LinesLaws.{lines_append}
use Rattle.writer.specs.Parts.{BothRoom}
use Rattle.writer.proofs.code_sheet.write_both.Goals as goal

module _ {first second out : List ℕ} (room : BothRoom first second out) where
  -- the buffer has room for the lines of the first slice
  fits : 5 * length first ≤ length out
  fits = let long = room.out_long in omega arith

  -- which is how long the first part is
  first_part : length (take (5 * length first) out) ≡ 5 * length first
  first_part = length-take-le (5 * length first) out fits

pub slice_bounds-write_lines-end-2 : goal.slice_bounds-write_lines-end-2
slice_bounds-write_lines-end-2 c = sym (first_part c.requires)

pub write_lines-requires : goal.write_lines-requires
write_lines-requires c = record { few = c.requires.few_first; out_long = first_part c.requires }

pub write_lines-requires-2 : goal.write_lines-requires-2
write_lines-requires-2 c =
    let out = c.args.out.now in
    let at = 5 * length c.args.first.now in
    let long = c.requires.out_long in
    let rest = lent_tail at out c.write_lines.new.out c.write_lines.auto.out (fits c.requires) in
    record { few = c.requires.few_second; out_long = ap length rest ∙ length-drop at out ∙ omega arith }

pub returns : goal.returns
returns c =
    lent_both (5 * length c.args.first.now) c.args.out.now c.write_lines.new.out c.write_lines.auto.out (fits c.requires) c.write_lines-2.new.out
    ∙ ap₂ (λ (xs ys : List ℕ). xs ++ ys) c.write_lines.ensures c.write_lines-2.ensures
    ∙ sym (lines_append 4 c.args.first.now c.args.second.now)
