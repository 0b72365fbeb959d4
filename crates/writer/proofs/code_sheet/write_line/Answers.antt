-- The number in four columns, and a line feed after them.
use Rattle.std.proofs.Common.{◌≡◌, ℕ, List, ◌++◌, sym, ap, ◌∙◌}
use native.Mathlib.Omega.{arith}
use lib.ListN.{length, take, drop}
use lib.Seq.{length-take-le, length_front, take_at}
use Rattle.columns.specs.Columns.{field}
use Rattle.columns.proofs.ColumnLaws.{length_field}
use Rattle.columns.proofs.LinesLaws.{feed_put, one_number}
use Rattle.writer.proofs.code_sheet.write_line.Goals as goal

-- the first four bytes of five
four : (out : List ℕ) → length out ≡ 5 → length (take 4 out) ≡ 4
four out long = length-take-le 4 out (omega arith)

pub slice_bounds-write_number-end-2 : goal.slice_bounds-write_number-end-2
slice_bounds-write_number-end-2 c = sym (four c.args.out.now c.requires)

pub returns : goal.returns
returns c =
    let out = c.args.out.now in
    let v = c.args.v in
    let columns = c.write_number.new.out in
    let is = c.write_number.ensures ∙ ap (λ (k : ℕ). field k c.from.result) (four out c.requires) ∙ ap (field 4) c.from.ensures in
    let size = ap length is ∙ length_field 4 v in
    feed_put 4 (columns ++ drop 4 out) (field 4 v)
    (length_front out columns 4 (size ∙ sym (four out c.requires)) ∙ c.requires)
    (take_at columns (drop 4 out) 4 size ∙ is)
    ∙ sym (one_number 4 v)
