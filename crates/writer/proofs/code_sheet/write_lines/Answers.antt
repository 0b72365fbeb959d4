-- No line, one more, and all of them.
use Rattle.std.proofs.Common.{◌*◌, sym, ◌∙◌}
use native.Mathlib.Nat.{le_of_eq}
use lib.ListN.{length}
use lib.Seq.{take_all}
use Rattle.vector.proofs.JoinedLaws.{part_long, put_none, put_room, put_more, put_all}
use Rattle.columns.proofs.LinesLaws.{lines_joined}
use Rattle.writer.proofs.code_sheet.write_lines.Goals as goal

pub loop-i-init : goal.loop-i-init
loop-i-init c = put_none (le_of_eq (sym c.requires.out_long))

pub write_line-requires : goal.write_line-requires
write_line-requires c = part_long (5 * c.loop-i.i) 5 c.loop-i.out (put_room c.loop-i.invariant c.loop-i-test.true)

pub loop-i-preserved : goal.loop-i-preserved
loop-i-preserved c = put_more c.loop-i.invariant c.loop-i-test.true c.write_line.new.out c.write_line.auto.out c.write_line.ensures

pub returns : goal.returns
returns c =
    let numbers = c.args.numbers.now in
    let put = c.loop-i.invariant in
    sym (take_all (5 * length numbers) c.loop-i.out (le_of_eq (put.long ∙ c.requires.out_long))) ∙ put_all put c.loop-i-test.false
    ∙ sym (lines_joined 4 numbers)
