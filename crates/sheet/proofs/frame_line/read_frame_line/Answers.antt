-- Past the table the line is of the right form, and there is room for its numbers.
use Rattle.std.proofs.Common.{sym}
use borrow.Author.Tests.{not-false}
use Rattle.refusal.proofs.Laws.{accepted_none}
use Rattle.refusal.proofs.Within.{false_equal}
use Rattle.sheet.specs.FrameLine.{line_table, line_refusal}
use Rattle.sheet.proofs.LineLaws.{line_numbered}
use Rattle.sheet.proofs.frame_line.read_frame_line.Goals as goal

pub write_llrs-requires : goal.write_llrs-requires
unfolding line_refusal
write_llrs-requires c =
    let none = accepted_none (line_table c.args.line.now c.args.llrs.now) (line_numbered c.args.line.now c.args.llrs.now) (sym c.in_ok-check.ensures) in
    record { of_line_form = not-false _ none.1.0; long = false_equal _ 64 none.0 }
