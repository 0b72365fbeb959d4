-- Past the two lengths the penalties decide, of as many vectors as they have.
use Rattle.std.proofs.Common.{◌≡◌, length, rules, sym, ◌∙◌}
use Rattle.refusal.proofs.Laws.{row_passed}
use Rattle.refusal.proofs.Within.{equal_false}
use Rattle.writer.proofs.LineLaws.{line_tried}
use Rattle.writer.proofs.frame_line.check.Goals as goal

pub returns : goal.returns
returns c =
    let values : length c.args.llrs.now ≡ 64 = search rules in
    let room : length c.args.out.now ≡ 257 = search rules in
    line_tried _ _ (c.check_frame.ensures ∙ sym (row_passed 2 _ (equal_false _ 64 values) ∙ row_passed 2 _ (equal_false _ 257 room)))
