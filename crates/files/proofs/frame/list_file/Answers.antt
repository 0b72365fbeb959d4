-- A frame that was read is not refused.
use Rattle.std.proofs.Common.{sym, ap, ◌∙◌}
use Rattle.refusal.specs.Kinds.{number}
use Rattle.refusal.proofs.KindLaws.{number_nonzero}
use Rattle.files.proofs.PrintedLaws.{not_refused}
use Rattle.files.proofs.frame.list_file.Goals as goal

pub returns-in-Err : goal.returns-in-Err
returns-in-Err g c =
    let given = c.requires in
    let long = c.read_frame-verdict.auto.frame ∙ given.frame_long in
    absurd (number_nonzero c.in-Err.refusal
    (sym (ap number c.in-Err.is) ∙ c.decode_listing.ensures.answer
    ∙ not_refused (record { is_code = given.is_code; frame_long = long; output_long = given.output_long })
    (c.read_frame-verdict.ensures.penalties c.if-verdict-ne0.false)))
