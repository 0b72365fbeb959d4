-- Past the table the part is given what it asks for.
use Rattle.std.proofs.Common.{sym}
use Rattle.writer.proofs.LineLaws.{accepted}
use Rattle.writer.proofs.frame_line.write_frame_line.Goals as goal

pub write_llrs-requires : goal.write_llrs-requires
write_llrs-requires c = accepted _ _ (sym c.in_ok-check.ensures)
