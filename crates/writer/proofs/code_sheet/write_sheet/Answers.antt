-- Past the table the part is given what it asks for.
use Rattle.std.proofs.Common.{sym}
use Rattle.writer.proofs.SheetLaws.{accepted}
use Rattle.writer.proofs.code_sheet.write_sheet.Goals as goal

pub write_code-requires : goal.write_code-requires
write_code-requires c = accepted _ _ (sym c.in_ok-check.ensures)
