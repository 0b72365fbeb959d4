-- Past the table the part is given what it asks for.
use Rattle.std.proofs.Common.{sym}
use Rattle.demapper.proofs.DemapLaws.{accepted, symbols}
use Rattle.demapper.proofs.demapper.demap.Goals as goal

pub write_llrs-requires : goal.write_llrs-requires
write_llrs-requires c = symbols _ _ _ _ _ _ (accepted _ _ _ _ _ _ (sym c.in_ok-check.ensures))
