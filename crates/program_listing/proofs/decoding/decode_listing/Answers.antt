-- What no row of the table fits is listed.
use Rattle.std.proofs.Common.{sym}
use Rattle.program_listing.proofs.ListingLaws.{accepted}
use Rattle.program_listing.proofs.decoding.decode_listing.Goals as goal

pub list_frame-requires : goal.list_frame-requires
list_frame-requires c = accepted _ _ _ (sym c.in_ok-check.ensures)
