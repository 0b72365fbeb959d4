-- What the decoder leaves makes the listing.
use Rattle.std.proofs.Common.{◌∙◌}
use Rattle.program_listing.proofs.ListingLaws.{listing_made}
use Rattle.program_listing.proofs.decoding.list_decoded.Goals as goal

pub returns : goal.returns
returns c =
    c.write_listing.ensures ∙ listing_made _ _ _ _ c.requires c.decode.ensures c.decode.auto.lent.1.0 _ c.unwrap_or-count.ensures
