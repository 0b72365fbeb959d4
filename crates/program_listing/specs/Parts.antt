-- What the functions inside this crate are given, and what they leave. No public call asks any of this.
use Rattle.std.specs.Prelude.{ℕ, ◌*◌, ◌^◌, ◌≤◌, ◌≡◌, List, ◌++◌, length, get_or}
use Rattle.vector.specs.Vector.{vector_at, joined}
use Rattle.polar_code.specs.Code.{Code}
use Rattle.decoder_refusal.specs.Refusals.{Lent, BuffersFit}
use Rattle.listing.specs.Listing.{place_line, number_line}
use Rattle.program_listing.specs.Listing.{listing_length, Listable}

-- the listing of symbols, a report and a count
unfoldable pub listing_of : (symbols report : List ℕ) (count : ℕ) → List ℕ
listing_of symbols report count =
    joined (length symbols) (λ i. place_line i (get_or symbols i 0) (vector_at report i)) ++ number_line count

-- what `write_listing` is given: a vector of the report for each symbol, and room for just the listing
pub record Listing (symbols report output : List ℕ) : Type 0 where
  pub few : length symbols ≤ 256
  pub report_long : length report ≡ 64 * length symbols
  pub output_long : length output ≡ listing_length (length symbols)

-- what `list_decoded` is given: an input that is accepted, and the decoder's buffers of the right lengths
pub record Decoding (code : Code) (frame output : List ℕ) (lent : Lent) : Type 0 where
  pub listable : Listable code frame output
  pub buffers : BuffersFit (2 ^ code.n) lent
