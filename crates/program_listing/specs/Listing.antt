-- What the program prints for a code and a frame, as bytes, and what `decode_listing` promises.
use Rattle.std.specs.Prelude.{ℕ, ◌+◌, ◌*◌, ◌-◌, ◌^◌, ◌≡◌, cond, List, [], ◌∷◌, ◌++◌, eqb, length, get_or}
use Rattle.refusal.specs.Table.{Row, refusal_of}
use Rattle.refusal.specs.Rows.{length_row}
use Rattle.vector.specs.Vector.{joined}
use Rattle.vector.specs.Frame.{IsFrame}
use Rattle.polar_code.specs.Code.{Code, code_sizes, code_table, IsCode}
use Rattle.scms.specs.Mode.{Mode, mode_of, all_candidates}
use Rattle.scms.specs.Decoder as scms
use Rattle.decoder_refusal.specs.Refusals.{penalty_table}
use Rattle.listing.specs.Listing.{place_line, number_line}

-- the bytes of a listing of this many places: a line of 21 bytes for each, and one of 6 with the count
abbrev pub listing_length : ℕ → ℕ
listing_length places = 21 * places + 6

module _ (code : Code) (frame : List ℕ) where
  -- the program decodes with Qm = 13 and full check nodes
  abbrev mode : Mode
  mode = mode_of 13 all_candidates

  -- the line of place i: the symbol decided there, and the penalties held for its values when it was decided
  abbrev pub line_at : ℕ → List ℕ
  line_at i = place_line i (get_or (scms.symbols code mode frame) i 0) (scms.held code mode frame i)

  -- the listing: a line for each place in rising order, and last the count of clipped entries; nothing else
  unfoldable pub program_listing : List ℕ
  program_listing = joined (2 ^ code.n) line_at ++ number_line (scms.count code mode frame)

-- the rows on n and the lengths: of the code, of the frame and of the buffer for the listing
abbrev pub listing_sizes : Code → (frame output : List ℕ) → List Row
listing_sizes code frame output =
    code_sizes code
    ++ length_row (length frame) (64 * 2 ^ code.n)
    ∷ length_row (length output) (listing_length (2 ^ code.n))
    ∷ []

module _ (code : Code) (frame output : List ℕ) where
  -- the rows of document 01's table that `decode_listing` has the input for, in its order: those, and the ones on what
  -- the slices hold; the program decodes with Qc = 5, so the largest penalty is 2^5 − 1
  abbrev pub listing_table : List Row
  listing_table = listing_sizes code frame output ++ code_table code.map code.coefs ++ penalty_table (2 ^ 5 - 1) frame

  -- the number of the refusal, 0 where the call is accepted
  unfoldable pub listing_refusal : ℕ
  listing_refusal = refusal_of listing_table

  -- an input that no row of that table fits
  pub record Listable : Type 0 where
    pub is_code : IsCode code
    pub frame_long : length frame ≡ 64 * 2 ^ code.n
    pub output_long : length output ≡ listing_length (2 ^ code.n)
    pub is_frame : IsFrame 5 frame

  -- what the lent buffer holds afterwards: the listing, or on a refusal what it held
  unfoldable pub listing_buffer : List ℕ
  listing_buffer = cond (eqb listing_refusal 0) (program_listing code frame) output

  -- the promise: the answer r and the buffer at exit, for every input
  pub record Listed (after : List ℕ) (r : ℕ) : Type 0 where
    pub answer : r ≡ listing_refusal
    pub bytes_are : after ≡ listing_buffer
