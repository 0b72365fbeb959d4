-- By which number a call of `round_trip` is refused: the rows of document 01's table 'Refused' that it has the input
-- for, and two more.
use Rattle.std.specs.Prelude.{ℕ, ◌*◌, ◌^◌, ◌≡◌, List, [], ◌∷◌, ◌++◌, ℤ, length}
use Rattle.refusal.specs.Table.{Row, refusal_of}
use Rattle.refusal.specs.Tests.{outside}
use Rattle.refusal.specs.Rows.{length_row, symbols_row}
use Rattle.polar_code.specs.Code.{message_places, code_sizes}
use Rattle.ccsk.specs.Chips.{base_row}
use Rattle.demapper.specs.Demap.{gain_row}
use Rattle.decoder_refusal.specs.Refusals.{Lent, lent_of, code_rows, buffer_rows, BuffersFit}
use Rattle.loopback.specs.declared.given.TripLent as lent
use Rattle.loopback.specs.declared.given.Reception as given
use Rattle.link.specs.Noiseless.{Transmission, Reception, ChainInput}

-- 19: the amplitude is outside 1 to 127. Document 01 has no number for it; this one is document 02's (request 14) for
-- the same fault, after all others
abbrev pub amplitude_row : ℕ → Row
amplitude_row amplitude = (19, outside 1 127 amplitude)

-- the buffers that a caller of `round_trip` lends to be written: those of the decoder, and beside them those for the
-- samples, the frame and the decoded message
pub record TripLent : Type 0 where
  pub samples : List ℤ
  pub frame : List ℕ
  pub decoder : Lent
  pub decoded : List ℕ

-- those buffers
abbrev pub trip_lent_of : (samples : List ℤ) (frame work symbols report totals decoded : List ℕ) → TripLent
trip_lent_of samples frame work symbols report totals decoded =
    record { samples = samples; frame = frame; decoder = lent_of work symbols report totals; decoded = decoded }

-- what those buffers hold (src/given.rt)
abbrev pub trip_now : lent.TripLent → TripLent
trip_now l = trip_lent_of l.samples.now l.frame.now l.work.now l.symbols.now l.report.now l.totals.now l.decoded.now

-- how the message is received (src/given.rt)
abbrev pub received : given.Reception → Reception
received r = record { top = r.gain.top; bottom = r.gain.bottom; settings = r.settings }

-- the rows on the lengths of the message and of the buffers, for this many places
abbrev pub trip_rows : (places : ℕ) → Transmission → TripLent → List Row
trip_rows places s lent =
    length_row (length s.message) (message_places s.code.map)
    ∷ length_row (length lent.samples) (64 * places)
    ∷ buffer_rows places lent.frame lent.decoder
    ++ length_row (length lent.decoded) (message_places s.code.map)
    ∷ []

-- the rows on n and the lengths
abbrev pub size_table : Transmission → TripLent → List Row
size_table s lent = code_sizes s.code ++ trip_rows (2 ^ s.code.n) s lent

-- the rows on the message, the base, the gain and the amplitude
abbrev pub sent_rows : Transmission → (top bottom : ℕ) → List Row
sent_rows s top bottom =
    symbols_row s.message
    ∷ base_row s.base
    ∷ gain_row top
    ∷ gain_row bottom
    ∷ amplitude_row s.amplitude
    ∷ []

-- the rows on the settings and the code's bytes, and then those
abbrev pub content_table : Transmission → Reception → List Row
content_table s r = code_rows s.code.map s.code.coefs r.settings ++ sent_rows s r.top r.bottom

module _ (s : Transmission) (r : Reception) (lent : TripLent) where
  -- all rows
  abbrev pub trip_table : List Row
  trip_table = size_table s lent ++ content_table s r

  -- the number of the refusal, 0 where the call is accepted
  unfoldable pub trip_refusal : ℕ
  trip_refusal = refusal_of trip_table

  -- an input that no row of that table fits
  pub record TripInput : Type 0 where
    pub chain : ChainInput s r
    pub samples_long : length lent.samples ≡ 64 * 2 ^ s.code.n
    pub frame_long : length lent.frame ≡ 64 * 2 ^ s.code.n
    pub buffers : BuffersFit (2 ^ s.code.n) lent.decoder
    pub decoded_long : length lent.decoded ≡ message_places s.code.map
