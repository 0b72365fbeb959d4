-- What `round_trip` promises.
use Rattle.std.specs.Prelude.{ℕ, ◌*◌, ◌^◌, ◌≡◌, cond, List, [], ◌∷◌, eqb, ℤ, replicate, Result}
use Rattle.std.specs.Borrow.{MutBor}
use Rattle.polar.specs.Encode.{word_before}
use Rattle.polar.specs.Message.{message_of}
use Rattle.scms.specs.Mode.{Mode, mode_of}
use Rattle.scms.specs.Decoder as scms
use Rattle.refusal.specs.Kinds.{returned}
use Rattle.refusal.specs.declared.kinds.Refusal.{Refusal}
use Rattle.refusal.specs.Returned.{Returned}
use Rattle.decoder.specs.Decode.{Decoded}
use Rattle.link.specs.Noiseless.{Transmission, Reception}
use Rattle.link.specs.Noiseless.{message_samples, message_frame, message_symbols, NoiselessPremise}
use Rattle.loopback.specs.Refusals.{TripLent, trip_lent_of, trip_refusal}

-- the buffers lent to `round_trip` when it returns, in their order
abbrev Exit : Type 0
Exit =
    MutBor (List ℤ) × (MutBor (List ℕ) × (MutBor (List ℕ) × (MutBor (List ℕ)
    × (MutBor (List ℕ) × (MutBor (List ℕ) × (MutBor (List ℕ) × Unit {0}))))))

-- what they hold
abbrev pub trip_after : Exit → TripLent
trip_after l =
    trip_lent_of l.0.now l.1.0.now l.1.1.0.now l.1.1.1.0.now l.1.1.1.1.0.now l.1.1.1.1.1.0.now l.1.1.1.1.1.1.0.now

module _ (s : Transmission) (r : Reception) (lent : TripLent) where
  -- the number of the refusal, 0 where the call is accepted
  abbrev refusal : ℕ
  refusal = trip_refusal s r lent

  -- the call is accepted: no row of the table fits
  abbrev pub Accepted : Type 0
  Accepted = refusal ≡ 0

  -- what the decoder's nodes go by: the cap, 2^Qm − 1, and how many values a check node tries
  abbrev mode : Mode
  mode = mode_of r.settings.qm r.settings.candidates

  -- what is made where the call is accepted, or on a refusal what is kept
  abbrev either : {A : Type 0} → A → A → A
  either made kept = cond (eqb refusal 0) made kept

  -- the answer: the refusal, a number of document 01's table, 13 or 19, or the decoder's count of clipped entries
  unfoldable pub trip_answer : Returned
  trip_answer = record { number = refusal; values = either (scms.count s.code mode (message_frame s r) ∷ []) [] }

  -- the buffer for the samples: those sent for the message without noise
  unfoldable pub trip_samples : List ℤ
  trip_samples = either (message_samples s) lent.samples

  -- the buffer for the frame: the penalties weighed from the samples sent
  unfoldable pub trip_frame : List ℕ
  trip_frame = either (message_frame s r) lent.frame

  -- the work buffer: all zeros
  unfoldable pub trip_work : List ℕ
  trip_work = either (replicate (65 * 2 ^ s.code.n) 0) lent.decoder.work

  -- the buffer for the symbols: those decided
  unfoldable pub trip_symbols : List ℕ
  trip_symbols = either (message_symbols s r) lent.decoder.symbols

  -- the buffer for the report: for each place, the 64 penalties held when it was decided
  unfoldable pub trip_report : List ℕ
  trip_report = either (scms.report s.code mode (message_frame s r)) lent.decoder.report

  -- the buffer for the totals: for each place, what was taken off along its line
  unfoldable pub trip_totals : List ℕ
  trip_totals = either (scms.totals s.code mode (message_frame s r)) lent.decoder.totals

  -- the buffer for the decoded message: the symbols decided at the message places, in rising order
  unfoldable pub trip_decoded : List ℕ
  trip_decoded = either (message_of s.code.map (message_symbols s r)) lent.decoded

  -- The promise, for every input. First the answer and the lent buffers at exit; the map, the coefficients and the
  -- message are lent to be read only. Then, where the call is accepted: answer, symbols, report, totals and work buffer
  -- are those of one call of `decode` on the frame at exit, with all that it promises of them; and, where the premise
  -- of the noiseless statement holds, the symbols are the word before the transform and the decoded message is the
  -- message
  pub record RoundTrip (after : TripLent) (a : Result ℕ Refusal) : Type 0 where
    pub answer : returned a ≡ trip_answer
    pub samples_are : after.samples ≡ trip_samples
    pub frame_is : after.frame ≡ trip_frame
    pub work_is : after.decoder.work ≡ trip_work
    pub symbols_are : after.decoder.symbols ≡ trip_symbols
    pub report_is : after.decoder.report ≡ trip_report
    pub totals_are : after.decoder.totals ≡ trip_totals
    pub decoded_is : after.decoded ≡ trip_decoded
    pub decoder : Accepted → Decoded s.code r.settings after.frame lent.decoder after.decoder a
    pub word_back : Accepted → NoiselessPremise s r → after.decoder.symbols ≡ word_before s.code.map s.message
    pub message_back : Accepted → NoiselessPremise s r → after.decoded ≡ s.message
