-- The laws of the refusals of `round_trip`: the two parts of its table, and what it means that a call is accepted.
use mathlib.Core.Path.{◌≡◌}
use mathlib.Core.List.{List}
use Prim.Native.Nat.{ℕ, ◌*◌, ◌^◌}
use borrow.Author.Tests.{ne_eqb, eqb-false}
use lib.ListN.{length, drop}
use Rattle.refusal.specs.Table.{Row, refusal_of, NoneFits, Numbered}
use Rattle.refusal.proofs.Laws.{first_refused, first_accepted, both_accepted, accepted_both}
use Rattle.refusal.proofs.Laws.{numbered}
use Rattle.refusal.proofs.Within.{inside_within, within_inside, none_within, within_none, false_equal, equal_false}
use Rattle.polar_code.specs.Code.{message_places}
use Rattle.polar_code.proofs.CodeLaws.{rows_code, sizes_of_code, code_bytes}
use Rattle.ccsk.specs.Chips.{turned}
use Rattle.decoder_refusal.proofs.RefusalLaws.{rows_buffers, buffers_rows}
use Rattle.link.specs.Noiseless.{Transmission, Reception}
use Rattle.loopback.specs.Refusals.{TripLent, size_table, content_table, trip_refusal, TripInput}

module _ (s : Transmission) (r : Reception) (lent : TripLent) where
  -- the first part of the table
  abbrev sizes : List Row
  sizes = size_table s lent

  -- and the second
  abbrev contents : List Row
  contents = content_table s r

  -- no row of the first part has the number 0
  sizes_numbered : Numbered sizes
  sizes_numbered = numbered sizes tt

  -- nor one of the second
  contents_numbered : Numbered contents
  contents_numbered = numbered contents tt

  -- the sizes are refused
  pub size_refused : (k : ℕ) → k ≡ refusal_of sizes → (k ≡ 0 → ⊥) → k ≡ trip_refusal s r lent
  unfolding trip_refusal
  size_refused k e h = first_refused sizes contents e h

  -- they are accepted: the rest decides
  pub size_accepted : (k : ℕ) → refusal_of sizes ≡ 0 → k ≡ refusal_of contents → k ≡ trip_refusal s r lent
  unfolding trip_refusal
  size_accepted k e f = first_accepted sizes contents sizes_numbered e f

  -- N
  abbrev size : ℕ
  size = 2 ^ s.code.n

  -- K
  abbrev places : ℕ
  places = message_places s.code.map

  -- accepted: what the rows test holds
  pub accepted : trip_refusal s r lent ≡ 0 → TripInput s r lent
  unfolding trip_refusal
  accepted e =
      let parts = accepted_both sizes contents sizes_numbered contents_numbered e in
      let lengths = parts.0 in
      let rooms = lengths.1.1.1 in
      let decoder = rooms.1.1.1 in
      let precisions = parts.1 in
      let bytes = precisions.1.1.1 in
      let sent = bytes.1.1.1 in
      record {
        chain = record {
          sendable = record {
            is_code = rows_code s.code (lengths.0, (lengths.1.0, (lengths.1.1.0, tt))) (bytes.0, (bytes.1.0, (bytes.1.1.0, tt)));
            message_long = false_equal (length s.message) places rooms.0;
            message_symbols = none_within 0 63 0 s.message sent.0;
            base_turns = eqb-false (turned s.base 32) s.base sent.1.0;
            amplitude_fits = inside_within 1 127 s.amplitude sent.1.1.1.1.0;
          };
          gain_top = inside_within 1 255 r.top sent.1.1.0;
          gain_bottom = inside_within 1 255 r.bottom sent.1.1.1.0;
          channel_precision = inside_within 1 5 r.settings.qc precisions.0;
          internal_precision = inside_within r.settings.qc 13 r.settings.qm precisions.1.0;
          candidates_fit = inside_within 1 64 r.settings.candidates precisions.1.1.0;
        };
        samples_long = false_equal (length lent.samples) (64 * size) rooms.1.0;
        frame_long = false_equal (length lent.frame) (64 * size) rooms.1.1.0;
        buffers = rows_buffers size lent.frame lent.decoder (decoder.0, (decoder.1.0, (decoder.1.1.0, (decoder.1.1.1.0, tt))));
        decoded_long = false_equal (length lent.decoded) places decoder.1.1.1.1.0;
      }

  -- and the other way round
  pub accepts : TripInput s r lent → trip_refusal s r lent ≡ 0
  unfolding trip_refusal
  accepts t =
      let c = t.chain in
      let k = c.sendable in
      let lengths = sizes_of_code s.code k.is_code in
      let message-fits = equal_false (length s.message) places k.message_long in
      let samples-room = equal_false (length lent.samples) (64 * size) t.samples_long in
      let frame_room = equal_false (length lent.frame) (64 * size) t.frame_long in
      let decoder = buffers_rows size lent.frame lent.decoder t.buffers in
      let decoded-room = equal_false (length lent.decoded) places t.decoded_long in
      let buffers : NoneFits (drop 4 sizes)
      = (samples-room, (frame_room, (decoder.0, (decoder.1.0, (decoder.1.1.0, (decoder.1.1.1.0, (decoded-room, tt))))))) in
      let qc-fits = within_inside 1 5 r.settings.qc c.channel_precision in
      let qm-fits = within_inside r.settings.qc 13 r.settings.qm c.internal_precision in
      let number_fits = within_inside 1 64 r.settings.candidates c.candidates_fit in
      let bytes = code_bytes s.code k.is_code in
      let small = within_none 0 63 0 s.message k.message_symbols in
      let turns = ne_eqb (turned s.base 32) s.base k.base_turns in
      let top-fits = within_inside 1 255 r.top c.gain_top in
      let bottom-fits = within_inside 1 255 r.bottom c.gain_bottom in
      let amplitude_fits = within_inside 1 127 s.amplitude k.amplitude_fits in
      let sent : NoneFits (drop 6 contents) = (small, (turns, (top-fits, (bottom-fits, (amplitude_fits, tt))))) in
      both_accepted sizes contents (lengths.0, (lengths.1.0, (lengths.1.1.0, (message-fits, buffers))))
      (qc-fits, (qm-fits, (number_fits, (bytes.0, (bytes.1.0, (bytes.1.1.0, sent))))))
