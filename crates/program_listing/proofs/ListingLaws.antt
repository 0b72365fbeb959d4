-- What it means that `decode_listing` accepts its input, and that what the decoder then leaves makes the listing.
use Rattle.std.proofs.Common.{Result, Ok, Err, refl}
use Rattle.std.specs.Result.{result_unwrap_or}
use mathlib.Core.Path.{◌≡◌, ap, ap₂, ◌∙◌}
use mathlib.Core.List.{List, ◌++◌}
use Prim.Native.Nat.{ℕ, ◌*◌, ◌/◌, ◌^◌, ◌<◌}
use native.Mathlib.Nat.{le_refl}
use lib.Dec.{lit≤}
use lib.ListN.{length, get_or}
use Rattle.refusal.specs.Returned.{Returned}
use Rattle.refusal.specs.Table.{Numbered}
use Rattle.refusal.proofs.Laws.{accepted_none, none_accepted}
use Rattle.refusal.proofs.Laws.{numbered}
use Rattle.refusal.proofs.Within.{false_equal, equal_false}
use Rattle.vector.specs.Vector.{vector_at, joined}
use Rattle.vector.proofs.Laws.{joined_ext}
use Rattle.polar_code.specs.Code.{Code}
use Rattle.polar_code.proofs.CodeLaws.{rows_code, sizes_of_code, code_bytes}
use Rattle.decoder_refusal.specs.Refusals.{Lent, settings_of, decode_refusal}
use Rattle.decoder_refusal.proofs.RefusalLaws.{frame_of_rows, small_frame, zeros_frame}
use Rattle.decoder_refusal.proofs.RefusalLaws.{accepts as decoder-accepts}
use Rattle.refusal.specs.declared.kinds.Refusal.{Refusal}
use Rattle.refusal.specs.Kinds.{returned}
use Rattle.decoder.specs.Decode.{Decoded}
use Rattle.listing.specs.Listing.{place_line, number_line}
use Rattle.program_listing.specs.Listing.{listing_length, line_at, program_listing, listing_table, listing_refusal, Listable}
use Rattle.program_listing.specs.Parts.{listing_of, Decoding}

-- the count that the decoder answers, or 0 for a refusal
count_or_none : (a : Result ℕ Refusal) → result_unwrap_or a 0 ≡ get_or (returned a).values 0 0
count_or_none (Ok count) = refl
count_or_none (Err refusal) = refl

module _ (code : Code) (frame output : List ℕ) where
  -- no row has the number 0
  rows_numbered : Numbered (listing_table code frame output)
  rows_numbered = numbered (listing_table code frame output) tt

  -- accepted exactly when no row fits
  pub accepted : listing_refusal code frame output ≡ 0 → Listable code frame output
  unfolding listing_refusal
  accepted e =
      let sizes = accepted_none (listing_table code frame output) rows_numbered e in
      let rooms = sizes.1.1.1 in
      let bytes = rooms.1.1 in
      let penalties = bytes.1.1.1 in
      record {
        is_code = rows_code code (sizes.0, (sizes.1.0, (sizes.1.1.0, tt))) (bytes.0, (bytes.1.0, (bytes.1.1.0, tt)));
        frame_long = false_equal (length frame) (64 * 2 ^ code.n) rooms.0;
        output_long = false_equal (length output) (listing_length (2 ^ code.n)) rooms.1.0;
        is_frame = frame_of_rows 5 (length frame / 64) frame (le_refl (length frame / 64)) penalties.0 penalties.1.0;
      }

  -- and the other way round
  pub accepts : Listable code frame output → listing_refusal code frame output ≡ 0
  unfolding listing_refusal
  accepts t =
      let sizes = sizes_of_code code t.is_code in
      let bytes = code_bytes code t.is_code in
      let frame_room = equal_false (length frame) (64 * 2 ^ code.n) t.frame_long in
      let output_room = equal_false (length output) (listing_length (2 ^ code.n)) t.output_long in
      let small = small_frame 5 frame t.is_frame in
      let zeros = zeros_frame 5 frame t.is_frame (length frame / 64) (le_refl (length frame / 64)) in
      none_accepted (listing_table code frame output)
      (sizes.0, (sizes.1.0, (sizes.1.1.0, (frame_room, (output_room, (bytes.0, (bytes.1.0, (bytes.1.1.0, (small, (zeros, tt))))))))))

  module _ (lent : Lent) (given : Decoding code frame output lent) where
    -- the decoder does not refuse such an input
    decodes : decode_refusal code (settings_of 5 13 64) frame lent ≡ 0
    decodes =
        let listable = given.listable in
        decoder-accepts code (settings_of 5 13 64) frame lent
        (record {
          is_code = listable.is_code;
          frame_long = listable.frame_long;
          buffers = given.buffers;
          channel_precision = record { least = lit≤ tt; most = lit≤ tt };
          internal_precision = record { least = lit≤ tt; most = lit≤ tt };
          candidates_fit = record { least = lit≤ tt; most = lit≤ tt };
          is_frame = listable.is_frame;
        })

    -- what it leaves makes the listing
    pub listing_made : {after : Lent} {a : Result ℕ Refusal} → Decoded code (settings_of 5 13 64) frame lent after a
        → length after.symbols ≡ length lent.symbols
        → (count : ℕ) → count ≡ result_unwrap_or a 0
        → listing_of after.symbols after.report count ≡ program_listing code frame
    unfolding listing_of program_listing
    listing_made {after} {a} done kept count e =
        let line : ℕ → List ℕ = λ i. place_line i (get_or after.symbols i 0) (vector_at after.report i) in
        let same : (i : ℕ) → i < 2 ^ code.n → line i ≡ line_at code frame i = λ i l.
        ap₂ (λ (s : ℕ) (v : List ℕ). place_line i s v) (ap (λ (xs : List ℕ). get_or xs i 0) (done.decided decodes)) (done.reported decodes i l) in
        ap₂ (λ (xs ys : List ℕ). xs ++ ys)
        (ap (λ (k : ℕ). joined k line) (kept ∙ given.buffers.symbols_long) ∙ joined_ext (2 ^ code.n) line (line_at code frame) same)
        (ap number_line (e ∙ count_or_none a ∙ ap (λ (x : Returned). get_or x.values 0 0) (done.counted decodes)))
