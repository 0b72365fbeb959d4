-- A line of a frame file written and then read gives the same numbers, and read and then written the same bytes; and so
-- the lines of a whole frame.
use mathlib.Core.Path.{◌≡◌, refl, sym, ap, ◌∙◌, subst}
use mathlib.Core.Bool.{true, not}
use mathlib.Core.List.{List, [], ◌∷◌}
use Prim.Native.Nat.{ℕ, ◌+◌, ◌*◌, ◌/◌, ◌%◌, ◌^◌, ◌≤◌, ◌<◌}
use native.Mathlib.Nat.{le_of_eq}
use native.Mathlib.Omega.{arith}
use borrow.Author.Tests.{not-false}
use lib.ListN.{length, get_or}
use lib.Seq.{take_all}
use Rattle.refusal.specs.Table.{NoneFits}
use Rattle.refusal.proofs.AnyTo.{none_there, each_not}
use Rattle.refusal.proofs.Laws.{row_fits, row_passed, accepted_none, none_accepted, when_refused}
use Rattle.refusal.proofs.Laws.{numbered}
use Rattle.refusal.proofs.Within.{equal_false, false_equal, some_outside, above_outside}
use Rattle.vector.specs.Vector.{vector_at, joined, AtMost, HasZero}
use Rattle.vector.specs.Frame.{IsFrame}
use Rattle.vector.proofs.Laws.{length_joined, joined_part, joined_ext}
use Rattle.vector.proofs.JoinedLaws.{joined_parts}
use Rattle.vector.proofs.SliceLaws.{vector_long, vector_entry, joined_by}
use Rattle.columns.specs.Columns.{line}
use Rattle.columns.specs.Reading.{part, numbers, is_line}
use Rattle.columns.proofs.LineLaws.{line_long, line_written, numbers_written}
use Rattle.columns.proofs.LineLaws.{line_accepted as written_accepted}
use Rattle.decoder_refusal.specs.Refusals.{llrs_row, zeros_row}
use Rattle.decoder_refusal.proofs.RefusalLaws.{frame_of_rows, small_frame, zeros_frame}
use Rattle.sheet.specs.FrameLine.{line_row, line_llrs, line_table, line_refusal, LineRead}
use Rattle.sheet.proofs.LineLaws.{line_numbered, output_accepted, length_llrs}
use Rattle.writer.specs.FrameLine.{line_write_table, line_write_refusal, line_buffer}
use Rattle.writer.proofs.LineLaws.{none_fits, line_left}
use Rattle.frame_file.specs.FrameFile.{frame_line, frame_llrs, frame_table, frame_verdict}
use Rattle.read_back.specs.Frame.{LineReadBack, LineWrittenBack, LineNotWritten, FrameWritten, AllAccepted}
use Rattle.read_back.specs.Frame.{LinesLent, FrameReadBack, FrameWrittenBack}

-- ---- the 64 penalties of one place

-- one vector as a frame: no number above 31, and a 0
vector_frame : (llrs : List ℕ) → length llrs ≡ 64 → AtMost 31 llrs → HasZero llrs → IsFrame 5 llrs
unfolding vector_at
vector_frame llrs long small zero = record {
  small = λ j l. small j (omega arith);
  zeros = λ i l. let first : 0 ≡ i = omega arith in
      subst (λ (k : ℕ). HasZero (vector_at llrs k)) first (subst HasZero (sym (take_all 64 llrs (le_of_eq long))) zero);
}

module _ (llrs out : List ℕ) where
  -- what is accepted: 64 penalties at Qc = 5, and 257 bytes
  accepted_frame : line_write_refusal llrs out ≡ 0 → (length llrs ≡ 64) × IsFrame 5 llrs
  accepted_frame e =
      let rows = none_fits llrs out e in
      let long = false_equal (length llrs) 64 rows.0 in
      (long, frame_of_rows 5 1 llrs (omega arith) rows.1.1.0 rows.1.1.1.0)

  -- and the other way round
  accepts : length llrs ≡ 64 → length out ≡ 257 → IsFrame 5 llrs → line_write_refusal llrs out ≡ 0
  unfolding line_write_refusal
  accepts long room f =
      let count = equal_false (length llrs) 64 long in
      let bytes = equal_false (length out) 257 room in
      let zeros = zeros_frame 5 llrs f 1 (omega arith) in
      none_accepted (line_write_table llrs out) (count, (bytes, (small_frame 5 llrs f, (zeros, tt))))

-- ---- the line of such penalties
module _ (llrs : List ℕ) (long : length llrs ≡ 64) (f : IsFrame 5 llrs) where
  -- each has at most four digits
  digits : (i : ℕ) → i < length llrs → get_or llrs i 0 < 10 ^ 4
  digits i l = let most = f.small i l in omega arith

  -- it has the right form
  line_formed : is_line 4 64 (line 4 llrs) ≡ true
  line_formed = ap (λ (k : ℕ). is_line 4 k (line 4 llrs)) (sym long) ∙ written_accepted 4 llrs digits

  -- and their numbers
  line_numbers : line_llrs (line 4 llrs) ≡ llrs
  unfolding line_llrs
  line_numbers = ap (λ (k : ℕ). numbers 4 k (line 4 llrs)) (sym long) ∙ numbers_written 4 llrs digits

  -- it has 257 bytes
  line_size : length (line 4 llrs) ≡ 257
  line_size = line_long 4 64 (line 4 llrs) line_formed

-- what is written is read back
pub line_read_back : (llrs out bytes before after : List ℕ) (r : ℕ) → LineReadBack llrs out bytes before after r
unfolding line_refusal
line_read_back llrs out bytes before after r done room read =
    let e = sym done.answer in
    let is = line_left llrs out done e in
    let given = accepted_frame llrs out e in
    let formed = ap (is_line 4 64) is ∙ line_formed llrs given.0 given.1 in
    let takes = none_accepted (line_table bytes before) (equal_false (length before) 64 room, (ap not formed, tt)) in (
      read.answer ∙ takes,
      read.llrs_are ∙ output_accepted bytes before takes ∙ ap line_llrs is ∙ line_numbers llrs given.0 given.1,
    )

-- ---- a line that was accepted
module _ (bytes before llrs : List ℕ) (read : LineRead bytes before llrs 0) where
  -- its form
  read_formed : is_line 4 64 bytes ≡ true
  unfolding line_refusal
  read_formed =
      let rows = accepted_none (line_table bytes before) (line_numbered bytes before) (sym read.answer) in
      not-false (is_line 4 64 bytes) rows.1.0

  -- its numbers
  read_numbers : llrs ≡ line_llrs bytes
  read_numbers = read.llrs_are ∙ output_accepted bytes before (sym read.answer)

  read_long : length llrs ≡ 64
  read_long = ap length read_numbers ∙ length_llrs bytes before

  -- it is their line
  read_line : line 4 llrs ≡ bytes
  unfolding line_llrs
  read_line = ap (line 4) read_numbers ∙ sym (line_written 4 64 bytes read_formed)

-- what is read is written back
pub line_written_back : (bytes before llrs out after : List ℕ) (r : ℕ) → LineWrittenBack bytes before llrs out after r
line_written_back bytes before llrs out after r read small zero room done =
    let long = read_long bytes before llrs read in
    let takes = accepts llrs out long room (vector_frame llrs long small zero) in
    (done.answer ∙ takes, line_left llrs out done takes ∙ read_line bytes before llrs read)

-- a number above 31 is refused
pub line_not_written : (bytes before llrs out after : List ℕ) (value r : ℕ)
    → LineNotWritten bytes before llrs out after value r
unfolding line_write_refusal line_buffer
line_not_written bytes before llrs out after value r read l above room done =
    let long = read_long bytes before llrs read in
    let some = some_outside 0 31 llrs value (omega arith) (above_outside 0 31 (get_or llrs value 0) above) in
    let count = equal_false (length llrs) 64 long in
    let bytes-there = equal_false (length out) 257 room in
    let refused = row_passed 2 _ count ∙ row_passed 2 _ bytes-there ∙ row_fits 8 (zeros_row 1 llrs ∷ []) some in
    let not-accepted : line_write_refusal llrs out ≡ 0 → ⊥ = λ z. let q = sym refused ∙ z in absurd (omega arith) in
    (done.answer ∙ refused, done.bytes_are ∙ when_refused _ (line 4 llrs) out not-accepted)

-- ---- a whole frame
module _ (places : ℕ) (frame : List ℕ) (long : length frame ≡ 64 * places) where
  -- place i has 64 penalties
  place_long : (i : ℕ) → i < places → length (vector_at frame i) ≡ 64
  place_long i l = vector_long frame i (omega arith)

  -- those of a frame at Qc = 5 are penalties at Qc = 5
  place_frame : IsFrame 5 frame → (i : ℕ) → i < places → IsFrame 5 (vector_at frame i)
  place_frame f i l =
      vector_frame (vector_at frame i) (place_long i l)
      (λ b k. let at = vector_entry frame i b k in let most = f.small (64 * i + b) (omega arith) in omega arith)
      (f.zeros i (omega arith))

  -- and the other way round
  frame_of_places : ((i : ℕ) → i < places → IsFrame 5 (vector_at frame i)) → IsFrame 5 frame
  unfolding vector_at
  frame_of_places h = record {
    small = λ j l.
        let i : ℕ = j / 64 in
        let b : ℕ = j % 64 in
        let at = vector_entry frame i b (omega arith) in
        let size = place_long i (omega arith) in
        let most = (h i (omega arith)).small b (omega arith) in
        let same : 64 * i + b ≡ j = omega arith in
        subst (λ (k : ℕ). get_or frame k 0 ≤ 31) same (omega arith);
    zeros = λ i l.
        let size = place_long i (omega arith) in
        subst HasZero (take_all 64 (vector_at frame i) (le_of_eq size)) ((h i (omega arith)).zeros 0 (omega arith));
  }

  module _ (before after : ℕ → List ℕ) (r : ℕ → ℕ) (done : FrameWritten places frame before after r) where
    -- all lines of a frame are accepted
    all_accepted : IsFrame 5 frame → LinesLent places before → AllAccepted places r
    all_accepted f room i l =
        (done i l).answer ∙ accepts (vector_at frame i) (before i) (place_long i l) (room i l) (place_frame f i l)

    module _ (none : AllAccepted places r) where
      -- so no call refused its place
      taken : (i : ℕ) → i < places → line_write_refusal (vector_at frame i) (before i) ≡ 0
      taken i l = sym (done i l).answer ∙ none i l

      places_are : (i : ℕ) → i < places → IsFrame 5 (vector_at frame i)
      places_are i l = (accepted_frame (vector_at frame i) (before i) (taken i l)).1

      -- line i
      line_is : (i : ℕ) → i < places → after i ≡ line 4 (vector_at frame i)
      line_is i l = line_left (vector_at frame i) (before i) (done i l) (taken i l)

      line_257 : (i : ℕ) → i < places → length (after i) ≡ 257
      line_257 i l = ap length (line_is i l) ∙ line_size (vector_at frame i) (place_long i l) (places_are i l)

      -- the file, and its lines
      abbrev file : List ℕ
      file = joined places after

      cut : (i : ℕ) → i < places → frame_line places file i ≡ line 4 (vector_at frame i)
      unfolding frame_line part
      cut i l = joined_part 257 after places line_257 i l ∙ line_is i l

      -- these have the right form
      formed : (i : ℕ) → i < places → is_line 4 64 (frame_line places file i) ≡ true
      formed i l = ap (is_line 4 64) (cut i l) ∙ line_formed (vector_at frame i) (place_long i l) (places_are i l)

      -- its numbers
      file_numbers : frame_llrs places file ≡ frame
      unfolding frame_llrs
      file_numbers =
          joined_ext places (λ i. line_llrs (frame_line places file i)) (vector_at frame)
          (λ i l. ap line_llrs (cut i l) ∙ line_numbers (vector_at frame i) (place_long i l) (places_are i l))
          ∙ sym (joined_by places (vector_at frame) frame long (λ i l. refl))

      -- it is accepted
      file_accepted : frame_verdict places file ≡ 0
      unfolding frame_verdict
      file_accepted =
          let f = frame_of_places places_are in
          let zeros = zeros_frame 5 frame f places (omega arith) in
          none_accepted (frame_table places file) (
            equal_false (length file) (257 * places) (length_joined 257 after places line_257),
            (
              none_there (λ i. (line_row (frame_line places file i)).1) places (λ i l. ap not (formed i l)),
              (
                ap (λ (xs : List ℕ). (llrs_row 5 xs).1) file_numbers ∙ small_frame 5 frame f,
                (ap (λ (xs : List ℕ). (zeros_row places xs).1) file_numbers ∙ zeros, tt),
              ),
            ),
          )

-- the lines of a frame are a frame file
pub frame_read_back : (places : ℕ) (frame : List ℕ) (before after : ℕ → List ℕ) (r : ℕ → ℕ)
    → FrameReadBack places frame before after r
frame_read_back places frame before after r long done = record {
  accepted = all_accepted places frame long before after r done;
  read = λ none. record {
    verdict = file_accepted places frame long before after r done none;
    numbers = file_numbers places frame long before after r done none;
  };
}

-- ---- a frame file that is accepted
module _ (places : ℕ) (bytes : List ℕ) (e : frame_verdict places bytes ≡ 0) where
  -- no row refuses it
  none_refuses : NoneFits (frame_table places bytes)
  unfolding frame_verdict
  none_refuses = accepted_none (frame_table places bytes) (numbered (frame_table places bytes) tt) e

  -- its length
  file_long : length bytes ≡ 257 * places
  file_long = false_equal (length bytes) (257 * places) none_refuses.0

  -- its lines have the right form
  lines_formed : (i : ℕ) → i < places → is_line 4 64 (frame_line places bytes i) ≡ true
  lines_formed i l =
      not-false (is_line 4 64 (frame_line places bytes i))
      (each_not (λ j. (line_row (frame_line places bytes j)).1) places none_refuses.1.0 i l)

  -- the numbers of its line i
  abbrev llrs_at : ℕ → List ℕ
  llrs_at i = line_llrs (frame_line places bytes i)

  -- all its numbers
  llrs_long : length (frame_llrs places bytes) ≡ 64 * places
  unfolding frame_llrs
  llrs_long = length_joined 64 llrs_at places (λ i l. length_llrs (frame_line places bytes i) bytes)

  -- are a frame at Qc = 5
  llrs_frame : IsFrame 5 (frame_llrs places bytes)
  llrs_frame =
      let size = llrs_long in
      frame_of_rows 5 places (frame_llrs places bytes) (omega arith) none_refuses.1.1.0 none_refuses.1.1.1.0

  -- line i is the line of its vector i
  line_of : (i : ℕ) → i < places → line 4 (vector_at (frame_llrs places bytes) i) ≡ frame_line places bytes i
  unfolding frame_llrs vector_at line_llrs
  line_of i l =
      ap (line 4) (joined_part 64 llrs_at places (λ j k. length_llrs (frame_line places bytes j) bytes) i l)
      ∙ sym (line_written 4 64 (frame_line places bytes i) (lines_formed i l))

-- its numbers, written line by line, give the same bytes
pub frame_written_back : (places : ℕ) (bytes : List ℕ) (before after : ℕ → List ℕ) (r : ℕ → ℕ)
    → FrameWrittenBack places bytes before after r
unfolding frame_line part
frame_written_back places bytes before after r e room done =
    let frame = frame_llrs places bytes in
    let long = llrs_long places bytes e in
    let none = all_accepted places frame long before after r done (llrs_frame places bytes e) room in (
      none,
      sym (joined_parts 257 after bytes places (file_long places bytes e) (λ i l.
          sym (line_is places frame long before after r done none i l ∙ line_of places bytes e i l))),
    )
