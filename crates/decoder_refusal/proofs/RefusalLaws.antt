-- The laws of the refusals of `decode`: the two parts of its table, the scan for a vector with no 0, and what it means
-- that a call is accepted.
use mathlib.Core.Path.{◌≡◌, refl, sym, ap, ap₂, ◌∙◌}
use mathlib.Core.Logic.{inl, inr}
use mathlib.Core.Bool.{Bool, true, false, not, ◌&&◌, ◌||◌}
use mathlib.Core.List.{List, [], ◌∷◌, ◌++◌}
use Prim.Native.Nat.{ℕ, zero, suc, ◌+◌, ◌*◌, ◌/◌, ◌-◌, ◌^◌, ◌≤◌, ◌<◌, max}
use native.Mathlib.Nat.{le_of_suc-le-suc, not-suc-le-zero, zero-lt-suc}
use native.Mathlib.Decide.{dec_lt}
use native.Mathlib.Numerals.{add-one}
use native.Mathlib.Omega.{arith}
use borrow.Author.Count.{below_more}
use borrow.Author.Tests.{eq-eqb, ne_eqb, eqb-true, lt-ltb, le-ltb}
use lib.Dec.{ltb, eqb}
use lib.ListN.{length, get_or, drop, drop_of_length-le}
use lib.Seq.{drop-cons}
use Rattle.refusal.specs.Tests.{outside, any_outside, any_to}
use Rattle.refusal.specs.Table.{Row, refusal_of, NoneFits, OneOf, Numbered}
use Rattle.refusal.proofs.Laws.{accepted_none, first_refused, first_accepted, both_accepted, accepted_both}
use Rattle.refusal.proofs.Laws.{numbered, same_after}
use Rattle.refusal.proofs.Among.{Among, refusal_among}
use Rattle.refusal.proofs.AnyTo.{any_there, none_there, each_not}
use Rattle.refusal.proofs.Within.{above_outside, inside_within, within_inside, none_within, within_none, false_equal, equal_false}
use Rattle.vector.specs.Vector.{vector_at}
use Rattle.vector.specs.Frame.{largest, IsFrame}
use Rattle.vector.proofs.SliceLaws.{vector_long, vector_entry}
use Rattle.vector.proofs.FrameLaws.{largest_is}
use Rattle.polar_code.specs.Code.{Code, IsCode}
use Rattle.polar_code.proofs.CodeLaws.{rows_code, sizes_of_code, code_bytes}
use Rattle.decoder_refusal.specs.Refusals.{no_zero, greatest, llrs_row, zeros_row, buffer_rows, BuffersFit, size_table, code_rows, frame_rows, content_table, decode_table, decode_refusal, Decodable, Settings, Lent}

-- ---- lists with no 0

-- the second does not hold, so not both do
and_false_right : (a : Bool) {b : Bool} → b ≡ false → a && b ≡ false
and_false_right true e = e
and_false_right false e = refl

-- a list with a 0 somewhere
zero_there : (xs : List ℕ) (b : ℕ) → b < length xs → get_or xs b 0 ≡ 0 → no_zero xs ≡ false
unfolding no_zero
zero_there [] b l e = absurd (not-suc-le-zero l)
zero_there (x ∷ xs) zero l e = ap (λ (t : Bool). not t && no_zero xs) (eq-eqb x 0 e)
zero_there (x ∷ xs) (suc b) l e = and_false_right (not (eqb x 0)) (zero_there xs b (le_of_suc-le-suc l) e)

-- a list with a 0 nowhere
zero_nowhere : (xs : List ℕ) → ((b : ℕ) → b < length xs → get_or xs b 0 ≡ 0 → ⊥) → no_zero xs ≡ true
unfolding no_zero
zero_nowhere [] h = refl
zero_nowhere (x ∷ xs) h =
    ap₂ (λ (s t : Bool). not s && t) (ne_eqb x 0 (h 0 (zero-lt-suc (length xs)))) (zero_nowhere xs (λ b l. h (suc b) (omega arith)))

-- where the test for no 0 does not fit, there is one
pub some_zero : (xs : List ℕ) → no_zero xs ≡ false → (b : ℕ) × (b < length xs) × (get_or xs b 0 ≡ 0)
unfolding no_zero
some_zero [] e = absurd (let z : ◌≡◌ {A = ℕ} 0 1 = cc in omega arith)
some_zero (x ∷ xs) e = go (eqb x 0) refl e (some_zero xs)
  where
    go : (t : Bool) → eqb x 0 ≡ t → not t && no_zero xs ≡ false → (no_zero xs ≡ false → (b : ℕ) × (b < length xs) × (get_or xs b 0 ≡ 0))
        → (b : ℕ) × (b < suc (length xs)) × (get_or (x ∷ xs) b 0 ≡ 0)
    go true q f ih = (0, zero-lt-suc (length xs), eqb-true x 0 q)
    go false q f ih = let p = ih f in let l = p.1 in (suc p.0, omega arith, p.2)

-- ---- the greatest number of a list

-- a number that is not above `most` decides nothing
max_above : (most x g : ℕ) → x ≤ most → ltb most (max x g) ≡ ltb most g
max_above most x g h = go (dec_lt most g)
  where
    go : Dec (most < g) → ltb most (max x g) ≡ ltb most g
    go (yes l) = lt-ltb most (max x g) (omega arith) ∙ sym (lt-ltb most g l)
    go (no l) = le-ltb most (max x g) (omega arith) ∙ sym (le-ltb most g (omega arith))

-- the greatest is above a number exactly where one of the list is
pub greatest_above : (most : ℕ) (xs : List ℕ) → ltb most (greatest xs) ≡ any_outside 0 most xs
unfolding greatest any_outside
greatest_above most [] = le-ltb most 0 (omega arith)
greatest_above most (x ∷ xs) = go (dec_lt most x) (greatest_above most xs)
  where
    go : Dec (most < x) → ltb most (greatest xs) ≡ any_outside 0 most xs → ltb most (max x (greatest xs)) ≡ outside 0 most x || any_outside 0 most xs
    go (yes l) e =
        lt-ltb most (max x (greatest xs)) (omega arith) ∙ sym (ap (λ (t : Bool). t || any_outside 0 most xs) (above_outside 0 most x l))
    go (no l) e =
        max_above most x (greatest xs) (omega arith) ∙ e
        ∙ sym (ap (λ (t : Bool). t || any_outside 0 most xs) (within_inside 0 most x (record { least = omega arith; most = omega arith })))

-- a loop that keeps the greatest number before place i: with those from i on it gives the greatest of all
abbrev pub Kept : List ℕ → ℕ → ℕ → Type 0
Kept xs m i = max m (greatest (drop i xs)) ≡ greatest xs

-- one number more
module _ (xs : List ℕ) (m i : ℕ) (h : Kept xs m i) (l : i < length xs) where
  -- the numbers from place i on: the one there, and those after it
  greatest_from : greatest (drop i xs) ≡ max (get_or xs i 0) (greatest (drop (i + 1) xs))
  unfolding greatest
  greatest_from = rw (add-one, drop-cons xs i 0)

  -- the greater of that one and the one kept is kept
  pub keep_more : {m' : ℕ} → m' ≡ max m (get_or xs i 0) → Kept xs m' (i + 1)
  keep_more e = let f = greatest_from in omega arith

-- no number is left: the one kept is the greatest
pub keep_all : (xs : List ℕ) (m i : ℕ) → Kept xs m i → length xs ≤ i → m ≡ greatest xs
unfolding greatest
keep_all xs m i h l = let e : greatest (drop i xs) ≡ 0 = ap greatest (drop_of_length-le xs l) in omega arith

-- ---- the vectors of a frame
module _ (frame : List ℕ) where
  -- vector i has 64 entries
  long_at : (i : ℕ) → i < length frame / 64 → length (vector_at frame i) ≡ 64
  long_at i l = vector_long frame i (omega arith)

  -- vector i holds no 0
  abbrev lacks_zero : ℕ → Bool
  lacks_zero i = no_zero (vector_at frame i)

  -- how far the scan for a vector with no 0 has come: each vector before i has a 0
  pub record Scanned (i : ℕ) : Type 0 where
    pub within : i ≤ length frame / 64
    pub zeros : (j : ℕ) → j < i → lacks_zero j ≡ false

  -- and how far in vector i: no entry before b is 0
  pub record Scanning (i b : ℕ) : Type 0 where
    pub before : Scanned i
    pub there : i < length frame / 64
    pub within : b ≤ 64
    pub none : (c : ℕ) → c < b → get_or frame (64 * i + c) 0 ≡ 0 → ⊥

  module _ (i b : ℕ) (h : Scanning i b) where
    -- it is 0: on with the next vector
    pub scan_found : b < 64 → get_or frame (64 * i + b) 0 ≡ 0 → Scanned (i + 1)
    scan_found l z =
        let there = h.there in
        let long = long_at i there in
        record {
          within = omega arith;
          zeros = below_more _ _ h.before.zeros (zero_there (vector_at frame i) b (omega arith) (vector_entry frame i b l ∙ z));
        }

    -- no entry is: such a vector is found
    pub scan_over : 64 ≤ b → any_to (length frame / 64) lacks_zero ≡ true
    scan_over l =
        let long = long_at i h.there in
        any_there lacks_zero (length frame / 64) i h.there (zero_nowhere (vector_at frame i) (λ c s e.
        let s2 : c < 64 = omega arith in
        h.none c (omega arith) (sym (vector_entry frame i c s2) ∙ e)))

  -- each vector has a 0: none is found
  pub scan_all : (i : ℕ) → Scanned i → length frame / 64 ≤ i → any_to (length frame / 64) lacks_zero ≡ false
  scan_all i h l = none_there lacks_zero (length frame / 64) (λ j s. h.zeros j (omega arith))

-- ---- rows 8 and 9
module _ (qc : ℕ) (frame : List ℕ) (f : IsFrame qc frame) where
  -- row 8 does not fit a frame of penalties at Qc
  pub small_frame : (llrs_row qc frame).1 ≡ false
  small_frame = within_none 0 (2 ^ qc - 1) 0 frame (λ j l. record { least = omega arith; most = f.small j l })

  -- nor does row 9, for as many places as the frame has
  pub zeros_frame : (places : ℕ) → places ≤ length frame / 64 → (zeros_row places frame).1 ≡ false
  zeros_frame places few = none_there (lacks_zero frame) places (λ i l.
      let s : i < length frame / 64 = omega arith in
      let size = long_at frame i s in
      let z = f.zeros i s in
      let in-vector = z.within in
      zero_there (vector_at frame i) z.zero_at (omega arith) z.is_zero)

-- and where neither fits, for no fewer places than the frame has, it is such a frame
pub frame_of_rows : (qc places : ℕ) (frame : List ℕ) → length frame / 64 ≤ places
    → (llrs_row qc frame).1 ≡ false → (zeros_row places frame).1 ≡ false → IsFrame qc frame
frame_of_rows qc places frame few small zeros = record {
  small = λ j l. (none_within 0 (2 ^ qc - 1) 0 frame small j l).most;
  zeros = λ i l.
      let s : i < places = omega arith in
      let z = some_zero (vector_at frame i) (each_not (lacks_zero frame) places zeros i s) in
      let entries = long_at frame i l in
      let in-vector = z.1 in
      record { zero_at = z.0; within = omega arith; is_zero = z.2 };
}

-- ---- the rows as `check_contents` tries them

-- the penalties with the largest one that `largest` gives
pub penalties_tried : (map cs : List ℕ) (settings : Settings) (frame : List ℕ) {r : ℕ}
    → r ≡ refusal_of (code_rows map cs settings ++ frame_rows (largest settings.qc) (length frame / 64) frame)
    → r ≡ refusal_of (content_table (length frame / 64) map cs settings frame)
penalties_tried map cs settings frame e =
    let qc = settings.qc in
    let places = length frame / 64 in
    e
    ∙ same_after (code_rows map cs settings) (frame_rows (largest qc) places frame) (frame_rows (2 ^ qc - 1) places frame) (λ none.
    let few = (inside_within 1 5 qc none.0).most in
    ap (λ (most : ℕ). refusal_of (frame_rows most places frame)) (largest_is qc (omega arith)))

-- ---- the rows on the lengths of the buffers

-- none of them fits: the buffers have the lengths needed
pub rows_buffers : (places : ℕ) (frame : List ℕ) (lent : Lent) → NoneFits (drop 1 (buffer_rows places frame lent)) → BuffersFit places lent
rows_buffers places frame lent rooms = record {
  work_long = false_equal (length lent.work) (65 * places) rooms.0;
  symbols_long = false_equal (length lent.symbols) places rooms.1.0;
  report_long = false_equal (length lent.report) (64 * places) rooms.1.1.0;
  totals_long = false_equal (length lent.totals) places rooms.1.1.1.0;
}

-- and the other way round
pub buffers_rows : (places : ℕ) (frame : List ℕ) (lent : Lent) → BuffersFit places lent → NoneFits (drop 1 (buffer_rows places frame lent))
buffers_rows places frame lent b =
    let work_room = equal_false (length lent.work) (65 * places) b.work_long in
    let symbols_room = equal_false (length lent.symbols) places b.symbols_long in
    let report_room = equal_false (length lent.report) (64 * places) b.report_long in
    let totals_room = equal_false (length lent.totals) places b.totals_long in
    (work_room, (symbols_room, (report_room, (totals_room, tt))))

-- ---- the two parts of the table, and that a call is accepted exactly when no row fits
module _ (code : Code) (settings : Settings) (frame : List ℕ) (lent : Lent) where
  -- N
  abbrev size : ℕ
  size = 2 ^ code.n

  -- the rows on n and the lengths
  abbrev sizes : List Row
  sizes = size_table code frame lent

  -- the others
  abbrev contents : List Row
  contents = content_table size code.map code.coefs settings frame

  -- no row of the first part has the number 0
  sizes_numbered : Numbered sizes
  sizes_numbered = numbered sizes tt

  -- nor one of the others
  contents_numbered : Numbered contents
  contents_numbered = numbered contents tt

  -- the sizes are refused
  pub size_refused : (r : ℕ) → r ≡ refusal_of sizes → (r ≡ 0 → ⊥) → r ≡ decode_refusal code settings frame lent
  unfolding decode_refusal
  size_refused r e h = first_refused sizes contents e h

  -- they are accepted: the frame has 2^n vectors, and the rest decides
  pub size_accepted : (r : ℕ) → refusal_of sizes ≡ 0
      → r ≡ refusal_of (content_table (length frame / 64) code.map code.coefs settings frame)
      → r ≡ decode_refusal code settings frame lent
  unfolding decode_refusal
  size_accepted r e f =
      let none = accepted_none sizes sizes_numbered e in
      let long = false_equal (length frame) (64 * size) none.1.1.1.0 in
      let places : length frame / 64 ≡ size = omega arith in
      first_accepted sizes contents sizes_numbered e
      (f ∙ ap (λ (k : ℕ). refusal_of (content_table k code.map code.coefs settings frame)) places)

  -- accepted: what the rows test holds
  pub accepted : decode_refusal code settings frame lent ≡ 0 → Decodable code settings frame lent
  unfolding decode_refusal
  accepted e =
      let qc = settings.qc in
      let parts = accepted_both sizes contents sizes_numbered contents_numbered e in
      let by_size = parts.0 in
      let rooms = by_size.1.1.1 in
      let by_content = parts.1 in
      let bytes = by_content.1.1.1 in
      let long = false_equal (length frame) (64 * size) rooms.0 in
      record {
        is_code = rows_code code (by_size.0, (by_size.1.0, (by_size.1.1.0, tt))) (bytes.0, (bytes.1.0, (bytes.1.1.0, tt)));
        frame_long = long;
        buffers = rows_buffers size frame lent rooms.1;
        channel_precision = inside_within 1 5 qc by_content.0;
        internal_precision = inside_within qc 13 settings.qm by_content.1.0;
        candidates_fit = inside_within 1 64 settings.candidates by_content.1.1.0;
        is_frame = frame_of_rows qc size frame (let most : length frame / 64 ≤ size = omega arith in most) bytes.1.1.1.0 bytes.1.1.1.1.0;
      }

  -- and the other way round
  pub accepts : Decodable code settings frame lent → decode_refusal code settings frame lent ≡ 0
  unfolding decode_refusal
  accepts t =
      let qc = settings.qc in
      let by_size = sizes_of_code code t.is_code in
      let frame_room = equal_false (length frame) (64 * size) t.frame_long in
      let rooms = buffers_rows size frame lent t.buffers in
      let qc-fits = within_inside 1 5 qc t.channel_precision in
      let qm-fits = within_inside qc 13 settings.qm t.internal_precision in
      let number_fits = within_inside 1 64 settings.candidates t.candidates_fit in
      let bytes = code_bytes code t.is_code in
      let small = small_frame qc frame t.is_frame in
      let zeros = zeros_frame qc frame t.is_frame size (let long = t.frame_long in omega arith) in
      both_accepted sizes contents
      (by_size.0, (by_size.1.0, (by_size.1.1.0, (frame_room, rooms))))
      (qc-fits, (qm-fits, (number_fits, (bytes.0, (bytes.1.0, (bytes.1.1.0, (small, (zeros, tt))))))))

  -- a code is not refused by 1, 4, 5 or 6, whatever else the call is given
  pub code_numbers : IsCode code → OneOf (decode_refusal code settings frame lent) (0 ∷ 2 ∷ 3 ∷ 13 ∷ 8 ∷ 9 ∷ [])
  unfolding decode_refusal
  code_numbers c =
      let by_size = sizes_of_code code c in
      let bytes = code_bytes code c in
      let others : List ℕ = 2 ∷ 3 ∷ 13 ∷ 8 ∷ 9 ∷ [] in
      let table = decode_table code settings frame lent in
      let on-bytes : Among others (drop 11 table) = (inl bytes.0, (inl bytes.1.0, (inl bytes.1.1.0, (inr tt, (inr tt, tt))))) in
      let on-rest : Among others (drop 4 table) = (inr tt, (inr tt, (inr tt, (inr tt, (inr tt, (inr tt, (inr tt, on-bytes))))))) in
      refusal_among others table (inl by_size.0, (inr tt, (inr tt, (inr tt, on-rest))))
