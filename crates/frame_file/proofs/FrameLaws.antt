-- The laws of a frame file: one line, the verdict on it, and the same verdict line by line as on the file's bytes as a whole.
use mathlib.Core.Path.{◌≡◌, refl, sym, ap, ap₂, ◌∙◌, subst}
use mathlib.Core.Logic.{inl, inr}
use mathlib.Core.Bool.{Bool, true, false, not, cond, ◌||◌}
use mathlib.Core.List.{List, [], ◌∷◌, ◌++◌, append-nil, append_assoc}
use Prim.Native.Nat.{ℕ, zero, suc, ◌+◌, ◌*◌, ◌/◌, ◌≤◌, ◌<◌}
use native.Mathlib.Decide.{ℕ_discrete}
use native.Mathlib.Nat.{mul-suc, mul-zero, le_refl, le_of_eq}
use native.Mathlib.Omega.{arith}
use borrow.Author.Tests.{le-ltb, lt-ltb, ne_eqb, eqb-false, not-false}
use lib.Dec.{eqb, ltb, lit<}
use lib.ListN.{length, take, drop, length-append, length-take, length-drop, drop_of_length-le}
use lib.Seq.{take_all, take_at, drop-append-add, drop-drop}
use Rattle.refusal.specs.Table.{Row, refusal_of, OneOf, NoneFits}
use Rattle.refusal.specs.Tests.{outside, any_outside, any_to, unequal}
use Rattle.refusal.specs.Kinds.{number_of}
use Rattle.refusal.specs.declared.kinds.Refusal.{Refusal}
use Rattle.refusal.proofs.KindLaws.{part_refused}
use Rattle.refusal.proofs.Laws.{accepted_none, none_accepted, first_accepted}
use Rattle.refusal.proofs.Among.{refusal_among, not_among}
use Rattle.refusal.proofs.Within.{or_left, or_right, none_within, equal_false, unequal_true}
use Rattle.refusal.proofs.AnyTo.{each_not, any_ext}
use Rattle.vector.specs.Vector.{joined, vector_at, AtMost, HasZero}
use Rattle.vector.proofs.Laws.{length_joined, joined_part}
use Rattle.vector.proofs.SliceLaws.{vector_long}
use Rattle.columns.specs.Reading.{part, is_line}
use Rattle.columns.proofs.LineLaws.{line_long}
use Rattle.decoder_refusal.specs.Refusals.{no_zero, llrs_row, zeros_row, penalty_table}
use Rattle.decoder_refusal.proofs.RefusalLaws.{some_zero}
use Rattle.sheet.specs.FrameLine.{line_row, line_llrs, line_table, line_refusal, line_output, LineRead}
use Rattle.sheet.proofs.LineLaws.{line_numbered, output_accepted, length_llrs}
use Rattle.frame_file.specs.FrameFile.{frame_line, frame_llrs, frame_table, frame_verdict, fed_table, line_verdict, tried_table, first_tried, end_verdict, LineFed, fed_verdict, fed_frame, Fed}

-- ---- one line
module _ (bytes llrs : List ℕ) {r : ℕ} {after : List ℕ} (read : LineRead bytes llrs after r) where
  -- a line that is refused by its form
  pub form_refused : (refusal : Refusal) → r ≡ number_of refusal → number_of refusal ≡ line_verdict (length llrs) bytes
  unfolding line_refusal line_verdict
  form_refused refusal e =
      part_refused (line_table bytes llrs) (llrs_row 5 (line_llrs bytes) ∷ zeros_row 1 (line_llrs bytes) ∷ []) refusal (sym e ∙ read.answer)

  -- and one that has its form: its penalties decide
  pub penalties_decide : {penalties : ℕ} → r ≡ 0 → penalties ≡ refusal_of (penalty_table 31 after) → penalties ≡ line_verdict (length llrs) bytes
  unfolding line_refusal line_verdict
  penalties_decide z p =
      let accepted = sym read.answer ∙ z in
      let is = read.llrs_are ∙ output_accepted bytes llrs accepted in
      first_accepted (line_table bytes llrs) (llrs_row 5 (line_llrs bytes) ∷ zeros_row 1 (line_llrs bytes) ∷ []) (line_numbered bytes llrs) accepted
      (p ∙ ap (λ (xs : List ℕ). refusal_of (penalty_table 31 xs)) is
      ∙ ap (λ (k : ℕ). refusal_of ((8, any_outside 0 31 (line_llrs bytes)) ∷ zeros_row (k / 64) (line_llrs bytes) ∷ [])) (length_llrs bytes llrs))

-- ---- verdicts of three tests
abbrev three_tests : (broken large empty : Bool) → List Row
three_tests broken large empty = (12, broken) ∷ (8, large) ∷ (9, empty) ∷ []

-- the first tried of two such verdicts is the verdict by the tests of both
both_tests : (a b c d e f : Bool) → first_tried (refusal_of (three_tests a b c)) (refusal_of (three_tests d e f)) ≡ refusal_of (three_tests (a || d) (b || e) (c || f))
unfolding refusal_of first_tried
both_tests true b c true e f = refl
both_tests true b c false true f = refl
both_tests true b c false false true = refl
both_tests true b c false false false = refl
both_tests false true c true e f = refl
both_tests false true c false true f = refl
both_tests false true c false false true = refl
both_tests false true c false false false = refl
both_tests false false true true e f = refl
both_tests false false true false true f = refl
both_tests false false true false false true = refl
both_tests false false true false false false = refl
both_tests false false false true e f = refl
both_tests false false false false true f = refl
both_tests false false false false false true = refl
both_tests false false false false false false = refl

-- a test beside one that does not hold
or_false : (t : Bool) → t || false ≡ t
or_false true = refl
or_false false = refl

-- two rows with the number 12: the second, and beside it a test that says the same as the first where the second does not hold
two_rows : (first second left : Bool) (rs : List Row) → (second ≡ false → first ≡ left)
    → refusal_of ((12, first) ∷ (12, second) ∷ rs) ≡ refusal_of ((12, second || left) ∷ rs)
unfolding refusal_of
two_rows true true left rs h = refl
two_rows false true left rs h = refl
two_rows first false left rs h = ap (λ (t : Bool). cond t 12 (refusal_of rs)) (h refl)

-- one of several lists has a number outside
any_joined : (low high n : ℕ) (f : ℕ → List ℕ) → any_outside low high (joined n f) ≡ any_to n (λ i. any_outside low high (f i))
unfolding joined any_to any_outside
any_joined low high zero f = refl
any_joined low high (suc n) f = append (joined n f) ∙ ap (λ (t : Bool). t || any_outside low high (f n)) (any_joined low high n f)
  where
    either : (a b c : Bool) → a || (b || c) ≡ (a || b) || c
    either true b c = refl
    either false b c = refl

    append : (xs : List ℕ) → any_outside low high (xs ++ f n) ≡ any_outside low high xs || any_outside low high (f n)
    append [] = refl
    append (x ∷ xs) = ap (λ (t : Bool). outside low high x || t) (append xs) ∙ either (outside low high x) (any_outside low high xs) (any_outside low high (f n))

-- ---- a file of lines
module _ (bytes : List ℕ) where
  -- line i
  abbrev line_at : ℕ → List ℕ
  line_at i = part 257 i bytes

  -- its numbers
  abbrev llrs_at : ℕ → List ℕ
  llrs_at i = line_llrs (line_at i)

  -- its three tests
  abbrev broken : ℕ → Bool
  broken i = (line_row (line_at i)).1

  abbrev large : ℕ → Bool
  large i = any_outside 0 31 (llrs_at i)

  abbrev empty : ℕ → Bool
  empty i = (zeros_row 1 (llrs_at i)).1

  -- the verdict after k lines is that by the tests of all of them
  fed_tests : (k : ℕ) → fed_verdict bytes k ≡ refusal_of (three_tests (any_to k broken) (any_to k large) (any_to k empty))
  unfolding fed_verdict line_verdict any_to refusal_of unequal
  fed_tests zero = refl
  fed_tests (suc k) =
      ap (λ (v : ℕ). first_tried v (refusal_of (three_tests (broken k) (large k) (empty k)))) (fed_tests k)
      ∙ both_tests (any_to k broken) (any_to k large) (any_to k empty) (broken k) (large k) (empty k)

  module _ (places : ℕ) where
    -- a byte is left after the lines
    abbrev left : Bool
    left = ltb (257 * places) (length bytes)

    -- where no line is broken, all of them are there
    all_there : any_to places broken ≡ false → 257 * places ≤ length bytes
    unfolding part
    all_there e = go places (each_not broken places e)
      where
        go : (k : ℕ) → ((i : ℕ) → i < k → broken i ≡ false) → 257 * k ≤ length bytes
        go zero h = omega arith
        go (suc k) h =
            let l = line_long 4 64 (line_at k) (not-false (is_line 4 64 (line_at k)) (h k (le_refl (suc k)))) in
            let a = length-take 257 (drop (257 * k) bytes) in
            let b = length-drop (257 * k) bytes in
            let c = mul-suc 257 k in
            omega arith

    -- and a wrong length means that a byte is left
    wrong_length : any_to places broken ≡ false → unequal (length bytes) (257 * places) ≡ left
    wrong_length e = go (all_there e) (ℕ_discrete (length bytes) (257 * places))
      where
        go : 257 * places ≤ length bytes → Dec (length bytes ≡ 257 * places) → unequal (length bytes) (257 * places) ≡ left
        go m (yes q) = equal_false (length bytes) (257 * places) q ∙ sym (le-ltb (257 * places) (length bytes) (omega arith))
        go m (no h) = unequal_true (length bytes) (257 * places) h ∙ sym (lt-ltb (257 * places) (length bytes) (omega arith))

    -- a vector of the frame is a line's numbers
    vector_line : (i : ℕ) → i < places → vector_at (joined places llrs_at) i ≡ llrs_at i
    unfolding vector_at
    vector_line i l = joined_part 64 llrs_at places (λ j m. length_llrs (line_at j) []) i l

    -- the test of row 9 on the whole frame and on a line
    no_zero_at : (i : ℕ) → i < places → no_zero (vector_at (joined places llrs_at) i) ≡ empty i
    unfolding any_to vector_at
    no_zero_at i l =
        ap no_zero (vector_line i l ∙ sym (take_all 64 (llrs_at i) (le_of_eq (length_llrs (line_at i) []))))

    -- the verdict on the file, by the tests of its lines
    file_tests : frame_verdict places bytes ≡ refusal_of (three_tests (any_to places broken || left) (any_to places large) (any_to places empty))
    unfolding frame_verdict frame_llrs frame_line
    file_tests =
        two_rows (unequal (length bytes) (257 * places)) (any_to places broken) left _ wrong_length
        ∙ ap₂ (λ (s t : Bool). refusal_of (three_tests (any_to places broken || left) s t))
        (any_joined 0 31 places llrs_at) (any_ext (λ i. no_zero (vector_at (joined places llrs_at) i)) places empty no_zero_at)

    -- feeding gives that verdict
    pub verdict_of_fed : end_verdict (fed_verdict bytes places) left ≡ frame_verdict places bytes
    unfolding end_verdict refusal_of
    verdict_of_fed =
        ap (λ (v : ℕ). first_tried v (refusal_of (three_tests left false false))) (fed_tests places)
        ∙ both_tests (any_to places broken) (any_to places large) (any_to places empty) left false false
        ∙ ap₂ (λ (s t : Bool). refusal_of (three_tests (any_to places broken || left) s t)) (or_false (any_to places large)) (or_false (any_to places empty))
        ∙ sym file_tests

    -- no line of a file that is accepted is broken
    lines_accepted : frame_verdict places bytes ≡ 0 → (i : ℕ) → i < places → is_line 4 64 (line_at i) ≡ true
    unfolding frame_verdict frame_line
    lines_accepted e i l =
        not-false (is_line 4 64 (line_at i)) (each_not broken places (accepted_none (frame_table places bytes) (lit< tt, (lit< tt, (lit< tt, (lit< tt, tt)))) e).1.0 i l)

    module _ (frame : List ℕ) (long : length frame ≡ 64 * places) (e : frame_verdict places bytes ≡ 0) where
      -- line i is accepted, with an output of 64 numbers
      line_kept : (i : ℕ) → i < places → (llrs : List ℕ) → length llrs ≡ 64 → line_refusal (line_at i) llrs ≡ 0
      unfolding line_refusal
      line_kept i l llrs q = none_accepted (line_table (line_at i) llrs) (equal_false (length llrs) 64 q, (ap not (lines_accepted e i l), tt))

      -- the buffer after k lines: their numbers, and what was there
      fed_lines : (k : ℕ) → k ≤ places → fed_frame bytes k frame ≡ joined k llrs_at ++ drop (64 * k) frame
      unfolding fed_frame joined
      fed_lines zero l = ap (λ (j : ℕ). drop j frame) (sym (mul-zero 64))
      fed_lines (suc k) l =
          let ih = fed_lines k (omega arith) in
          let size = length_joined 64 llrs_at k (λ j m. length_llrs (line_at j) []) in
          let rest = drop (64 * k) frame in
          let whole = ap length ih ∙ length-append (joined k llrs_at) rest in
          let rest-long = length-drop (64 * k) frame in
          let vector = vector_at (fed_frame bytes k frame) k in
          let vector_is = vector_long (fed_frame bytes k frame) k (omega arith) in
          ap₂ (λ (xs ys : List ℕ). xs ++ ys)
          (ap (take (64 * k)) ih ∙ take_at (joined k llrs_at) rest (64 * k) size)
          (ap₂ (λ (xs ys : List ℕ). xs ++ ys)
          (output_accepted (line_at k) vector (line_kept k l vector vector_is))
          (ap (drop (64 * k + 64)) ih
          ∙ ap (λ (j : ℕ). drop (j + 64) (joined k llrs_at ++ rest)) (sym size)
          ∙ drop-append-add (joined k llrs_at) rest 64 ∙ drop-drop 64 (64 * k) frame ∙ ap (λ (j : ℕ). drop j frame) (sym (mul-suc 64 k))))
          ∙ sym (append_assoc (joined k llrs_at) (llrs_at k) (drop (64 * suc k) frame))

      -- and at the end the frame's numbers
      pub fed_llrs : fed_frame bytes places frame ≡ frame_llrs places bytes
      unfolding frame_llrs frame_line
      fed_llrs =
          fed_lines places (le_refl places) ∙ ap (λ (xs : List ℕ). joined places llrs_at ++ xs) (drop_of_length-le frame (le_of_eq long)) ∙ append-nil (joined places llrs_at)

-- feeding a file's bytes line by line gives the verdict on the file and the frame's numbers, for every list of bytes
pub fed : (places : ℕ) (bytes frame : List ℕ) → length frame ≡ 64 * places → Fed places bytes frame
fed places bytes frame long = record { verdict = verdict_of_fed bytes places; llrs = fed_llrs bytes places frame long }

-- one step of that is one call of `feed_line`: from the verdict and the buffer after k lines to those after one line more
pub fed_step : (k : ℕ) (bytes frame : List ℕ) {after : List ℕ} {r : ℕ} → LineFed (fed_verdict bytes k) (part 257 k bytes) (vector_at (fed_frame bytes k frame) k) after r
    → length (vector_at (fed_frame bytes k frame) k) ≡ 64
    → (r ≡ fed_verdict bytes (suc k))
    × (take (64 * k) (fed_frame bytes k frame) ++ (after ++ drop (64 * k + 64) (fed_frame bytes k frame)) ≡ fed_frame bytes (suc k) frame)
unfolding fed_verdict fed_frame
fed_step k bytes frame step long = (
  step.answer ∙ ap (λ (j : ℕ). first_tried (fed_verdict bytes k) (line_verdict j (part 257 k bytes))) long,
  ap (λ (xs : List ℕ). take (64 * k) (fed_frame bytes k frame) ++ (xs ++ drop (64 * k + 64) (fed_frame bytes k frame))) step.llrs_are,
)

-- ---- the numbers that a file can be refused by

-- the verdict on a line with an output of 64 numbers
line_numbers : (bytes : List ℕ) → OneOf (line_verdict 64 bytes) (0 ∷ 12 ∷ 8 ∷ 9 ∷ [])
unfolding line_verdict unequal
line_numbers bytes = refusal_among (12 ∷ 8 ∷ 9 ∷ []) (fed_table 64 bytes) (inl refl, (inr tt, (inr tt, (inr tt, tt))))

-- none of these is 2
not_two : (v : ℕ) → OneOf v (0 ∷ 12 ∷ 8 ∷ 9 ∷ []) → v ≡ 2 → ⊥
not_two v o z = not_among 2 (0 ∷ 12 ∷ 8 ∷ 9 ∷ []) refl (subst (λ (k : ℕ). OneOf k (0 ∷ 12 ∷ 8 ∷ 9 ∷ [])) z o)

-- of two verdicts that are not 2, the one that is tried first
tried_number : (a b : ℕ) → (a ≡ 2 → ⊥) → (b ≡ 2 → ⊥) → OneOf (first_tried a b) (0 ∷ 12 ∷ 8 ∷ 9 ∷ [])
unfolding first_tried
tried_number a b h k =
    let neither = ap₂ (λ (s t : Bool). s || t) (ne_eqb a 2 h) (ne_eqb b 2 k) in
    refusal_among (12 ∷ 8 ∷ 9 ∷ []) (tried_table a b) (inl neither, (inr tt, (inr tt, (inr tt, tt))))

-- the verdict after one line more, with an output of 64 numbers
pub fed_number : {verdict r : ℕ} {bytes llrs after : List ℕ} → LineFed verdict bytes llrs after r → length llrs ≡ 64
    → OneOf verdict (0 ∷ 12 ∷ 8 ∷ 9 ∷ []) → OneOf r (0 ∷ 12 ∷ 8 ∷ 9 ∷ [])
fed_number {verdict} {r} {bytes} fed long o =
    subst (λ (k : ℕ). OneOf k (0 ∷ 12 ∷ 8 ∷ 9 ∷ [])) (sym (fed.answer ∙ ap (λ (k : ℕ). first_tried verdict (line_verdict k bytes)) long))
    (tried_number verdict (line_verdict 64 bytes) (not_two verdict o) (not_two (line_verdict 64 bytes) (line_numbers bytes)))

-- and so the verdict on the file is one of 12, 8 and 9, or 0
pub end_number : (verdict : ℕ) (more : Bool) → OneOf verdict (0 ∷ 12 ∷ 8 ∷ 9 ∷ []) → OneOf (end_verdict verdict more) (0 ∷ 12 ∷ 8 ∷ 9 ∷ [])
unfolding end_verdict
end_number verdict more o = tried_number verdict (cond more 12 0) (not_two verdict o) (other more)
  where
    other : (t : Bool) → ◌≡◌ {A = ℕ} (cond t 12 0) 2 → ⊥
    other true q = absurd (omega arith)
    other false q = absurd (omega arith)

-- ---- what a verdict of 0 says of the numbers that a line left

-- of the numbers 0, 12, 8 and 9, one that is none of the last three is 0
only_zero : (v : ℕ) → OneOf v (0 ∷ 12 ∷ 8 ∷ 9 ∷ []) → (v ≡ 12 → ⊥) → (v ≡ 8 → ⊥) → (v ≡ 9 → ⊥) → v ≡ 0
only_zero v (inl q) a b c = q
only_zero v (inr (inl q)) a b c = absurd (a q)
only_zero v (inr (inr (inl q))) a b c = absurd (b q)
only_zero v (inr (inr (inr (inl q)))) a b c = absurd (c q)
only_zero v (inr (inr (inr (inr q)))) a b c = absurd q

-- where the first tried of two such verdicts is 0, both are
both_zero : (a b : ℕ) → OneOf a (0 ∷ 12 ∷ 8 ∷ 9 ∷ []) → OneOf b (0 ∷ 12 ∷ 8 ∷ 9 ∷ []) → first_tried a b ≡ 0 → (a ≡ 0) × (b ≡ 0)
unfolding first_tried
both_zero a b oa ob e =
    let rows = accepted_none (tried_table a b) (lit< tt, (lit< tt, (lit< tt, (lit< tt, tt)))) e in (
      only_zero a oa (left_not 12 rows.1.0) (left_not 8 rows.1.1.0) (left_not 9 rows.1.1.1.0),
      only_zero b ob (right_not 12 rows.1.0) (right_not 8 rows.1.1.0) (right_not 9 rows.1.1.1.0),
    )
  where
    left_not : (k : ℕ) → eqb a k || eqb b k ≡ false → a ≡ k → ⊥
    left_not k q = eqb-false a k (or_left (eqb a k) (eqb b k) q)

    right_not : (k : ℕ) → eqb a k || eqb b k ≡ false → b ≡ k → ⊥
    right_not k q = eqb-false b k (or_right (eqb a k) (eqb b k) q)

-- a line that no row refuses leaves 64 penalties of at most 31, a 0 among them
module _ (bytes llrs : List ℕ) (long : length llrs ≡ 64) (e : line_verdict 64 bytes ≡ 0) where
  none_fits : NoneFits (fed_table 64 bytes)
  unfolding line_verdict
  none_fits = accepted_none (fed_table 64 bytes) (lit< tt, (lit< tt, (lit< tt, (lit< tt, tt)))) e

  output_is : line_output bytes llrs ≡ line_llrs bytes
  unfolding line_refusal
  output_is = output_accepted bytes llrs (none_accepted (line_table bytes llrs) (equal_false (length llrs) 64 long, (none_fits.1.0, tt)))

  small : AtMost 31 (line_llrs bytes)
  small b l =
      let size = length_llrs bytes [] in
      (none_within 0 31 0 (line_llrs bytes) none_fits.1.1.0 b (omega arith)).most

  has_zero : HasZero (line_llrs bytes)
  unfolding any_to vector_at
  has_zero =
      let size = length_llrs bytes [] in
      let z = some_zero (line_llrs bytes) (ap no_zero (sym (take_all 64 (line_llrs bytes) (le_of_eq size))) ∙ none_fits.1.1.1.0) in
      let in-vector = z.1 in
      record { zero_at = z.0; within = omega arith; is_zero = z.2 }

-- the step of a line with an output of 64 numbers, where the verdict after it is 0: it was 0 before, and the output holds penalties at Qc = 5
pub fed_penalties : {verdict r : ℕ} {bytes llrs after : List ℕ} → LineFed verdict bytes llrs after r → length llrs ≡ 64
    → OneOf verdict (0 ∷ 12 ∷ 8 ∷ 9 ∷ []) → r ≡ 0 → (verdict ≡ 0) × (length after ≡ 64) × AtMost 31 after × HasZero after
fed_penalties {verdict} {r} {bytes} {llrs} {after} fed long o z =
    let tried = sym (fed.answer ∙ ap (λ (k : ℕ). first_tried verdict (line_verdict k bytes)) long) ∙ z in
    let both = both_zero verdict (line_verdict 64 bytes) o (line_numbers bytes) tried in
    let is = sym (fed.llrs_are ∙ output_is bytes llrs long both.1) in
    (both.0, ap length (sym is) ∙ length_llrs bytes [], subst (AtMost 31) is (small bytes llrs long both.1), subst HasZero is (has_zero bytes llrs long both.1))

-- and where the verdict at the end is 0, it was 0 after the last line
pub end_zero : (verdict : ℕ) (more : Bool) → OneOf verdict (0 ∷ 12 ∷ 8 ∷ 9 ∷ []) → end_verdict verdict more ≡ 0 → verdict ≡ 0
unfolding end_verdict
end_zero verdict more o e = (both_zero verdict (cond more 12 0) o (ends more) e).0
  where
    ends : (t : Bool) → OneOf (cond t 12 0) (0 ∷ 12 ∷ 8 ∷ 9 ∷ [])
    ends true = inr (inl refl)
    ends false = inl refl
