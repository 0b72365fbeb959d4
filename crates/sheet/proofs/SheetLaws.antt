-- The laws of the code sheet: its lines and numbers, and what its refusals say.
use mathlib.Core.Path.{◌≡◌, refl, sym, ap, ap₂, ◌∙◌, subst}
use mathlib.Core.Logic.{inl, inr}
use mathlib.Core.Bool.{Bool, true, false, not, ◌||◌}
use mathlib.Core.List.{List, [], ◌∷◌, ◌++◌}
use Prim.Native.Nat.{ℕ, zero, suc, ◌+◌, ◌*◌, ◌/◌, ◌^◌, ◌<◌, ◌≤◌}
use native.Mathlib.Nat.{le_of_suc-le-suc, not-suc-le-zero, zero-add, mul-le-mul_right}
use native.Mathlib.Decide.{ℕ_discrete, dec_lt}
use native.Mathlib.Omega.{arith}
use borrow.Author.Tests.{ne_eqb, ltb-false, lt-ltb, le-ltb}
use lib.Dec.{eqb, ltb, lit≤, lit<}
use lib.ListN.{length, get_or, take, drop, length-append}
use lib.Pow.{pow_mono}
use lib.Seq.{length-take-le, take_all, take-take, take_at}
use Rattle.refusal.specs.Table.{Row, refusal_of, OneOf, NoneFits, Numbered}
use Rattle.refusal.specs.Returned.{Returned}
use Rattle.refusal.specs.Tests.{outside, any_outside, any_to, unequal, Within}
use Rattle.refusal.proofs.Among.{refusal_among}
use Rattle.refusal.proofs.Laws.{row_fits, row_passed, accepted_none, none_accepted, first_refused, first_accepted, both_accepted, accepted_both, when_accepted, when_refused}
use Rattle.refusal.proofs.Laws.{same_after}
use Rattle.refusal.proofs.Within.{or_left, or_right, or_true_right, inside_within, false_equal, equal_false, unequal_true}
use Rattle.polar_code.specs.Code.{kind_of, message_count, message_places, layers_row, map_row, empty_row, coefs_row, code_of, IsCode}
use Rattle.polar_code.specs.Sizes.{places_of, kernels_of}
use Rattle.polar_code.proofs.CodeLaws.{rows_code}
use Rattle.polar_code.proofs.SizeLaws.{places_are, kernels_are}
use Rattle.vector.specs.Vector.{tabulate}
use Rattle.vector.proofs.Laws.{length_tabulate, get_d_tabulate}
use Rattle.columns.specs.Reading.{spelled, part, is_line}
use Rattle.sheet.specs.CodeSheet.{bad_line, number_on, numbers_on, sheet_layers, sheet_places, sheet_kernels, sheet_lines, sheet_map, sheet_coefs, form_table, content_table, sheet_table, sheet_refusal, sheet_answer, map_read, coefs_read, SheetRead}
use Rattle.std.proofs.Common.{Result, Ok, Err}
use Rattle.refusal.specs.Kinds.{number_of, returned}
use Rattle.refusal.specs.declared.kinds.Refusal.{Refusal}
use Rattle.refusal.proofs.KindLaws.{number_nonzero}
use Rattle.sheet.specs.Parts.{Lines, Formed, NumbersGiven, tried_form, tried_content}

-- numbers that are tabulated, one of them outside
module _ (low high : ℕ) where
  pub one_outside : (n : ℕ) (f : ℕ → ℕ) (i : ℕ) → i < n → outside low high (f i) ≡ true → any_outside low high (tabulate n f) ≡ true
  unfolding tabulate any_outside
  one_outside zero f i l e = absurd (not-suc-le-zero l)
  one_outside (suc n) f zero l e = ap (λ (t : Bool). t || any_outside low high (tabulate n (λ j. f (suc j)))) e
  one_outside (suc n) f (suc i) l e = or_true_right (outside low high (f 0)) (one_outside n (λ j. f (suc j)) i (le_of_suc-le-suc l) e)

  -- and none
  pub none_outside : (n : ℕ) (f : ℕ → ℕ) → ((i : ℕ) → i < n → outside low high (f i) ≡ false) → any_outside low high (tabulate n f) ≡ false
  unfolding tabulate any_outside
  none_outside zero f h = refl
  none_outside (suc n) f h = ap₂ (λ (s t : Bool). s || t) (h 0 (omega arith)) (none_outside n (λ j. f (suc j)) (λ i l. h (suc i) (omega arith)))

  module _ (first count : ℕ) (bytes : List ℕ) where
    -- the number on one of the lines is outside
    pub number_outside : (i : ℕ) → i < count → outside low high (number_on (first + i) bytes) ≡ true → any_outside low high (numbers_on first count bytes) ≡ true
    unfolding numbers_on
    number_outside i l e = one_outside count (λ j. number_on (first + j) bytes) i l e

    -- none of them is
    pub numbers_inside : ((i : ℕ) → i < count → outside low high (number_on (first + i) bytes) ≡ false) → any_outside low high (numbers_on first count bytes) ≡ false
    unfolding numbers_on
    numbers_inside h = none_outside count (λ j. number_on (first + j) bytes) h

-- where no number of a map is above 1, no place is a message place exactly where all of them are 1
pub all_frozen : (map : List ℕ) → any_outside 0 1 map ≡ false → eqb (message_places map) 0 ≡ not (any_outside 1 1 map)
unfolding any_outside message_places kind_of message_count outside
all_frozen [] e = refl
all_frozen (x ∷ map) e =
    place x (inside_within 0 1 x (or_left (outside 0 1 x) (any_outside 0 1 map) e)) (ℕ_discrete x 0) (all_frozen map (or_right (outside 0 1 x) (any_outside 0 1 map) e))
  where
    place : (x : ℕ) → Within 0 1 x → Dec (x ≡ 0) → eqb (message_places map) 0 ≡ not (any_outside 1 1 map)
        → eqb (message_count (kind_of x) + message_places map) 0 ≡ not (outside 1 1 x || any_outside 1 1 map)
    place x w (yes z) ih =
        subst (λ (k : ℕ). eqb (message_count (kind_of k) + message_places map) 0 ≡ not (outside 1 1 k || any_outside 1 1 map)) (sym z)
        (ne_eqb (1 + message_places map) 0 (λ q. absurd (omega arith)))
    place x w (no h) ih =
        let most = w.most in
        let one : 1 ≡ x = omega arith in
        subst (λ (k : ℕ). eqb (message_count (kind_of k) + message_places map) 0 ≡ not (outside 1 1 k || any_outside 1 1 map)) one
        (ap (λ (k : ℕ). eqb k 0) (zero-add (message_places map)) ∙ ih)

-- ---- the form
module _ (bytes : List ℕ) where
  -- fewer than five bytes: the first row fits
  pub form_short : length bytes < 5 → 12 ≡ refusal_of (form_table bytes)
  form_short l = sym (row_fits 12 _ (lt-ltb (length bytes) 5 l))

  -- the rows on the length and on the lines, for so many lines, of which so many are looked at
  abbrev lines_table : (lines count : ℕ) → List Row
  lines_table lines count = (12, unequal (length bytes) (5 * lines)) ∷ (12, any_to count (λ i. bad_line i bytes)) ∷ []

  -- five bytes or more: the other rows, tried with the sizes that `place_count` and `kernel_count` give and with all lines
  -- that the bytes have
  pub form_tried : {n : ℕ} → n ≡ sheet_layers bytes → 5 ≤ length bytes → {r : ℕ} → r ≡ refusal_of (tried_form n bytes) → r ≡ refusal_of (form_table bytes)
  form_tried is_n l e =
      let lines = sheet_lines bytes in
      let by_lines = lines_table (1 + places_of (sheet_layers bytes) + kernels_of (sheet_layers bytes)) (length bytes / 5) in
      e ∙ ap (λ (k : ℕ). refusal_of (tried_form k bytes)) is_n
      ∙ same_after ((12, bad_line 0 bytes) ∷ layers_row (sheet_layers bytes) ∷ []) by_lines (lines_table lines lines) (λ none.
      let few = (inside_within 1 8 (sheet_layers bytes) none.1.0).most in
      ap₂ (λ (places kernels : ℕ). refusal_of (lines_table (1 + places + kernels) (length bytes / 5))) (places_are _ few) (kernels_are _ few)
      ∙ same_after ((12, unequal (length bytes) (5 * lines)) ∷ []) _ ((12, any_to lines (λ i. bad_line i bytes)) ∷ []) (λ same.
      let long = false_equal (length bytes) (5 * lines) same.0 in
      let all : length bytes / 5 ≡ lines = omega arith in
      ap (λ (k : ℕ). refusal_of ((12, any_to k (λ i. bad_line i bytes)) ∷ [])) all))
      ∙ sym (row_passed 12 _ (le-ltb (length bytes) 5 l))

  -- no row on the form has the number 0
  form_numbered : Numbered (form_table bytes)
  form_numbered = (lit< tt, (lit< tt, (lit< tt, (lit< tt, (lit< tt, tt)))))

  -- a sheet that no row on the form refuses has all its lines
  pub formed : refusal_of (form_table bytes) ≡ 0 → Formed (sheet_layers bytes) bytes
  formed e =
      let rows = accepted_none (form_table bytes) form_numbered e in
      record {
        is_n = refl;
        layers = inside_within 1 8 (sheet_layers bytes) rows.1.1.0;
        long = false_equal (length bytes) (5 * sheet_lines bytes) rows.1.1.1.0;
      }

  -- the lines of the map are there
  pub map_lines : (n : ℕ) → Formed n bytes → Lines 1 (2 ^ n) bytes
  map_lines n f =
      let few = pow_mono {i = n} {j = 8} f.layers.most in
      let long = f.long in
      let size = ap (λ (k : ℕ). 2 ^ k) f.is_n in
      record { few = omega arith; there = omega arith }

  -- and those of the coefficients
  pub coef_lines : (n : ℕ) → Formed n bytes → Lines (1 + 2 ^ n) (n * (2 ^ n / 2)) bytes
  coef_lines n f =
      let few = f.layers.most in
      let size = pow_mono {i = n} {j = 8} few in
      let kernels = mul-le-mul_right (2 ^ n / 2) few in
      let long = f.long in
      let places = ap (λ (k : ℕ). 2 ^ k) f.is_n in
      let same = ap (λ (k : ℕ). k * (2 ^ k / 2)) f.is_n in
      record { few = omega arith; there = omega arith }

  -- the same with the sizes that `place_count` and `kernel_count` give
  module _ {n size : ℕ} (f : Formed n bytes) (s : size ≡ places_of n) where
    pub map_tried : Lines 1 size bytes
    map_tried = subst (λ (k : ℕ). Lines 1 k bytes) (sym (s ∙ places_are n f.layers.most)) (map_lines n f)

    pub coefs_tried : {count : ℕ} → count ≡ kernels_of n → Lines (1 + size) count bytes
    coefs_tried q = rw (s ∙ places_are n f.layers.most, q ∙ kernels_are n f.layers.most) (coef_lines n f)

-- ---- the refusal, and what is read
module _ (bytes map coefs : List ℕ) where
  -- they give the refusal, where n and the lines are right
  pub content_tried : (n : ℕ) → Formed n bytes → {r : ℕ} → r ≡ refusal_of (tried_content (places_of n) (kernels_of n) bytes map coefs) → r ≡ refusal_of (content_table bytes map coefs)
  unfolding sheet_map sheet_coefs
  content_tried n f e =
      let few = f.layers.most in
      let same = ap (λ (k : ℕ). refusal_of (tried_content (2 ^ k) (k * (2 ^ k / 2)) bytes map coefs)) f.is_n in
      e ∙ ap₂ (λ (places kernels : ℕ). refusal_of (tried_content places kernels bytes map coefs)) (places_are n few) (kernels_are n few) ∙ same
      ∙ same_after ((2, ltb (length map) (sheet_places bytes)) ∷ (2, ltb (length coefs) (sheet_kernels bytes)) ∷ map_row (sheet_map bytes) ∷ [])
      _ (empty_row (sheet_map bytes) ∷ coefs_row (sheet_coefs bytes) ∷ []) (λ none.
      ap (λ (t : Bool). refusal_of ((5, t) ∷ coefs_row (sheet_coefs bytes) ∷ [])) (sym (all_frozen (sheet_map bytes) none.1.1.0)))

  content_numbered : Numbered (content_table bytes map coefs)
  content_numbered = (lit< tt, (lit< tt, (lit< tt, (lit< tt, (lit< tt, tt)))))

  -- a sheet that no row refuses is accepted
  pub sheet_accepts : NoneFits (form_table bytes) → NoneFits (content_table bytes map coefs) → sheet_refusal bytes map coefs ≡ 0
  unfolding sheet_refusal
  sheet_accepts f c = both_accepted (form_table bytes) (content_table bytes map coefs) f c

  module _ (e : sheet_refusal bytes map coefs ≡ 0) where
    -- and no row refuses a sheet that is accepted
    pub rows : NoneFits (form_table bytes) × NoneFits (content_table bytes map coefs)
    unfolding sheet_refusal
    rows = accepted_both (form_table bytes) (content_table bytes map coefs) (form_numbered bytes) content_numbered e

    -- so the sheet has all its lines
    pub lines : Formed (sheet_layers bytes) bytes
    lines = formed bytes (none_accepted (form_table bytes) rows.0)

    -- it is a code
    pub is_code : IsCode (code_of (sheet_layers bytes) (sheet_map bytes) (sheet_coefs bytes))
    unfolding sheet_map sheet_coefs numbers_on
    is_code =
        let f = rows.0 in
        let c = rows.1 in
        rows_code (code_of (sheet_layers bytes) (sheet_map bytes) (sheet_coefs bytes)) (
          f.1.1.0,
          (
            equal_false _ _ (length_tabulate (sheet_places bytes) (λ j. number_on (1 + j) bytes)),
            (equal_false _ _ (length_tabulate (sheet_kernels bytes) (λ j. number_on (1 + sheet_places bytes + j) bytes)), tt),
          ),
        )
        (c.1.1.0, (c.1.1.1.0, (c.1.1.1.1.0, tt)))

    -- with room for it in the buffers
    pub map_room : sheet_places bytes ≤ length map
    map_room = ltb-false (length map) (sheet_places bytes) rows.1.0

    pub coefs_room : sheet_kernels bytes ≤ length coefs
    coefs_room = ltb-false (length coefs) (sheet_kernels bytes) rows.1.1.0

    -- and its numbers are bytes
    pub map_bytes : (i : ℕ) → i < sheet_places bytes → number_on (1 + i) bytes < 256
    unfolding sheet_map numbers_on
    map_bytes i l =
        let size = length_tabulate (sheet_places bytes) (λ j. number_on (1 + j) bytes) in
        let w = (is_code.map_bytes i (omega arith)).most in
        let q = get_d_tabulate 0 (sheet_places bytes) (λ j. number_on (1 + j) bytes) i l in
        omega arith

    pub coefs_bytes : (i : ℕ) → i < sheet_kernels bytes → number_on (1 + sheet_places bytes + i) bytes < 256
    unfolding sheet_coefs numbers_on
    coefs_bytes i l =
        let size = length_tabulate (sheet_kernels bytes) (λ j. number_on (1 + sheet_places bytes + j) bytes) in
        let w = (is_code.nonzero i (omega arith)).most in
        let q = get_d_tabulate 1 (sheet_kernels bytes) (λ j. number_on (1 + sheet_places bytes + j) bytes) i l in
        omega arith

    -- what `write_numbers` is given, for the map and for the coefficients
    pub map_given : (out : List ℕ) → length out ≡ sheet_places bytes → NumbersGiven 1 bytes out
    map_given out q = record {
      lines = subst (λ (k : ℕ). Lines 1 k bytes) (sym q) (map_lines bytes (sheet_layers bytes) lines);
      small = λ i l. map_bytes i (omega arith);
    }

    pub coefs_given : (out : List ℕ) → length out ≡ sheet_kernels bytes → NumbersGiven (1 + sheet_places bytes) bytes out
    coefs_given out q = record {
      lines = subst (λ (k : ℕ). Lines (1 + sheet_places bytes) k bytes) (sym q) (coef_lines bytes (sheet_layers bytes) lines);
      small = λ i l. coefs_bytes i (omega arith);
    }

  -- a sheet that is refused: the buffers as they came
  pub sheet_refused : (r : Refusal) → number_of r ≡ sheet_refusal bytes map coefs → SheetRead bytes map coefs map coefs (Err r)
  unfolding sheet_answer map_read coefs_read
  sheet_refused r e =
      let refusal = sheet_refusal bytes map coefs in
      let not-accepted : refusal ≡ 0 → ⊥ = λ q. number_nonzero r (e ∙ q) in
      record {
        answer = ap₂ (λ (k : ℕ) (vs : List ℕ). record { number = k; values = vs }) e (sym (when_refused refusal (sheet_layers bytes ∷ []) [] not-accepted));
        map_is = sym (when_refused refusal (sheet_map bytes ++ drop (sheet_places bytes) map) map not-accepted);
        coefs_are = sym (when_refused refusal (sheet_coefs bytes ++ drop (sheet_kernels bytes) coefs) coefs not-accepted);
        code = λ q. absurd (not-accepted q);
        map_room = λ q. absurd (not-accepted q);
        coefs_room = λ q. absurd (not-accepted q);
      }

  -- a sheet that is accepted
  pub sheet_accepted : {n : ℕ} {new_map new_coefs : List ℕ} → sheet_refusal bytes map coefs ≡ 0 → n ≡ sheet_layers bytes
      → new_map ≡ sheet_map bytes ++ drop (sheet_places bytes) map → new_coefs ≡ sheet_coefs bytes ++ drop (sheet_kernels bytes) coefs
      → SheetRead bytes map coefs new_map new_coefs (Ok n)
  unfolding sheet_answer map_read coefs_read
  sheet_accepted e is_n m c =
      let refusal = sheet_refusal bytes map coefs in
      record {
        answer = ap₂ (λ (k : ℕ) (vs : List ℕ). record { number = k; values = vs }) (sym e)
            (ap (λ (k : ℕ). k ∷ []) is_n ∙ sym (when_accepted refusal (sheet_layers bytes ∷ []) [] e));
        map_is = m ∙ sym (when_accepted refusal (sheet_map bytes ++ drop (sheet_places bytes) map) map e);
        coefs_are = c ∙ sym (when_accepted refusal (sheet_coefs bytes ++ drop (sheet_kernels bytes) coefs) coefs e);
        code = is_code;
        map_room = map_room;
        coefs_room = coefs_room;
      }

-- ---- the numbers that a sheet can be refused by, where the buffers have room for every code
abbrev left : List ℕ
left = 1 ∷ 4 ∷ 5 ∷ 6 ∷ 12 ∷ []

-- the refusal is 0 or one of these
pub sheet_numbered : (bytes map coefs : List ℕ) → 256 ≤ length map → 1024 ≤ length coefs → OneOf (sheet_refusal bytes map coefs) (0 ∷ left)
unfolding sheet_refusal
sheet_numbered bytes map coefs room space = go (ℕ_discrete (refusal_of (form_table bytes)) 0)
  where
    go : Dec (refusal_of (form_table bytes) ≡ 0) → OneOf (sheet_refusal bytes map coefs) (0 ∷ left)
    go (no h) =
        subst (λ (k : ℕ). OneOf k (0 ∷ left)) (first_refused (form_table bytes) (content_table bytes map coefs) refl h)
        (refusal_among left (form_table bytes) (inr tt, (inr tt, (inr tt, (inr tt, (inr tt, tt))))))
    go (yes z) =
        let few = (formed bytes z).layers.most in
        let size = pow_mono {i = sheet_layers bytes} {j = 8} few in
        let count = mul-le-mul_right (sheet_places bytes / 2) few in
        let map_fits = le-ltb (length map) (sheet_places bytes) (omega arith) in
        let coefs_fit = le-ltb (length coefs) (sheet_kernels bytes) (omega arith) in
        subst (λ (k : ℕ). OneOf k (0 ∷ left)) (first_accepted (form_table bytes) (content_table bytes map coefs) (form_numbered bytes) z refl)
        (refusal_among left (content_table bytes map coefs) (inl map_fits, (inl coefs_fit, (inr tt, (inr tt, (inr tt, tt))))))

-- ---- what a sheet that was read leaves: a code at the start of the two buffers
module _ {bytes map coefs m c : List ℕ} {n : ℕ} (read : SheetRead bytes map coefs m c (Ok n)) where
  -- the sheet was accepted
  pub accepted : sheet_refusal bytes map coefs ≡ 0
  unfolding sheet_answer
  accepted = sym (ap (λ (x : Returned). x.number) read.answer)

  -- n is what stands on its first line
  pub layers_are : n ≡ sheet_layers bytes
  unfolding sheet_answer
  layers_are =
      ap (λ (x : Returned). get_or x.values 0 0) read.answer
      ∙ ap (λ (xs : List ℕ). get_or xs 0 0) (when_accepted (sheet_refusal bytes map coefs) (sheet_layers bytes ∷ []) [] accepted)

  -- the buffers hold its numbers, and after them what was there
  map_after : m ≡ sheet_map bytes ++ drop (sheet_places bytes) map
  unfolding map_read
  map_after = read.map_is ∙ when_accepted (sheet_refusal bytes map coefs) (sheet_map bytes ++ drop (sheet_places bytes) map) map accepted

  coefs_after : c ≡ sheet_coefs bytes ++ drop (sheet_kernels bytes) coefs
  unfolding coefs_read
  coefs_after = read.coefs_are ∙ when_accepted (sheet_refusal bytes map coefs) (sheet_coefs bytes ++ drop (sheet_kernels bytes) coefs) coefs accepted

  pub map_front : take (2 ^ n) m ≡ sheet_map bytes
  map_front =
      ap₂ (λ (k : ℕ) (xs : List ℕ). take (2 ^ k) xs) layers_are map_after
      ∙ take_at (sheet_map bytes) (drop (sheet_places bytes) map) (sheet_places bytes) (read.code accepted).map_long

  pub coefs_front : take (n * (2 ^ n / 2)) c ≡ sheet_coefs bytes
  coefs_front =
      ap₂ (λ (k : ℕ) (xs : List ℕ). take (k * (2 ^ k / 2)) xs) layers_are coefs_after
      ∙ take_at (sheet_coefs bytes) (drop (sheet_kernels bytes) coefs) (sheet_kernels bytes) (read.code accepted).coefs_long

  -- so the first N and n × N/2 bytes are a code
  pub code_read : IsCode (code_of n (take (2 ^ n) m) (take (n * (2 ^ n / 2)) c))
  code_read =
      subst (λ (xs : List ℕ). IsCode (code_of n xs (take (n * (2 ^ n / 2)) c))) (sym map_front)
      (subst (λ (xs : List ℕ). IsCode (code_of n (sheet_map bytes) xs)) (sym coefs_front)
      (subst (λ (k : ℕ). IsCode (code_of k (sheet_map bytes) (sheet_coefs bytes))) (sym layers_are) (read.code accepted)))

  -- and they are there
  pub map_there : 2 ^ n ≤ length m
  map_there =
      let long = ap length map_after ∙ length-append (sheet_map bytes) (drop (sheet_places bytes) map) in
      let size = (read.code accepted).map_long in
      let same = ap (λ (k : ℕ). 2 ^ k) layers_are in
      omega arith

  pub coefs_there : n * (2 ^ n / 2) ≤ length c
  coefs_there =
      let long = ap length coefs_after ∙ length-append (sheet_coefs bytes) (drop (sheet_kernels bytes) coefs) in
      let size = (read.code accepted).coefs_long in
      let same = ap (λ (k : ℕ). k * (2 ^ k / 2)) layers_are in
      omega arith

-- the number that a sheet is refused by, from the answer
pub number_read : {bytes map coefs m c : List ℕ} {r : Result ℕ Refusal} → SheetRead bytes map coefs m c r → (returned r).number ≡ sheet_refusal bytes map coefs
unfolding sheet_answer
number_read read = ap (λ (x : Returned). x.number) read.answer

-- ---- so many bytes of a sheet get the verdict that the whole sheet gets: one more than the longest sheet has, which is
-- 5 × (1 + 256 + 1,024)
abbrev pub enough : ℕ
enough = 6406

module _ (bytes : List ℕ) where
  -- they have the same first line
  same_line : part 5 0 (take enough bytes) ≡ part 5 0 bytes
  unfolding part
  same_line = take-take 5 enough bytes (lit≤ tt)

  same_n : sheet_layers (take enough bytes) ≡ sheet_layers bytes
  unfolding number_on
  same_n = ap (λ (xs : List ℕ). spelled (take 4 xs)) same_line

  same_first : bad_line 0 (take enough bytes) ≡ bad_line 0 bytes
  unfolding bad_line
  same_first = ap (λ (xs : List ℕ). not (is_line 4 1 xs)) same_line

  -- no sheet of more than 6,405 bytes has the right length
  too_long : Within 1 8 (sheet_layers bytes) → (long : ℕ) → enough ≤ long → long ≡ 5 * sheet_lines bytes → ⊥
  too_long w long l e =
      let few = w.most in
      let size = pow_mono {i = sheet_layers bytes} {j = 8} few in
      let count = mul-le-mul_right (sheet_places bytes / 2) few in
      absurd (omega arith)

  module _ (map coefs : List ℕ) where
    -- a longer sheet
    cut : enough ≤ length bytes → sheet_refusal (take enough bytes) map coefs ≡ sheet_refusal bytes map coefs
    unfolding sheet_refusal
    cut l = first (bad_line 0 bytes) refl
      where
        long : length (take enough bytes) ≡ enough
        long = length-take-le enough bytes l

        -- both tables go on past the first row, and past the second where it does not fit
        there : ltb (length bytes) 5 ≡ false
        there = le-ltb (length bytes) 5 (omega arith)

        cut_there : ltb (length (take enough bytes)) 5 ≡ false
        cut_there = le-ltb (length (take enough bytes)) 5 (let e = long in omega arith)

        line : bad_line 0 bytes ≡ false → refusal_of (sheet_table bytes map coefs) ≡ refusal_of (drop 2 (sheet_table bytes map coefs))
        line b = row_passed 12 _ there ∙ row_passed 12 _ b

        cut_line : bad_line 0 bytes ≡ false
            → refusal_of (sheet_table (take enough bytes) map coefs) ≡ refusal_of (drop 2 (sheet_table (take enough bytes) map coefs))
        cut_line b = row_passed 12 _ cut_there ∙ row_passed 12 _ (same_first ∙ b)

        -- and end at the same row
        layers : bad_line 0 bytes ≡ false → (t : Bool) → outside 1 8 (sheet_layers bytes) ≡ t
            → refusal_of (sheet_table (take enough bytes) map coefs) ≡ refusal_of (sheet_table bytes map coefs)
        layers b true q = cut_line b ∙ row_fits 1 _ (ap (outside 1 8) same_n ∙ q) ∙ sym (line b ∙ row_fits 1 _ q)
        layers b false q =
            let w = inside_within 1 8 (sheet_layers bytes) q in
            let short : (length (take enough bytes) ≡ 5 * sheet_lines (take enough bytes)) → ⊥ = λ e.
            too_long w (length (take enough bytes)) (let cut-long = long in omega arith) (e ∙ ap (λ (n : ℕ). 5 * (1 + 2 ^ n + n * (2 ^ n / 2))) same_n) in
            cut_line b ∙ row_passed 1 _ (ap (outside 1 8) same_n ∙ q) ∙ row_fits 12 _ (unequal_true _ _ short)
            ∙ sym (line b ∙ row_passed 1 _ q ∙ row_fits 12 _ (unequal_true _ _ (too_long w (length bytes) l)))

        first : (t : Bool) → bad_line 0 bytes ≡ t → refusal_of (sheet_table (take enough bytes) map coefs) ≡ refusal_of (sheet_table bytes map coefs)
        first true b = row_passed 12 _ cut_there ∙ row_fits 12 _ (same_first ∙ b) ∙ sym (row_passed 12 _ there ∙ row_fits 12 _ b)
        first false b = layers b (outside 1 8 (sheet_layers bytes)) refl

    pub start_decides : sheet_refusal (take enough bytes) map coefs ≡ sheet_refusal bytes map coefs
    start_decides = go (dec_lt (length bytes) enough)
      where
        go : Dec (length bytes < enough) → sheet_refusal (take enough bytes) map coefs ≡ sheet_refusal bytes map coefs
        go (yes l) = ap (λ (xs : List ℕ). sheet_refusal xs map coefs) (take_all enough bytes (omega arith))
        go (no h) = cut (omega arith)
