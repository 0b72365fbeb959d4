-- The laws of a line of numbers in columns, by its parts.
use mathlib.Core.Path.{◌≡◌, refl, sym, ap, ap₂, ◌∙◌}
use mathlib.Core.Bool.{Bool, true, false}
use mathlib.Core.List.{List, [], ◌∷◌, ◌++◌, append_assoc}
use Prim.Native.Nat.{ℕ, zero, suc, ◌+◌, ◌-◌, ◌*◌, ◌^◌, ◌<◌}
use native.Mathlib.Nat.{mul-zero, mul-suc, le_of_suc-le-suc, not-suc-le-zero}
use native.Mathlib.Omega.{arith}
use borrow.Author.Tests.{eqb-true, eqb-false}
use lib.Dec.{eqb}
use lib.ListN.{length, get_or, take, drop, take-append-drop, drop_of_length-le}
use lib.Seq.{take_at, drop_at, drop-drop, drop-cons, get_or-drop}
use Rattle.std.proofs.lemmas.Grind.{common_steps}
use Rattle.vector.specs.Vector.{tabulate}
use Rattle.vector.proofs.Laws.{length_tabulate, tabulate_by, tabulate_ext}
use Rattle.columns.specs.Columns.{field, fields, line}
use Rattle.columns.specs.Reading.{spelled, same, is_field, part, numbers, is_line}
use Rattle.columns.proofs.ColumnLaws.{length_field, field_spelled, same_refl, same_true, accepted_written}

-- a test that can't hold does not
pub refuted : (t : Bool) → (t ≡ true → ⊥) → t ≡ false
refuted t h = grind (arith, h)

-- ---- numbers in w columns each, one after the other, and something after them
module _ (w : ℕ) where
  -- part 0 is the start
  part_zero : (bytes : List ℕ) → part w 0 bytes ≡ take w bytes
  unfolding part
  part_zero bytes = simp mul-zero

  -- the parts after part 0
  part_suc : (i : ℕ) (bytes : List ℕ) → part w (suc i) bytes ≡ part w i (drop w bytes)
  unfolding part
  part_suc i bytes = grind (arith, common_steps, mul-suc w i)

  -- part i as it is lent: from where it starts to where the next one does
  pub lent_part : (i : ℕ) (bytes : List ℕ) → take (w * i + w - w * i) (drop (w * i) bytes) ≡ part w i bytes
  unfolding part
  lent_part i bytes = grind arith

  -- how long they are
  length_fields : (vs : List ℕ) → length (fields w vs) ≡ w * length vs
  unfolding fields
  length_fields [] = sym (mul-zero w)
  length_fields (v ∷ vs) = grind (arith, common_steps, length_field w v, length_fields vs, mul-suc w (length vs))

  -- part i is number i
  parts_of : (k : ℕ) (f : ℕ → ℕ) (tail : List ℕ) (i : ℕ) → i < k → part w i (fields w (tabulate k f) ++ tail) ≡ field w (f i)
  unfolding fields tabulate
  parts_of zero f tail i l = absurd (not-suc-le-zero l)
  parts_of (suc k) f tail zero l =
      let rest = fields w (tabulate k (λ j. f (suc j))) in
      part_zero ((field w (f 0) ++ rest) ++ tail)
      ∙ ap (take w) (append_assoc (field w (f 0)) rest tail) ∙ take_at (field w (f 0)) (rest ++ tail) w (length_field w (f 0))
  parts_of (suc k) f tail (suc i) l =
      let rest = fields w (tabulate k (λ j. f (suc j))) in
      part_suc i ((field w (f 0) ++ rest) ++ tail)
      ∙ ap (λ (xs : List ℕ). part w i (drop w xs)) (append_assoc (field w (f 0)) rest tail)
      ∙ ap (part w i) (drop_at (field w (f 0)) (rest ++ tail) w (length_field w (f 0)))
      ∙ parts_of k (λ j. f (suc j)) tail i (le_of_suc-le-suc l)

  -- and the other way round: bytes whose parts are these numbers, with what comes after them
  whole : (k : ℕ) (f : ℕ → ℕ) (bytes tail : List ℕ) → ((i : ℕ) → i < k → part w i bytes ≡ field w (f i)) → drop (w * k) bytes ≡ tail
      → bytes ≡ fields w (tabulate k f) ++ tail
  unfolding fields tabulate
  whole zero f bytes tail h e = ap (λ (j : ℕ). drop j bytes) (sym (mul-zero w)) ∙ e
  whole (suc k) f bytes tail h e =
      let rest = fields w (tabulate k (λ j. f (suc j))) in
      let at : w * suc k ≡ w + w * k = (let q = mul-suc w k in omega arith) in
      sym (take-append-drop w bytes)
      ∙ ap₂ (λ (xs ys : List ℕ). xs ++ ys)
      (sym (part_zero bytes) ∙ h 0 (omega arith))
      (whole k (λ j. f (suc j)) (drop w bytes) tail (λ i l. sym (part_suc i bytes) ∙ h (suc i) (omega arith))
      (drop-drop (w * k) w bytes ∙ ap (λ (j : ℕ). drop j bytes) (sym at) ∙ e))
      ∙ sym (append_assoc (field w (f 0)) rest tail)

-- ---- a line that is accepted
module _ (w k : ℕ) (bytes : List ℕ) where
  -- the number that field i spells
  abbrev at : ℕ → ℕ
  at i = spelled (part w i bytes)

  -- the bytes without the line feed, as they are written
  abbrev written : List ℕ
  written = fields w (tabulate k at)

  module _ (e : is_line w k bytes ≡ true) where
    -- it is what is written for the numbers that it spells
    pub line_written : bytes ≡ line w (numbers w k bytes)
    unfolding is_line
    line_written = same_true bytes (line w (numbers w k bytes)) e

    apart : bytes ≡ written ++ 10 ∷ []
    unfolding line numbers
    apart = line_written

    -- its length
    pub line_long : length bytes ≡ w * k + 1
    line_long = grind (arith, common_steps, apart, length_fields w (tabulate k at), length_tabulate k at)

    -- each part of w bytes is a number in w columns
    pub line_field : (i : ℕ) → i < k → is_field w (part w i bytes) ≡ true
    unfolding is_field
    line_field i l =
        let q = ap (part w i) apart ∙ parts_of w k at (10 ∷ []) i l in
        ap (λ (xs : List ℕ). same xs (field w (at i))) q ∙ same_refl (field w (at i))

    -- of at most w digits
    pub line_small : (i : ℕ) → i < k → at i < 10 ^ w
    line_small i l = (accepted_written w (part w i bytes) (line_field i l)).1

    -- and after them is a line feed
    pub line_end : get_or bytes (w * k) 0 ≡ 10
    line_end =
        let a = length_fields w (tabulate k at) ∙ ap (λ (j : ℕ). w * j) (length_tabulate k at) in
        let d = ap (drop (w * k)) apart ∙ drop_at written (10 ∷ []) (w * k) a in
        ap (λ (j : ℕ). get_or bytes j 0) (let z : w * k ≡ w * k + 0 = omega arith in z) ∙ sym (get_or-drop (w * k) bytes 0 0) ∙ ap (λ (xs : List ℕ). get_or xs 0 0) d

  -- bytes of that length whose parts are numbers, with a line feed after them, are such a line
  pub of_line_form : ((i : ℕ) → i < k → is_field w (part w i bytes) ≡ true) → length bytes ≡ w * k + 1 → get_or bytes (w * k) 0 ≡ 10 → is_line w k bytes ≡ true
  unfolding is_line line numbers
  of_line_form h long end =
      let rest = drop-cons bytes (w * k) 0 (omega arith) ∙ ap₂ (λ (x : ℕ) (xs : List ℕ). x ∷ xs) end (drop_of_length-le bytes {i = suc (w * k)} (omega arith)) in
      let q = whole w k at bytes (10 ∷ []) (λ i l. (accepted_written w (part w i bytes) (h i l)).0) rest in
      ap (λ (xs : List ℕ). same xs (written ++ 10 ∷ [])) q ∙ same_refl (written ++ 10 ∷ [])

  -- so, where each part is a number and the length is right, the last byte decides
  pub last_decides : ((i : ℕ) → i < k → is_field w (part w i bytes) ≡ true) → length bytes ≡ w * k + 1 → is_line w k bytes ≡ eqb (get_or bytes (w * k) 0) 10
  last_decides h long = go (eqb (get_or bytes (w * k) 0) 10) refl
    where
      go : (t : Bool) → eqb (get_or bytes (w * k) 0) 10 ≡ t → is_line w k bytes ≡ t
      go true q = of_line_form h long (eqb-true (get_or bytes (w * k) 0) 10 q)
      go false q = refuted (is_line w k bytes) (λ e. eqb-false (get_or bytes (w * k) 0) 10 q (line_end e))

-- ---- a line that is written
module _ (w : ℕ) (vs : List ℕ) (small : (i : ℕ) → i < length vs → get_or vs i 0 < 10 ^ w) where
  -- the numbers as a tabulated list
  listed : vs ≡ tabulate (length vs) (λ i. get_or vs i 0)
  listed = tabulate_by 0 (length vs) (λ i. get_or vs i 0) vs refl (λ i l. refl)

  -- reading gives them back
  pub numbers_written : numbers w (length vs) (line w vs) ≡ vs
  unfolding numbers line
  numbers_written =
      tabulate_ext (length vs) _ (λ i. get_or vs i 0) (λ i l.
      ap (λ (xs : List ℕ). spelled (part w i (fields w xs ++ 10 ∷ []))) listed
      ∙ ap spelled (parts_of w (length vs) (λ j. get_or vs j 0) (10 ∷ []) i l) ∙ field_spelled w (get_or vs i 0) (small i l))
      ∙ sym listed

  -- and it is accepted
  pub line_accepted : is_line w (length vs) (line w vs) ≡ true
  unfolding is_line
  line_accepted = ap (λ (xs : List ℕ). same (line w vs) (line w xs)) numbers_written ∙ same_refl (line w vs)
