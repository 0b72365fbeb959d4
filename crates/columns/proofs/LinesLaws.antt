-- The laws of numbers in columns one after the other, by index: on one line, and each on a line of its own; and the
-- line feed that ends a line.
use mathlib.Core.Path.{◌≡◌, refl, sym, ap, ap₂, ◌∙◌}
use mathlib.Core.Bool.{true}
use mathlib.Core.List.{List, [], ◌∷◌, ◌++◌, append-nil, append_assoc}
use Prim.Native.Nat.{ℕ, zero, suc, ◌+◌, ◌*◌, ◌^◌, ◌<◌}
use native.Mathlib.Nat.{mul-zero}
use native.Mathlib.Omega.{arith}
use lib.ListN.{length, get_or, take, drop, set, drop_of_length-le}
use lib.Seq.{set_split}
use Rattle.vector.specs.Vector.{tabulate, joined}
use Rattle.vector.proofs.Laws.{length_tabulate, get_d_tabulate, length_joined, joined_part, joined_ext}
use Rattle.vector.proofs.JoinedLaws.{joined_each, joined_parts}
use Rattle.std.proofs.lemmas.Grind.{common_steps}
use Rattle.columns.specs.Columns.{field, fields, line, lines}
use Rattle.columns.specs.Reading.{spelled, part, numbers, is_line}
use Rattle.columns.proofs.ColumnLaws.{length_field, field_spelled}
use Rattle.columns.proofs.LineLaws.{line_written, line_accepted}

-- a line feed put in the last place of a buffer, after what stands there
pub feed_put : (k : ℕ) (out front : List ℕ) → length out ≡ k + 1 → take k out ≡ front → set out k 10 ≡ front ++ 10 ∷ []
feed_put k out front long e =
    set_split out k 10 (omega arith)
    ∙ ap₂ (λ (xs ys : List ℕ). xs ++ 10 ∷ ys) e (drop_of_length-le out {i = suc k} (omega arith))

module _ (w : ℕ) where
  -- the numbers of a line: number i is the i-th from the start
  pub fields_joined : (vs : List ℕ) → fields w vs ≡ joined (length vs) (λ i. field w (get_or vs i 0))
  unfolding fields
  fields_joined vs = joined_each (field w) (fields w) refl (λ v rest. refl) vs

  -- ---- one number on a line
  module _ (v : ℕ) where
    -- its columns, and a line feed
    pub one_number : line w (v ∷ []) ≡ field w v ++ 10 ∷ []
    unfolding line fields
    one_number = ap (λ (xs : List ℕ). xs ++ 10 ∷ []) (append-nil (field w v))

    -- how long the line is
    one_long : length (line w (v ∷ [])) ≡ w + 1
    one_long = grind (arith, common_steps, one_number, length_field w v)

    -- the number that its columns spell
    pub one_spelled : v < 10 ^ w → spelled (take w (line w (v ∷ []))) ≡ v
    one_spelled small = grind (arith, common_steps, one_number, length_field w v, field_spelled w v small)

    -- it is accepted as a line of one number
    pub one_accepted : v < 10 ^ w → is_line w 1 (line w (v ∷ [])) ≡ true
    one_accepted small = line_accepted w (v ∷ []) only
      where
        only : (i : ℕ) → i < 1 → get_or (v ∷ []) i 0 < 10 ^ w
        only zero l = small
        only (suc i) l = absurd (omega arith)

  -- a line of one number that is accepted is what is written for the number that it spells
  one_written : (bytes : List ℕ) → is_line w 1 bytes ≡ true → bytes ≡ line w (spelled (take w bytes) ∷ [])
  unfolding numbers tabulate part
  one_written bytes e =
      line_written w 1 bytes e
      ∙ ap (λ (j : ℕ). line w (spelled (take w (drop j bytes)) ∷ [])) (mul-zero w)

  -- ---- each on a line of its own

  -- line i is that of number i
  pub lines_joined : (vs : List ℕ) → lines w vs ≡ joined (length vs) (λ i. line w (get_or vs i 0 ∷ []))
  unfolding lines
  lines_joined vs = joined_each (λ v. line w (v ∷ [])) (lines w) refl (λ v rest. refl) vs

  -- how long they are
  pub length_lines : (vs : List ℕ) → length (lines w vs) ≡ (w + 1) * length vs
  length_lines vs =
      ap length (lines_joined vs)
      ∙ length_joined (w + 1) (λ i. line w (get_or vs i 0 ∷ [])) (length vs) (λ i l. one_long (get_or vs i 0))

  -- line i, cut from the whole
  pub line_at : (vs : List ℕ) (i : ℕ) → i < length vs → part (w + 1) i (lines w vs) ≡ line w (get_or vs i 0 ∷ [])
  unfolding part
  line_at vs i l =
      ap (λ (xs : List ℕ). take (w + 1) (drop ((w + 1) * i) xs)) (lines_joined vs)
      ∙ joined_part (w + 1) (λ j. line w (get_or vs j 0 ∷ [])) (length vs) (λ j m. one_long (get_or vs j 0)) i l

  -- numbers after others
  pub lines_append : (us vs : List ℕ) → lines w (us ++ vs) ≡ lines w us ++ lines w vs
  unfolding lines
  lines_append [] vs = refl
  lines_append (u ∷ us) vs =
      ap (λ (xs : List ℕ). line w (u ∷ []) ++ xs) (lines_append us vs)
      ∙ sym (append_assoc (line w (u ∷ [])) (lines w us) (lines w vs))

  -- and the other way round: bytes that are k such lines are what is written for the numbers that they spell
  pub lines_written : (k : ℕ) (bytes : List ℕ) → length bytes ≡ (w + 1) * k
      → ((i : ℕ) → i < k → is_line w 1 (part (w + 1) i bytes) ≡ true)
      → bytes ≡ lines w (tabulate k (λ i. spelled (take w (part (w + 1) i bytes))))
  unfolding part
  lines_written k bytes long h =
      let on : ℕ → ℕ = λ i. spelled (take w (part (w + 1) i bytes)) in
      let size = length_tabulate k on in
      joined_parts (w + 1) (λ i. line w (on i ∷ [])) bytes k long (λ i l. one_written (part (w + 1) i bytes) (h i l))
      ∙ joined_ext k (λ i. line w (on i ∷ [])) (λ i. line w (get_or (tabulate k on) i 0 ∷ []))
      (λ i l. ap (λ (v : ℕ). line w (v ∷ [])) (sym (get_d_tabulate 0 k on i l)))
      ∙ ap (λ (j : ℕ). joined j (λ i. line w (get_or (tabulate k on) i 0 ∷ []))) (sym size)
      ∙ sym (lines_joined (tabulate k on))
