-- A line as it is written, one number after the other.
use mathlib.Core.Path.{◌≡◌, refl, sym, ap, ap₂, ◌∙◌}
use mathlib.Core.List.{List, [], ◌∷◌, ◌++◌, append-nil, append_assoc}
use Prim.Native.Nat.{ℕ, ◌+◌, ◌-◌, ◌*◌, ◌<◌, ◌≤◌}
use native.Mathlib.Omega.{arith}
use borrow.Rule.Slice.PartMut.{mid_of, put_mid}
use lib.ListN.{length, get_or, set, take, drop, length-drop}
use lib.Seq.{length-take-le}
use Rattle.std.proofs.lemmas.Slice.{take-put_mid}
use Rattle.std.proofs.lemmas.List.{take_all, take_more}
use Rattle.columns.specs.Columns.{field, fields, line}
use Rattle.columns.proofs.ColumnLaws.{length_field}
use Rattle.columns.proofs.LinesLaws.{feed_put}

module _ (w : ℕ) where
  -- numbers after others
  fields_append : (us vs : List ℕ) → fields w (us ++ vs) ≡ fields w us ++ fields w vs
  unfolding fields
  fields_append [] vs = refl
  fields_append (u ∷ us) vs =
      ap (λ (xs : List ℕ). field w u ++ xs) (fields_append us vs)
      ∙ sym (append_assoc (field w u) (fields w us) (fields w vs))

  -- one number more
  fields_more : (i : ℕ) (vs : List ℕ) → i < length vs → fields w (take (i + 1) vs) ≡ fields w (take i vs) ++ field w (get_or vs i 0)
  unfolding fields
  fields_more i vs l =
      ap (fields w) (take_more vs i 0 l)
      ∙ fields_append (take i vs) (get_or vs i 0 ∷ [])
      ∙ ap (λ (xs : List ℕ). fields w (take i vs) ++ xs) (append-nil (field w (get_or vs i 0)))

  module _ (vs out : List ℕ) (long : length out ≡ w * length vs + 1) where
    -- the columns of number i are written
    pub number_written : (i : ℕ) (columns : List ℕ) → i < length vs → w * i + w ≤ length out
        → columns ≡ field (length (mid_of (w * i) (w * i + w - w * i) out)) (get_or vs i 0) → take (w * i) out ≡ fields w (take i vs)
        → take (w * (i + 1)) (put_mid (w * i) (w * i + w - w * i) out columns) ≡ fields w (take (i + 1) vs)
    number_written i columns l room e before =
        let gap : w * i + w - w * i ≡ w = omega arith in
        let left = length-drop (w * i) out in
        let size : length (mid_of (w * i) (w * i + w - w * i) out) ≡ w =
        length-take-le (w * i + w - w * i) (drop (w * i) out) (omega arith) ∙ gap in
        let written : columns ≡ field w (get_or vs i 0) = e ∙ ap (λ (k : ℕ). field k (get_or vs i 0)) size in
        let count : length columns ≡ w = ap length written ∙ length_field w (get_or vs i 0) in
        take-put_mid (w * i) (w * i + w - w * i) out columns (w * (i + 1)) (omega arith) (omega arith)
        ∙ ap₂ (λ (xs ys : List ℕ). xs ++ ys) before written ∙ sym (fields_more i vs l)

    -- the line feed is put after the last number
    pub feed_written : take (w * length vs) out ≡ fields w (take (length vs) vs) → set out (w * length vs) 10 ≡ line w vs
    unfolding line
    feed_written e = feed_put (w * length vs) out (fields w vs) long (e ∙ ap (fields w) (take_all (length vs) vs (omega arith)))

-- what writes a line
pub ruleset writes = (number_written, feed_written)
