-- A list of which a part is lent, from place h on to its end; and a list in two parts, each lent and written.
use mathlib.Core.Path.{◌≡◌, ap, ap₂, ◌∙◌}
use mathlib.Core.List.{List, ◌++◌, append-nil}
use Prim.Native.Nat.{ℕ, ◌+◌, ◌-◌, ◌≤◌}
use native.Mathlib.Nat.{le_of_eq}
use native.Mathlib.Omega.{arith}
use lib.ListN.{length, take, drop, length-append, length-drop, drop_of_length-le}
use lib.Seq.{take_all, take_at, drop_at, length-take-le}

-- the part that is lent, as the borrow checker has it
abbrev pub tail : ℕ → List ℕ → List ℕ
tail h xs = take (length xs - h) (drop h xs)

-- the whole when the part has come back as ys
abbrev pub put : ℕ → List ℕ → List ℕ → List ℕ
put h xs ys = take h xs ++ (ys ++ drop (length xs - h) (drop h xs))

-- the part lent is all from place h on
pub tail_drop : (h : ℕ) (xs : List ℕ) → tail h xs ≡ drop h xs
tail_drop h xs = take_all (length xs - h) (drop h xs) (le_of_eq (length-drop h xs))

-- the whole is what was kept and then the part
put_append : (h : ℕ) (xs ys : List ℕ) → put h xs ys ≡ take h xs ++ ys
put_append h xs ys =
    ap (λ (l : List ℕ). take h xs ++ l)
    (ap (λ (l : List ℕ). ys ++ l) (drop_of_length-le (drop h xs) (le_of_eq (length-drop h xs))) ∙ append-nil ys)

-- the part has come back: from place h on the whole is that
pub put_drop : (h : ℕ) (xs ys : List ℕ) → h ≤ length xs → drop h (put h xs ys) ≡ ys
put_drop h xs ys l = ap (drop h) (put_append h xs ys) ∙ drop_at (take h xs) ys h (length-take-le h xs l)

-- and it keeps its length
pub put_long : (h : ℕ) (xs ys : List ℕ) → h ≤ length xs → length ys ≡ length (tail h xs) → length (put h xs ys) ≡ length xs
put_long h xs ys l e =
    let d = e ∙ ap length (tail_drop h xs) ∙ length-drop h xs in
    let t = length-take-le h xs l in
    ap length (put_append h xs ys) ∙ length-append (take h xs) ys ∙ omega arith

module _ (h : ℕ) (word a : List ℕ) (la : length a ≡ length (take h word)) (l : h ≤ length word) where
  -- the first half is as long as the place where the second begins
  pub front_long : length a ≡ h
  front_long = la ∙ length-take-le h word l

  -- the whole keeps its length when the first half is back
  pub lent_long : length (a ++ drop h word) ≡ length word
  lent_long = let e = front_long in length-append a (drop h word) ∙ ap₂ (λ (x y : ℕ). x + y) front_long (length-drop h word) ∙ omega arith

  -- the first half written, the second half is what it was
  pub lent_tail : tail h (a ++ drop h word) ≡ drop h word
  lent_tail = tail_drop h (a ++ drop h word) ∙ drop_at a (drop h word) h front_long

  -- both halves written
  pub lent_both : (b : List ℕ) → put h (a ++ drop h word) b ≡ a ++ b
  lent_both b = put_append h (a ++ drop h word) b ∙ ap (λ (x : List ℕ). x ++ b) (take_at a (drop h word) h front_long)

  -- and when the second is
  pub lent_whole : (b : List ℕ) → length b ≡ length (tail h (a ++ drop h word)) → length (put h (a ++ drop h word) b) ≡ length word
  lent_whole b lb =
      let e = front_long in
      let f = lb ∙ ap length lent_tail ∙ length-drop h word in
      ap length (lent_both b) ∙ length-append a b ∙ omega arith
