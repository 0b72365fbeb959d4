-- The laws of a refusal table: a refusal is the number of the first row that fits, and a call is accepted exactly when no row does.
use mathlib.Core.Path.{◌≡◌, refl, sym, ap, ◌∙◌}
use mathlib.Core.Bool.{Bool, true, false, cond, ◌&&◌}
use mathlib.Core.List.{List, [], ◌∷◌, ◌++◌}
use Prim.Native.Nat.{ℕ}
use native.Mathlib.Omega.{arith}
use borrow.Author.Tests.{eq-eqb, ltb-true, ne_eqb}
use lib.Dec.{T, eqb, ltb}
use Rattle.refusal.specs.Table.{Row, refusal_of, NoneFits, Numbered}

-- a row that fits: its number is the refusal
pub row_fits : (k : ℕ) {t : Bool} (rs : List Row) → t ≡ true → refusal_of ((k, t) ∷ rs) ≡ k
unfolding refusal_of
row_fits k rs e = ap (λ (b : Bool). cond b k (refusal_of rs)) e

-- one that does not: the rows after it decide
pub row_passed : (k : ℕ) {t : Bool} (rs : List Row) → t ≡ false → refusal_of ((k, t) ∷ rs) ≡ refusal_of rs
unfolding refusal_of
row_passed k rs e = ap (λ (b : Bool). cond b k (refusal_of rs)) e

-- no test fits: accepted
pub none_accepted : (rs : List Row) → NoneFits rs → refusal_of rs ≡ 0
unfolding refusal_of
none_accepted [] h = refl
none_accepted (r ∷ rs) h = row_passed r.0 rs h.0 ∙ none_accepted rs h.1

-- accepted: no test fits
pub accepted_none : (rs : List Row) → Numbered rs → refusal_of rs ≡ 0 → NoneFits rs
accepted_none [] p e = tt
accepted_none (r ∷ rs) p e = go r.1 refl (accepted_none rs p.1)
  where
    go : (b : Bool) → r.1 ≡ b → (refusal_of rs ≡ 0 → NoneFits rs) → NoneFits (r ∷ rs)
    go true q rest = absurd (let l = p.0 in let z = sym (row_fits r.0 rs q) ∙ e in omega arith)
    go false q rest = (q, rest (sym (row_passed r.0 rs q) ∙ e))

-- a table in two parts: where no row of the first part fits, the second part decides
pub none_first : (rs ss : List Row) → NoneFits rs → refusal_of (rs ++ ss) ≡ refusal_of ss
none_first [] ss h = refl
none_first (r ∷ rs) ss h = row_passed r.0 (rs ++ ss) h.0 ∙ none_first rs ss h.1

-- so its refusal is the whole table's
pub first_accepted : (rs ss : List Row) {r : ℕ} → Numbered rs → refusal_of rs ≡ 0 → r ≡ refusal_of ss → r ≡ refusal_of (rs ++ ss)
first_accepted rs ss p e f = f ∙ sym (none_first rs ss (accepted_none rs p e))

-- and where the first part refuses, its refusal is
pub first_refused : (rs ss : List Row) {r : ℕ} → r ≡ refusal_of rs → (r ≡ 0 → ⊥) → r ≡ refusal_of (rs ++ ss)
unfolding refusal_of
first_refused [] ss e h = absurd (h e)
first_refused (t ∷ rs) ss {r} e h = go t.1 refl (λ q. first_refused rs ss q h)
  where
    go : (b : Bool) → t.1 ≡ b → (r ≡ refusal_of rs → r ≡ refusal_of (rs ++ ss)) → r ≡ refusal_of (t ∷ (rs ++ ss))
    go true q rest = e ∙ row_fits t.0 rs q ∙ sym (row_fits t.0 (rs ++ ss) q)
    go false q rest = rest (e ∙ row_passed t.0 rs q) ∙ sym (row_passed t.0 (rs ++ ss) q)

-- no row of either part fits: the whole table accepts it
pub both_accepted : (rs ss : List Row) → NoneFits rs → NoneFits ss → refusal_of (rs ++ ss) ≡ 0
both_accepted rs ss a b = none_first rs ss a ∙ none_accepted ss b

-- the whole table accepts it: no row of either part fits
pub accepted_both : (rs ss : List Row) → Numbered rs → Numbered ss → refusal_of (rs ++ ss) ≡ 0 → NoneFits rs × NoneFits ss
accepted_both rs ss p q e = parts rs (accepted_none (rs ++ ss) (numbered rs p) e)
  where
    numbered : (ts : List Row) → Numbered ts → Numbered (ts ++ ss)
    numbered [] n = q
    numbered (t ∷ ts) n = (n.0, numbered ts n.1)

    parts : (ts : List Row) → NoneFits (ts ++ ss) → NoneFits ts × NoneFits ss
    parts [] h = (tt, h)
    parts (t ∷ ts) h = let r = parts ts h.1 in ((h.0, r.0), r.1)

-- what a call leaves, by its answer r
module _ {A : Type 0} (r : ℕ) (made kept : A) where
  -- accepted: what it made
  pub when_accepted : r ≡ 0 → cond (eqb r 0) made kept ≡ made
  when_accepted e = ap (λ (t : Bool). cond t made kept) (eq-eqb r 0 e)

  -- refused: as it came
  pub when_refused : (r ≡ 0 → ⊥) → cond (eqb r 0) made kept ≡ kept
  when_refused h = ap (λ (t : Bool). cond t made kept) (ne_eqb r 0 h)

-- no row has the number 0: a test, which computes for a table that is written out
abbrev pub numberedb : List Row → Bool
numberedb [] = true
numberedb (r ∷ rs) = ltb 0 r.0 && numberedb rs

-- what the test says
pub numbered : (rs : List Row) → T (numberedb rs) → Numbered rs
numbered [] h = tt
numbered (r ∷ rs) h = go (ltb 0 r.0) refl h (numbered rs)
  where
    go : (b : Bool) → ltb 0 r.0 ≡ b → T (b && numberedb rs) → (T (numberedb rs) → Numbered rs) → Numbered (r ∷ rs)
    go true q t rest = (ltb-true 0 r.0 q, rest t)
    go false q t rest = absurd t

-- rows that say the same where no row before them fits
pub same_after : (rs ss ts : List Row) → (NoneFits rs → refusal_of ss ≡ refusal_of ts) → refusal_of (rs ++ ss) ≡ refusal_of (rs ++ ts)
unfolding refusal_of
same_after [] ss ts h = h tt
same_after (r ∷ rs) ss ts h = go r.1 refl (λ q. same_after rs ss ts (λ n. h (q, n)))
  where
    go : (t : Bool) → r.1 ≡ t → (r.1 ≡ false → refusal_of (rs ++ ss) ≡ refusal_of (rs ++ ts))
        → cond r.1 r.0 (refusal_of (rs ++ ss)) ≡ cond r.1 r.0 (refusal_of (rs ++ ts))
    go true q rest = rw q
    go false q rest = ap (cond r.1 r.0) (rest q)
