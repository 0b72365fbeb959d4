-- Which numbers a table can give: those of the rows that may fit.
use mathlib.Core.Path.{◌≡◌, refl, sym, ap, subst}
use mathlib.Core.Logic.{◌⊎◌, inl, inr}
use mathlib.Core.Bool.{Bool, true, false, cond, ◌||◌, ◌&&◌}
use mathlib.Core.List.{List, [], ◌∷◌}
use Prim.Native.Nat.{ℕ}
use native.Mathlib.Omega.{arith}
use borrow.Author.Tests.{eqb-true, eqb-false}
use lib.Dec.{T, eqb}
use Rattle.refusal.specs.Table.{Row, refusal_of, OneOf}

-- the number is one of these: a test, which computes for numbers that are written out
abbrev pub memberb : ℕ → List ℕ → Bool
memberb r [] = false
memberb r (k ∷ ks) = eqb r k || memberb r ks

-- each row does not fit, or has one of these numbers
abbrev pub Among : List ℕ → List Row → Type 0
Among ks [] = Unit {0}
Among ks (r ∷ rs) = ((r.1 ≡ false) ⊎ T (memberb r.0 ks)) × Among ks rs

-- what the test says
member : (r : ℕ) (ks : List ℕ) → T (memberb r ks) → OneOf r ks
member r [] h = h
member r (k ∷ ks) h = go (eqb r k) refl h (member r ks)
  where
    go : (t : Bool) → eqb r k ≡ t → T (t || memberb r ks) → (T (memberb r ks) → OneOf r ks) → (r ≡ k) ⊎ OneOf r ks
    go true q m ih = inl (eqb-true r k q)
    go false q m ih = inr (ih m)

-- so the refusal is 0 or one of these numbers
pub refusal_among : (ks : List ℕ) (rs : List Row) → Among ks rs → OneOf (refusal_of rs) (0 ∷ ks)
unfolding refusal_of
refusal_among ks [] h = inl refl
refusal_among ks (r ∷ rs) h = go r.1 refl h.0 (refusal_among ks rs h.1)
  where
    go : (t : Bool) → r.1 ≡ t → (r.1 ≡ false) ⊎ T (memberb r.0 ks) → OneOf (refusal_of rs) (0 ∷ ks)
        → OneOf (cond r.1 r.0 (refusal_of rs)) (0 ∷ ks)
    go false q m ih = subst (λ (x : ℕ). OneOf x (0 ∷ ks)) (sym (ap (λ (t : Bool). cond t r.0 (refusal_of rs)) q)) ih
    go true q (inl e) ih = subst (λ (x : ℕ). OneOf x (0 ∷ ks)) (sym (ap (λ (t : Bool). cond t r.0 (refusal_of rs)) e)) ih
    go true q (inr m) ih = inr (subst (λ (x : ℕ). OneOf x ks) (sym (ap (λ (t : Bool). cond t r.0 (refusal_of rs)) q)) (member r.0 ks m))

-- a number that is none of these is not among them
pub not_among : (r : ℕ) (ks : List ℕ) → memberb r ks ≡ false → OneOf r ks → ⊥
not_among r [] n h = h
not_among r (k ∷ ks) n h = go (eqb r k) refl n h (not_among r ks)
  where
    go : (t : Bool) → eqb r k ≡ t → t || memberb r ks ≡ false → (r ≡ k) ⊎ OneOf r ks → (memberb r ks ≡ false → OneOf r ks → ⊥) → ⊥
    go true q m o ih = absurd (let z : ◌≡◌ {A = ℕ} 0 1 = cc in omega arith)
    go false q m (inl e) ih = eqb-false r k q e
    go false q m (inr o) ih = ih m o

-- each of these numbers is one of those: a test, which computes
abbrev pub partb : List ℕ → List ℕ → Bool
partb [] ms = true
partb (k ∷ ks) ms = memberb k ms && partb ks ms

-- a number of a list is one of a list that has all its numbers
pub wider : (r : ℕ) (ks ms : List ℕ) → T (partb ks ms) → OneOf r ks → OneOf r ms
wider r [] ms h o = absurd o
wider r (k ∷ ks) ms h o = go (memberb k ms) refl h o (wider r ks ms)
  where
    go : (t : Bool) → memberb k ms ≡ t → T (t && partb ks ms) → (r ≡ k) ⊎ OneOf r ks → (T (partb ks ms) → OneOf r ks → OneOf r ms) → OneOf r ms
    go true q m (inl e) ih = subst (λ (x : ℕ). OneOf x ms) (sym e) (member k ms (subst T (sym q) tt))
    go true q m (inr p) ih = ih m p
    go false q m p ih = absurd m
