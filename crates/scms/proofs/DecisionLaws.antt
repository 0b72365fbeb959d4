-- The laws of the decision: the smallest value whose penalty is least.
use mathlib.Core.Path.{◌≡◌, refl, sym, ap, ◌∙◌}
use mathlib.Core.Bool.{Bool, true, false, cond}
use mathlib.Core.Logic.{◌⊎◌, inl, inr}
use mathlib.Core.List.{List}
use Prim.Native.Nat.{ℕ, zero, suc, ◌≤◌, ◌<◌, suc-le-suc}
use native.Mathlib.Nat.{le_refl, le_trans, le_of_eq, le_of_lt, le_of_suc-le-suc, not-suc-le-zero, eq-or-lt_of_le}
use native.Mathlib.Decide.{dec_lt}
use native.Mathlib.Omega.{arith}
use borrow.Author.Tests.{lt-ltb, le-ltb}
use lib.Arith.{le-zero}
use lib.Dec.{eqb, lit<}
use lib.ListN.{get_or}
use Rattle.vector.specs.Vector.{HasZero, OnlyZero}
use Rattle.polar_code.specs.Code.{kind_of}
use Rattle.polar_code.specs.declared.kinds.Kind.{Kind}
use Rattle.polar_code.specs.declared.kinds.Kind.TheVariants.{Message as message, Frozen as frozen}
use Rattle.scms.specs.Decision.{smallest_to, smallest, decision}

-- the smallest so far, and one value more: it stays where the next number is not below
pub smallest_keeps : (k : ℕ) (f : ℕ → ℕ) → f (smallest_to k f) ≤ f (suc k) → smallest_to (suc k) f ≡ smallest_to k f
unfolding smallest_to
smallest_keeps k f l = ap (λ (t : Bool). cond t (suc k) (smallest_to k f)) (le-ltb (f (suc k)) (f (smallest_to k f)) l)

-- and the next value is taken where it is
pub smallest_takes : (k : ℕ) (f : ℕ → ℕ) → f (suc k) < f (smallest_to k f) → smallest_to (suc k) f ≡ suc k
unfolding smallest_to
smallest_takes k f l = ap (λ (t : Bool). cond t (suc k) (smallest_to k f)) (lt-ltb (f (suc k)) (f (smallest_to k f)) l)

-- one of the two is so
abbrev Next : ℕ → (ℕ → ℕ) → Type 0
Next k f = ((f (suc k) < f (smallest_to k f)) × (smallest_to (suc k) f ≡ suc k)) ⊎ ((f (smallest_to k f) ≤ f (suc k)) × (smallest_to (suc k) f ≡ smallest_to k f))

-- by comparing the two numbers
smallest_next : (k : ℕ) (f : ℕ → ℕ) → Next k f
smallest_next k f = go (dec_lt (f (suc k)) (f (smallest_to k f)))
  where
    go : Dec (f (suc k) < f (smallest_to k f)) → Next k f
    go (yes l) = inl (l, smallest_takes k f l)
    go (no h) = let l : f (smallest_to k f) ≤ f (suc k) = omega arith in inr (l, smallest_keeps k f l)

-- it is one of the values
smallest_to_le : (k : ℕ) (f : ℕ → ℕ) → smallest_to k f ≤ k
unfolding smallest_to
smallest_to_le zero f = le_refl 0
smallest_to_le (suc k) f = go (smallest_to_le k f) (smallest_next k f)
  where
    go : smallest_to k f ≤ k → Next k f → smallest_to (suc k) f ≤ suc k
    go h (inl p) = le_of_eq p.1
    go h (inr p) = let e = p.1 in omega arith

-- no value has a smaller number
smallest_to_least : (k : ℕ) (f : ℕ → ℕ) (c : ℕ) → c ≤ k → f (smallest_to k f) ≤ f c
unfolding smallest_to
smallest_to_least zero f c h = le_of_eq (ap f (sym (le-zero h)))
smallest_to_least (suc k) f c h = go (smallest_to_least k f c) (eq-or-lt_of_le h) (smallest_next k f)
  where
    go : (c ≤ k → f (smallest_to k f) ≤ f c) → (c ≡ suc k) ⊎ (c < suc k) → Next k f → f (smallest_to (suc k) f) ≤ f c
    go ih (inl e) (inl p) = le_of_eq (ap f (p.1 ∙ sym e))
    go ih (inl e) (inr p) = le_trans (le_of_eq (ap f p.1)) (le_trans p.0 (le_of_eq (ap f (sym e))))
    go ih (inr l) (inl p) = le_trans (le_of_eq (ap f p.1)) (le_trans (le_of_lt p.0) (ih (le_of_suc-le-suc l)))
    go ih (inr l) (inr p) = le_trans (le_of_eq (ap f p.1)) (ih (le_of_suc-le-suc l))

-- and of several with that number it is the smallest
smallest_to_first : (k : ℕ) (f : ℕ → ℕ) (c : ℕ) → c < smallest_to k f → f (smallest_to k f) < f c
unfolding smallest_to
smallest_to_first zero f c h = absurd (not-suc-le-zero h)
smallest_to_first (suc k) f c h = go (smallest_to_first k f c) (smallest_next k f)
  where
    go : (c < smallest_to k f → f (smallest_to k f) < f c) → Next k f → f (smallest_to (suc k) f) < f c
    go ih (inl p) =
        let e = p.1 in
        let a = p.0 in
        let b = smallest_to_least k f c (omega arith) in
        let d = ap f p.1 in
        omega arith
    go ih (inr p) = let e = p.1 in let d = ap f p.1 in let r = ih (omega arith) in omega arith

module _ (v : List ℕ) where
  -- the smallest value whose penalty is least is a symbol
  pub smallest_lt : smallest v < 64
  unfolding smallest
  smallest_lt = suc-le-suc (smallest_to_le 63 (λ b. get_or v b 0))

  -- no penalty is below its
  pub smallest_least : (c : ℕ) → c < 64 → get_or v (smallest v) 0 ≤ get_or v c 0
  unfolding smallest
  smallest_least c l = smallest_to_least 63 (λ b. get_or v b 0) c (le_of_suc-le-suc l)

  -- every smaller value has a larger penalty
  pub smallest_first : (c : ℕ) → c < smallest v → get_or v (smallest v) 0 < get_or v c 0
  unfolding smallest
  smallest_first c l = smallest_to_first 63 (λ b. get_or v b 0) c l

  -- where the vector holds a 0, the penalty is 0
  pub smallest_zero : HasZero v → get_or v (smallest v) 0 ≡ 0
  smallest_zero z = le-zero (le_trans (smallest_least z.zero_at z.within) (le_of_eq z.is_zero))

-- what is decided at a place is a symbol
pub decision_lt : (byte : ℕ) (v : List ℕ) → decision (kind_of byte) v < 64
unfolding kind_of decision
decision_lt byte v = go (eqb byte 0)
  where
    go : (t : Bool) → decision (cond t message (frozen 0)) v < 64
    go true = smallest_lt v
    go false = lit< tt

-- at a message place it is the smallest value whose penalty is least
pub decision_message : (kind : Kind) (v : List ℕ) → kind ≡ message → decision kind v ≡ smallest v
unfolding decision
decision_message kind v e = ap (λ (k : Kind). decision k v) e

-- at a frozen place the symbol that it always holds
pub decision_frozen : (kind : Kind) (v : List ℕ) (s : ℕ) → kind ≡ frozen s → decision kind v ≡ s
unfolding decision
decision_frozen kind v s e = ap (λ (k : Kind). decision k v) e

-- a place is a message place or a frozen one
abbrev pub KindCases : Kind → Type 0
KindCases kind = (kind ≡ message) ⊎ ((s : ℕ) × (kind ≡ frozen s))

-- which of the two
pub kind_cases : (kind : Kind) → KindCases kind
kind_cases message = inl refl
kind_cases (frozen s) = inr (s, refl)

-- where the vector is 0 at s alone, and a frozen place holds s, s is decided
pub decision_only : (kind : Kind) (v : List ℕ) (s : ℕ) → s < 64 → ((f : ℕ) → kind ≡ frozen f → s ≡ f) → OnlyZero v s → decision kind v ≡ s
unfolding decision
decision_only message v s l h p = p.only (smallest v) (smallest_lt v) (smallest_zero v (record { zero_at = s; within = l; is_zero = p.there }))
decision_only (frozen f) v s l h p = sym (h f refl)
