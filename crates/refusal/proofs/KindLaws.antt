-- The numbers of refusals, and a table that a call goes down in parts.
use Rattle.std.proofs.Common.{◌≡◌, ℕ, List, ◌++◌, ◌∙◌, refl, sym, ap, cond, eqb, Result, Ok, Err, IsErrAnd}
use Rattle.std.proofs.lemmas.Result.{err_from_is_err_and}
use native.Mathlib.Omega.{arith}
use borrow.Author.Tests.{ne_eqb}
use lib.Dec.{T}
use Rattle.refusal.specs.Table.{Row, refusal_of}
use Rattle.refusal.specs.Kinds.{number_of, number}
use Rattle.refusal.specs.Walk.{or_else, after}
use Rattle.refusal.specs.declared.kinds.Refusal.{Refusal}
use Rattle.refusal.specs.declared.kinds.Refusal.TheVariants.{Layers, Length, Precision, MapByte, NoMessagePlace, Coefficient, Symbol}
use Rattle.refusal.specs.declared.kinds.Refusal.TheVariants.{Penalty, NoZero, Base, Gain, Form, Candidates, Amplitude}
use Rattle.refusal.proofs.Laws.{first_refused, when_accepted, when_refused}
use Rattle.refusal.proofs.Laws.{numberedb, numbered}
use Rattle.refusal.proofs.WalkLaws.{or_else_refusal}

-- no refusal has the number 0, which is kept for 'accepted'
pub number_nonzero : (r : Refusal) → number_of r ≡ 0 → ⊥
number_nonzero Layers e = omega arith
number_nonzero Length e = omega arith
number_nonzero Precision e = omega arith
number_nonzero MapByte e = omega arith
number_nonzero NoMessagePlace e = omega arith
number_nonzero Coefficient e = omega arith
number_nonzero Symbol e = omega arith
number_nonzero Penalty e = omega arith
number_nonzero NoZero e = omega arith
number_nonzero Base e = omega arith
number_nonzero Gain e = omega arith
number_nonzero Form e = omega arith
number_nonzero Candidates e = omega arith
number_nonzero Amplitude e = omega arith

-- the exit of a `?`, from what it says of what it returns
module _ {A : Type 0} (answer : Result A Refusal) (r : Refusal) (h : IsErrAnd answer (λ y. y ≡ r)) where
  -- it returns the refusal
  pub exit_is : answer ≡ Err r
  exit_is = let p = err_from_is_err_and answer h in p.1 ∙ ap Err p.2

  -- and so its number
  pub exit_number : number answer ≡ number_of r
  exit_number = ap number exit_is

-- going on after a part by `?` is going down the table by that part (Walk.or_else)
pub after_is : {A : Type 0} (part : Result A Refusal) (rest : ℕ) → after part rest ≡ or_else (number part) rest
unfolding or_else
after_is (Ok x) rest = refl
after_is (Err r) rest = rw (ne_eqb (number_of r) 0 (number_nonzero r))

-- going down a table so: what is left of it after a part that answered, and after which the rest returns its own refusal
pub after_refusal : {A : Type 0} (part : Result A Refusal) (rs ss : List Row) → T (numberedb rs) → number part ≡ refusal_of rs → after part (refusal_of ss) ≡ refusal_of (rs ++ ss)
after_refusal part rs ss n e =
    after_is part (refusal_of ss) ∙ ap (λ (x : ℕ). or_else x (refusal_of ss)) e ∙ or_else_refusal rs ss (numbered rs n)

module _ (rs ss : List Row) where
  -- the first part of a table refuses: so does the whole
  pub part_refused : (r : Refusal) → number_of r ≡ refusal_of rs → number_of r ≡ refusal_of (rs ++ ss)
  part_refused r e = first_refused rs ss e (number_nonzero r)

  -- it accepts: the rest of the table decides
  pub part_passed : T (numberedb rs) → 0 ≡ refusal_of rs → {r : ℕ} → r ≡ refusal_of ss → r ≡ refusal_of (rs ++ ss)
  part_passed n e f = f ∙ after_refusal (Ok (tt {0})) rs ss n e

-- what a call leaves of a lent buffer, by the number n of its table: `made` where it accepts, and else `kept`
module _ {A : Type 0} (made kept : A) {n : ℕ} where
  -- the call has refused
  pub left_kept : (r : Refusal) → number_of r ≡ n → kept ≡ cond (eqb n 0) made kept
  left_kept r e = sym (when_refused n made kept (λ z. number_nonzero r (e ∙ z)))

  -- it has not
  pub left_made : 0 ≡ n → made ≡ cond (eqb n 0) made kept
  left_made e = sym (when_accepted n made kept (sym e))
