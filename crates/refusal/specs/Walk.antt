-- Going down a table in numbers: from the refusal by the rows before to the refusal with a part or a row more, 0 for
-- none. A row is `require`, and what follows a row or a part follows it by `?`.
use Rattle.std.specs.Prelude.{ℕ, Bool, cond, eqb, Result, Ok, Err}
use Rattle.refusal.specs.Kinds.{number_of}
use Rattle.refusal.specs.declared.kinds.Refusal.{Refusal}

-- the refusal by two parts of a table, from those by each: the first part's, and where that is 0 the second's
unfoldable pub or_else : ℕ → ℕ → ℕ
or_else before next = cond (eqb before 0) next before

-- the same where the second part is one row, of this number and this test
unfoldable pub first : ℕ → ℕ → Bool → ℕ
first before number fits = or_else before (cond fits number 0)

-- what a call returns that goes on after a part by `?`, from the part's answer and what the rest returns
abbrev pub after : {A : Type 0} → Result A Refusal → ℕ → ℕ
after (Ok x) rest = rest
after (Err r) rest = number_of r
