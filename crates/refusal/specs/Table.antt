-- A call's refusals as a table: rows of a number and a test, in the order in which they are tried.
use Rattle.std.specs.Prelude.{ℕ, ◌<◌, ◌≡◌, ◌⊎◌, Bool, false, cond, List, [], ◌∷◌}

-- a row: the number that is returned, and the test that asks for it
abbrev pub Row : Type 0
Row = ℕ × Bool

-- the number of the first row whose test fits, 0 where none does: 0 is 'accepted'
unfoldable pub refusal_of : List Row → ℕ
refusal_of [] = 0
refusal_of (r ∷ rs) = cond r.1 r.0 (refusal_of rs)

-- the number is one of these
abbrev pub OneOf : ℕ → List ℕ → Type 0
OneOf r [] = ⊥
OneOf r (k ∷ ks) = (r ≡ k) ⊎ OneOf r ks

-- no row's test fits
abbrev pub NoneFits : List Row → Type 0
NoneFits [] = Unit {0}
NoneFits (r ∷ rs) = (r.1 ≡ false) × NoneFits rs

-- no row has the number 0, which is kept for 'accepted'
abbrev pub Numbered : List Row → Type 0
Numbered [] = Unit {0}
Numbered (r ∷ rs) = (0 < r.0) × Numbered rs
