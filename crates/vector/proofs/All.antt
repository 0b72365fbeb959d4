-- A test at each number below n, and both of two tests: what a computed check over a table says of one entry.
use mathlib.Core.Path.{◌≡◌, subst, sym}
use mathlib.Core.Bool.{Bool, true, false, ◌&&◌}
use mathlib.Core.Logic.{◌⊎◌, inl, inr}
use Prim.Native.Nat.{ℕ, zero, suc, ◌<◌}
use native.Mathlib.Nat.{le_of_suc-le-suc, not-suc-le-zero, eq-or-lt_of_le}
use lib.Dec.{T}

-- both tests pass, so the first does
pub and_left : (a b : Bool) → T (a && b) → T a
and_left true b t = tt
and_left false b t = t

-- and the second
pub and_right : (a b : Bool) → T (a && b) → T b
and_right true b t = t
and_right false b t = absurd t

-- the test passes at each number below n
unfoldable pub all : (ℕ → Bool) → ℕ → Bool
all f zero = true
all f (suc n) = f n && all f n

-- so it passes at each
pub all_at : (f : ℕ → Bool) (n : ℕ) → T (all f n) → (k : ℕ) → k < n → T (f k)
unfolding all
all_at f zero t k h = absurd (not-suc-le-zero h)
all_at f (suc n) t k h = go (all_at f n (and_right (f n) (all f n) t)) (eq-or-lt_of_le (le_of_suc-le-suc h))
  where
    go : ((j : ℕ) → j < n → T (f j)) → (k ≡ n) ⊎ (k < n) → T (f k)
    go ih (inl e) = subst (λ (j : ℕ). T (f j)) (sym e) (and_left (f n) (all f n) t)
    go ih (inr l) = ih k l
