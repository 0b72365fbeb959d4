-- Which values c a shorter check node tries: the m whose penalties are smallest, ties to the smaller value. v is φ's
-- vector in the order of c, so that the penalty of c is that at h ⊙ c.
use Rattle.std.specs.Prelude.{ℕ, zero, suc, ◌+◌, ◌-◌, cond, List, [], ◌∷◌, ◌++◌, ltb, eqb, length, get_or}
use Rattle.vector.specs.Vector.{sum_to, least_to}

-- how many of the 64 values have a penalty below x
unfoldable pub count_below : List ℕ → (x : ℕ) → ℕ
count_below v x = sum_to 64 (λ d. cond (ltb (get_or v d 0) x) 1 0)

-- how many of the values 0, 1, .., c − 1 have the penalty x
unfoldable pub count_equal : List ℕ → (x c : ℕ) → ℕ
count_equal v x c = sum_to c (λ d. cond (eqb (get_or v d 0) x) 1 0)

-- how many values come before c: all with a smaller penalty, and of those with the same penalty the smaller ones
unfoldable pub count_before : List ℕ → (c : ℕ) → ℕ
count_before v c = count_below v (get_or v c 0) + count_equal v (get_or v c 0) c

-- of the values 0, 1, .., k − 1 those that are tried, in rising order: those before which fewer than m come
unfoldable pub tried_to : (m : ℕ) → List ℕ → (k : ℕ) → List ℕ
tried_to m v zero = []
tried_to m v (suc k) = tried_to m v k ++ cond (ltb (count_before v k) m) (k ∷ []) []

-- the values tried
unfoldable pub tried : (m : ℕ) → List ℕ → List ℕ
tried m v = tried_to m v 64

-- the least of what f gives to the entries of a list, which has one
unfoldable pub least_over : List ℕ → (ℕ → ℕ) → ℕ
least_over cs f = least_to (length cs - 1) (λ j. f (get_or cs j 0))
