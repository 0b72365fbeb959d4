-- Vectors of 64 numbers, one for each value of a symbol, in order of value; and the sums and the least of numbers by
-- index.
use Rattle.std.specs.Prelude.{ℕ, zero, suc, ◌+◌, ◌*◌, ◌/◌, ◌-◌, ◌≤◌, ◌<◌, min, ◌≡◌, cond, List, [], ◌∷◌, ◌++◌, ltb, length, get_or, take, drop}

module _ {A : Type 0} where
  -- the list f 0, f 1, .., f (n − 1)
  unfoldable pub tabulate : ℕ → (ℕ → A) → List A
  tabulate zero f = []
  tabulate (suc n) f = f 0 ∷ tabulate n (λ i. f (suc i))

  -- vector i of a slice: its 64 entries from 64 × i on
  unfoldable pub vector_at : List A → ℕ → List A
  vector_at xs i = take 64 (drop (64 * i) xs)

  -- the lists f 0, f 1, .., f (n − 1), one after the other
  unfoldable pub joined : ℕ → (ℕ → List A) → List A
  joined zero f = []
  joined (suc n) f = joined n f ++ f n

  -- a slice whose vector i is the 64 entries f 0, f 1, .., f 63, all else as it was
  unfoldable pub with_vector : List A → ℕ → (ℕ → A) → List A
  with_vector xs i f = take (64 * i) xs ++ (tabulate 64 f ++ drop (64 * i + 64) xs)

-- what `store` leaves of a slice: its vector i is v, or all is as it was where the slice has no such vector
unfoldable pub stored : List ℕ → ℕ → List ℕ → List ℕ
stored xs i v = cond (ltb i (length xs / 64)) (with_vector xs i (λ c. get_or v c 0)) xs

-- f 0 + f 1 + .. + f (n − 1)
unfoldable pub sum_to : ℕ → (ℕ → ℕ) → ℕ
sum_to zero f = 0
sum_to (suc n) f = sum_to n f + f n

-- the least of f 0, f 1, .., f k
unfoldable pub least_to : ℕ → (ℕ → ℕ) → ℕ
least_to zero f = f 0
least_to (suc k) f = min (least_to k f) (f (suc k))

-- the least of the 64 entries
unfoldable pub least : List ℕ → ℕ
least v = least_to 63 (λ b. get_or v b 0)

-- each of the 64 entries less the least of them
unfoldable pub less_least : List ℕ → List ℕ
less_least v = let l = least v in tabulate 64 (λ b. get_or v b 0 - l)

-- one of the 64 entries is 0
pub record HasZero (v : List ℕ) : Type 0 where
  pub zero_at : ℕ
  pub within : zero_at < 64
  pub is_zero : get_or v zero_at 0 ≡ 0

-- none of the 64 entries is above a number
abbrev pub AtMost : ℕ → List ℕ → Type 0
AtMost most v = (b : ℕ) → b < 64 → get_or v b 0 ≤ most

-- the entry of s is 0, and no other of the 64 is
pub record OnlyZero (v : List ℕ) (s : ℕ) : Type 0 where
  pub there : get_or v s 0 ≡ 0
  pub only : (b : ℕ) → b < 64 → get_or v b 0 ≡ 0 → b ≡ s
