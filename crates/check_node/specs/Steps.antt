-- What the functions inside a check node leave. A check node goes through the 64 values c in the order of columns, 0,
-- 8, 16, .., 56, 1, 9, .., 63. What it holds for value b is the least sum so far less phi's penalty at the value c
-- that it is at: then a step is one addition and one minimum. That can be below 0: it is a number of 16 bits, which
-- wraps around, and two such are compared as signed numbers.
use Rattle.std.specs.Prelude.{◌≡◌, ℕ, zero, suc, ◌+◌, ◌-◌, ◌*◌, ◌/◌, ◌%◌, ◌<◌, cond, List, length, nat_lt, slice_index}
use Rattle.vector.specs.Vector.{tabulate, vector_at, least_to}
use Rattle.gf64.specs.Field.{◌⊕◌}
use Rattle.scms.specs.Nodes.{sum_at}
use Rattle.reorder.specs.Order.{swapped}

-- a number of 16 bits: it wraps around
abbrev pub wrapped : ℕ → ℕ
wrapped a = a % 65536

-- the value of step k; the step of value c is by_columns c too
unfoldable pub by_columns : ℕ → ℕ
by_columns k = 8 * (k % 8) + k / 8

-- for each value the penalty at the value of the step before it, for value 0 its own
unfoldable pub penalties_before : List ℕ → List ℕ
penalties_before ordered = tabulate 64 (λ c. slice_index ordered (by_columns (by_columns c - 1)))

-- for each value the penalty at the value before it, less its own, in 16 bits
unfoldable pub differences : List ℕ → List ℕ
differences ordered = tabulate 64 (λ c. wrapped (slice_index (penalties_before ordered) c + 65536 - slice_index ordered c))

-- room for eight copies of a vector, of which the first `count` are there: copy k has its entries i and i ⊕ k exchanged
pub record AreCopies (count : ℕ) (v copies : List ℕ) : Type 0 where
  pub long : length copies ≡ 512
  pub copy : (k : ℕ) → k < count → vector_at copies k ≡ swapped v k

-- where a number of 16 bits stands in the order of signed numbers: those from 32,768 on come first
abbrev pub signed_rank : ℕ → ℕ
signed_rank a = wrapped (a + 32768)

-- the smaller of two numbers of 16 bits, as signed numbers
abbrev pub signed_min : ℕ → ℕ → ℕ
signed_min a b = cond (nat_lt (signed_rank a) (signed_rank b)) a b

-- one step: what is held moves by d to the next value, which gives w
unfoldable pub step : (held d w : ℕ) → ℕ
step held d w = signed_min (wrapped (held + d)) w

-- four steps, by the differences d0, d1, d2, d3, to values which give w0, w1, w2, w3
unfoldable pub four_steps : (d0 d1 d2 d3 w0 w1 w2 w3 held : ℕ) → ℕ
four_steps d0 d1 d2 d3 w0 w1 w2 w3 held = step (step (step (step held d0 w0) d1 w1) d2 w2) d3 w3

-- the entries at `at`, 8 further and so on, the first `count` of them, after four steps by the differences d: block k's
-- is compared with the four numbers w in the order k, k ⊕ 1, k ⊕ 2, k ⊕ 3. All other entries are as they were
pub record LaneMapped (d w : List ℕ) (at count : ℕ) (before after : List ℕ) : Type 0 where
  pub long : length after ≡ 64
  pub done : (k : ℕ) → k < count → slice_index after (at + 8 * k)
      ≡ four_steps (slice_index d 0) (slice_index d 1) (slice_index d 2) (slice_index d 3)
      (slice_index w k) (slice_index w (k ⊕ 1)) (slice_index w (k ⊕ 2)) (slice_index w (k ⊕ 3)) (slice_index before (at + 8 * k))
  pub other : (b : ℕ) → ((k : ℕ) → k < count → b ≡ at + 8 * k → ⊥) → slice_index after b ≡ slice_index before b

-- where the copies have what the eight values of a block are compared with at step 4 q + j
unfoldable pub source_of : (q j block : ℕ) → ℕ
source_of q j block = 32 * (q ⊕ (block / 4)) + 8 * ((block % 4) ⊕ j)

-- the value of step 4 q; those of the next three steps are 8 further each
abbrev pub first_value : (q : ℕ) → ℕ
first_value q = 32 * (q % 2) + q / 2

module _ (copies d : List ℕ) (q : ℕ) where
  -- what value b is compared with at step 4 q + j
  abbrev pub compared_at : (b j : ℕ) → ℕ
  compared_at b j = slice_index copies (source_of q j (b / 8) + b % 8)

  -- steps 4 q to 4 q + 3 for value b, from what is held at the step before
  unfoldable pub steps_at : (b held : ℕ) → ℕ
  steps_at b held =
      four_steps (slice_index d (first_value q)) (slice_index d (first_value q + 8))
      (slice_index d (first_value q + 16)) (slice_index d (first_value q + 24))
      (compared_at b 0) (compared_at b 1) (compared_at b 2) (compared_at b 3) held

module _ (copies d : List ℕ) (column : ℕ) where
  -- the first 4 j of the steps 8 column, 8 column + 1, .. for value b
  unfoldable pub column_to : (j b held : ℕ) → ℕ
  column_to zero b held = held
  column_to (suc j) b held = steps_at copies d (2 * column + j) b (column_to j b held)

-- each entry plus y, in 16 bits
unfoldable pub summed : List ℕ → (y : ℕ) → List ℕ
summed v y = tabulate 64 (λ b. wrapped (slice_index v b + y))

-- the least sum for value b over the first p + 1 steps: theta's penalty at b ⊕ c plus φ's in the order of c at c, c
-- being the value of the step
abbrev pub least_sum : (theta ordered : List ℕ) (b p : ℕ) → ℕ
least_sum theta ordered b p = least_to p (λ k. sum_at theta ordered b (by_columns k))
