-- What the nodes of the decoder are given: the bits of a penalty that count, and vectors with their entries in
-- another order.
use Rattle.std.specs.Prelude.{ℕ, ◌+◌, ◌-◌, ◌%◌, ◌≤◌, ◌<◌, ◌≡◌, ◌⊎◌, List, length, get_or}
use Rattle.vector.specs.Vector.{tabulate, AtMost}
use Rattle.vector.specs.Frame.{largest_llr}
use Rattle.gf64.specs.Field.{◌⊕◌}

-- the penalties that count: of each of 64 numbers the thirteen low bits, so that the sum of two fits in 16 bits
-- whatever a caller gives. A penalty of at most 8,191, the largest cap, is left as it is
unfoldable pub low_bits : List ℕ → List ℕ
low_bits v = tabulate 64 (λ b. get_or v b 0 % (largest_llr + 1))

-- 64 penalties, none above 8,191
pub record Small (v : List ℕ) : Type 0 where
  pub long : length v ≡ 64
  pub most : AtMost largest_llr v

-- a vector with its entries i and i ⊕ run exchanged
unfoldable pub swapped : List ℕ → (run : ℕ) → List ℕ
swapped v run = tabulate 64 (λ i. get_or v (i ⊕ run) 0)

-- a list of 64 entries of which those from lo on and before n are f's of what they were, and all others as they were
pub record Mapped (f : ℕ → ℕ → ℕ) (lo n : ℕ) (before after : List ℕ) : Type 0 where
  pub long : length after ≡ 64
  pub done : (b : ℕ) → lo ≤ b → b < n → get_or after b 0 ≡ f b (get_or before b 0)
  pub earlier : (b : ℕ) → b < lo → get_or after b 0 ≡ get_or before b 0
  pub later : (b : ℕ) → n ≤ b → get_or after b 0 ≡ get_or before b 0

-- what `replace_part` leaves of a vector: with the `count` entries from `first` on replaced, or as it was where a
-- part is missing
pub record PartReplaced (v : List ℕ) (from run : ℕ) (to : List ℕ) (first count : ℕ) (r : List ℕ) : Type 0 where
  pub replaced : length to ≡ 64 → first + count ≤ 64 → from + count ≤ 64
      → Mapped (λ c _. get_or v ((from + (c - first)) ⊕ (run % 64)) 0) first (first + count) to r
  pub kept : (64 < first + count) ⊎ (64 < from + count) → r ≡ to
