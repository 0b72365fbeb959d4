-- What the functions inside a shorter check node leave: a threshold of the penalties, sets of values as numbers of 64
-- bits, and the least sums over a set.
use Rattle.std.specs.Prelude.{◌≡◌, ℕ, zero, suc, ◌+◌, ◌*◌, ◌/◌, ◌%◌, ◌<◌, ◌≤◌, cond, ◌⊎◌, List, length, nat_lt, slice_index}
use Rattle.vector.specs.Vector.{sum_to}
use Rattle.gf64.specs.Field.{◌⊕◌}
use Rattle.reorder.specs.Order.{Small}
use Rattle.scms.specs.Nodes.{sum_at}
use Rattle.scms.specs.Tried.{count_below, count_before}
use Rattle.check_node.specs.Steps.{signed_min, wrapped, AreCopies}

-- how many values are tried: the number that is asked for, and 1 where that is 0
unfoldable pub at_least_one : ℕ → ℕ
at_least_one zero = 1
at_least_one (suc m) = suc m

-- 1 for a penalty below t, and else 0
abbrev pub one_if_below : (x t : ℕ) → ℕ
one_if_below x t = cond (nat_lt x t) 1 0

-- 1 where the penalty of value c is below t, and else 0
abbrev pub below_at : List ℕ → (t c : ℕ) → ℕ
below_at v t c = one_if_below (slice_index v c) t

-- a threshold of m values: at most m penalties are below it, and at least m not above it
pub record Threshold (m : ℕ) (v : List ℕ) (t : ℕ) : Type 0 where
  pub small : t ≤ 8191
  pub few : count_below v t ≤ m
  pub enough : m ≤ count_below v (t + 1)

-- a set of values: 1 for those that belong to it, and else 0
abbrev pub Flags : (ℕ → ℕ) → Type 0
Flags f = (c : ℕ) → f c ≤ 1

-- the number whose bits are f 0, f 1, .., f (n − 1), the lowest first
unfoldable pub mask_of : ℕ → (ℕ → ℕ) → ℕ
mask_of zero f = 0
mask_of (suc n) f = f 0 + 2 * mask_of n (λ i. f (suc i))

-- the values of a set from e on
abbrev pub from : (e : ℕ) → (ℕ → ℕ) → (ℕ → ℕ)
from e f c = cond (nat_lt c e) 0 (f c)

-- what is left of a set without its n smallest values: those from some e on, before which there are n
pub record Cut (f : ℕ → ℕ) (n left : ℕ) : Type 0 where
  pub at : ℕ
  pub within : at ≤ 64
  pub before : sum_to at f ≡ n
  pub is_left : left ≡ mask_of 64 (from at f)

-- a number is a set of n values at least
pub record HasSet (mask n : ℕ) : Type 0 where
  pub set : ℕ → ℕ
  pub flags : Flags set
  pub is_mask : mask ≡ mask_of 64 set
  pub enough : n ≤ sum_to 64 set

-- what `after_lowest` leaves of a number that is a set of n values at least
pub record AfterLowest (mask n left : ℕ) : Type 0 where
  pub cut : (f : ℕ → ℕ) → Flags f → mask ≡ mask_of 64 f → n ≤ sum_to 64 f → Cut f n left

-- a number is the set of the m values tried, whose penalties are not above t
pub record TriedSet (m : ℕ) (v : List ℕ) (mask : ℕ) : Type 0 where
  pub set : ℕ → ℕ
  pub flags : Flags set
  pub is_mask : mask ≡ mask_of 64 set
  pub values : (c : ℕ) → c < 64 → (set c ≡ 1 → count_before v c < m) × (count_before v c < m → set c ≡ 1)

-- where the copies have what value b is summed with at value c
unfoldable pub source_at : (c b : ℕ) → ℕ
source_at c b = 64 * (c % 8) + 8 * ((b / 8) ⊕ (c / 8)) + b % 8

-- the smaller of what is held for value b and the sum at value c, whose penalty is x
unfoldable pub with_sum : List ℕ → (x c b held : ℕ) → ℕ
with_sum copies x c b held = signed_min held (wrapped (slice_index copies (source_at c b) + x))

-- r has for each value b the least, over the values c of a set, of a sum, or 32,767 where that is less
pub record LeastSums (f : ℕ → ℕ) (sum : ℕ → ℕ → ℕ) (r : List ℕ) : Type 0 where
  pub long : length r ≡ 64
  pub bounded : (b c : ℕ) → b < 64 → c < 64 → f c ≡ 1 → slice_index r b ≤ sum b c
  pub attained : (b : ℕ) → b < 64 → (slice_index r b ≡ 32767) ⊎ ((c : ℕ) × (c < 64) × (f c ≡ 1) × (slice_index r b ≡ sum b c))

-- what `set_sums` leaves: the least sums over the set that the number is, where the copies are those of a vector
pub record SetSums (copies ordered : List ℕ) (mask : ℕ) (r : List ℕ) : Type 0 where
  pub least : (f : ℕ → ℕ) (theta : List ℕ) → Flags f → mask ≡ mask_of 64 f → AreCopies 8 theta copies → Small theta
      → Small ordered → LeastSums f (sum_at theta ordered) r
