-- CCSK chips (document 01, 'Chips and penalties'): the base sequence is a 64-bit number, and a symbol is sent as that
-- number turned.
use Rattle.std.specs.Prelude.{ℕ, ◌+◌, ◌*◌, ◌/◌, ◌%◌, ◌-◌, ◌^◌, ◌<◌, ◌≡◌, cond, eqb}
use Rattle.refusal.specs.Table.{Row}
use Rattle.refusal.specs.Tests.{outside}
use Rattle.vector.specs.Vector.{sum_to}

-- chip k of a number: its bit k
unfoldable pub chip : ℕ → ℕ → ℕ
chip x k = x / 2 ^ k % 2

-- chip k of the symbol s: base chip (k + s) mod 64
unfoldable pub symbol_chip : ℕ → ℕ → ℕ → ℕ
symbol_chip base s k = chip base ((k + s) % 64)

-- the base turned by s chips, which is the number that the symbol s is sent as: its 64 chips are those of s
unfoldable pub turned : ℕ → ℕ → ℕ
turned base s = sum_to 64 (λ k. symbol_chip base s k * 2 ^ k)

-- in how many chips the symbols s and v differ
unfoldable pub differing : ℕ → ℕ → ℕ → ℕ
differing base s v = sum_to 64 (λ k. cond (eqb (symbol_chip base s k) (symbol_chip base v k)) 0 1)

-- the shift from the symbol s to the symbol v: their difference v − s mod 64
unfoldable pub shift : ℕ → ℕ → ℕ
shift s v = (v + (64 - s)) % 64

-- 2: other than 1 to 256 symbols, spread or weighed
abbrev pub count_row : ℕ → Row
count_row count = (2, outside 1 256 count)

-- 10: the base equals itself turned by 32 chips
abbrev pub base_row : ℕ → Row
base_row base = (10, eqb (turned base 32) base)

-- two different symbols are sent as the same number
pub record SameNumber (base : ℕ) : Type 0 where
  pub first : ℕ
  pub second : ℕ
  pub first_symbol : first < 64
  pub second_symbol : second < 64
  pub different : first ≡ second → ⊥
  pub same : turned base first ≡ turned base second
