-- What `spread` promises.
use Rattle.std.specs.Prelude.{ℕ, ◌<◌, ◌≡◌, cond, List, [], ◌∷◌, map, eqb, length, get_or}
use Rattle.refusal.specs.Table.{Row, refusal_of}
use Rattle.refusal.specs.Tests.{Within}
use Rattle.refusal.specs.Rows.{length_row, symbols_row}
use Rattle.ccsk.specs.Chips.{turned, count_row, base_row}

-- the numbers that the symbols are sent as, one a symbol
unfoldable pub numbers_of : ℕ → List ℕ → List ℕ
numbers_of base symbols = map (turned base) symbols

-- the rows of document 01's table that `spread` has the input for, in its order
abbrev pub spread_table : ℕ → List ℕ → List ℕ → List Row
spread_table base symbols buffer =
    count_row (length symbols) ∷ length_row (length buffer) (length symbols) ∷ symbols_row symbols ∷ base_row base ∷ []

-- what no row of that table fits
pub record Spreadable (base : ℕ) (symbols buffer : List ℕ) : Type 0 where
  pub count : Within 1 256 (length symbols)
  pub buffer_long : length buffer ≡ length symbols
  pub symbols_small : (i : ℕ) → i < length symbols → Within 0 63 (get_or symbols i 0)
  pub base_turns : turned base 32 ≡ base → ⊥

-- the number that `spread` returns, 0 where it accepts its input
unfoldable pub spread_refusal : ℕ → List ℕ → List ℕ → ℕ
spread_refusal base symbols buffer = refusal_of (spread_table base symbols buffer)

-- what the lent buffer holds afterwards: the numbers sent, or on a refusal what it held
unfoldable pub spread_buffer : ℕ → List ℕ → List ℕ → List ℕ
spread_buffer base symbols buffer = cond (eqb (spread_refusal base symbols buffer) 0) (numbers_of base symbols) buffer

-- the promise: the answer r and the buffer at exit, for every input
pub record Spread (base : ℕ) (symbols buffer after : List ℕ) (r : ℕ) : Type 0 where
  pub answer : r ≡ spread_refusal base symbols buffer
  pub numbers : after ≡ spread_buffer base symbols buffer
