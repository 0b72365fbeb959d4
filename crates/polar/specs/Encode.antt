-- What `encode` promises.
use Rattle.std.specs.Prelude.{ℕ, ◌^◌, ◌<◌, ◌≡◌, cond, List, [], ◌∷◌, ◌++◌, eqb, length, get_or, drop}
use Rattle.refusal.specs.Table.{Row, refusal_of}
use Rattle.refusal.specs.Tests.{Within}
use Rattle.refusal.specs.Rows.{length_row, symbols_row}
use Rattle.polar_code.specs.Code.{Code, kind_of, message_places, code_sizes, code_table, IsCode}
use Rattle.polar_code.specs.declared.kinds.Kind.{Kind}
use Rattle.polar_code.specs.declared.kinds.Kind.TheVariants.{Message as message, Frozen as frozen}
use Rattle.polar.specs.Transform.{transform}

-- what a place of a kind holds: the next message symbol, or its own
unfoldable pub symbol_at : Kind → List ℕ → ℕ
symbol_at message symbols = get_or symbols 0 0
symbol_at (frozen s) symbols = s

-- the message symbols that are left after a place of a kind
unfoldable pub rest_after : Kind → List ℕ → List ℕ
rest_after message symbols = drop 1 symbols
rest_after (frozen s) symbols = symbols

-- the word before the transform: the message symbols fill the message places in rising order
unfoldable pub word_before : List ℕ → List ℕ → List ℕ
word_before [] symbols = []
word_before (byte ∷ map) symbols = symbol_at (kind_of byte) symbols ∷ word_before map (rest_after (kind_of byte) symbols)

-- the codeword of a message: the transform of the word before it
unfoldable pub codeword_of : Code → List ℕ → List ℕ
codeword_of code symbols = transform code.n code.coefs (word_before code.map symbols)

-- the rows on the message and the buffer, for this many places, and on the code's bytes
abbrev pub encode_rows : (places : ℕ) → Code → (symbols buffer : List ℕ) → List Row
encode_rows places code symbols buffer =
    length_row (length symbols) (message_places code.map)
    ∷ length_row (length buffer) places
    ∷ code_table code.map code.coefs ++ symbols_row symbols ∷ []

-- the rows of document 01's table that `encode` has the input for, in its order
abbrev pub encode_table : Code → (symbols buffer : List ℕ) → List Row
encode_table code symbols buffer = code_sizes code ++ encode_rows (2 ^ code.n) code symbols buffer

-- what no row of that table fits
pub record Encodable (code : Code) (symbols buffer : List ℕ) : Type 0 where
  pub is_code : IsCode code
  pub message_long : length symbols ≡ message_places code.map
  pub message_symbols : (i : ℕ) → i < length symbols → Within 0 63 (get_or symbols i 0)
  pub buffer_long : length buffer ≡ 2 ^ code.n

-- the number that `encode` returns, 0 where it accepts its input
unfoldable pub encode_refusal : Code → (symbols buffer : List ℕ) → ℕ
encode_refusal code symbols buffer = refusal_of (encode_table code symbols buffer)

-- what the lent buffer holds afterwards: the codeword, or on a refusal what it held
unfoldable pub encode_buffer : Code → (symbols buffer : List ℕ) → List ℕ
encode_buffer code symbols buffer = cond (eqb (encode_refusal code symbols buffer) 0) (codeword_of code symbols) buffer

-- the promise: the answer r and the buffer at exit, for every input
pub record Encoded (code : Code) (symbols buffer after : List ℕ) (r : ℕ) : Type 0 where
  pub answer : r ≡ encode_refusal code symbols buffer
  pub codeword : after ≡ encode_buffer code symbols buffer
