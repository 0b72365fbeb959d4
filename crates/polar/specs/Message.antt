-- The message in a word before the transform: reading it undoes Encode.word_before, for messages of K symbols.
use Rattle.std.specs.Prelude.{ℕ, List, [], ◌∷◌, get_or, drop}
use Rattle.polar_code.specs.Code.{kind_of}
use Rattle.polar_code.specs.declared.kinds.Kind.{Kind}
use Rattle.polar_code.specs.declared.kinds.Kind.TheVariants.{Message as message, Frozen as frozen}

-- the message symbols from a place on: its own symbol s before those of the later places, if it is a message place
unfoldable pub with_place : Kind → ℕ → List ℕ → List ℕ
with_place message s symbols = s ∷ symbols
with_place (frozen fixed) s symbols = symbols

-- the symbols at the message places of a word, in rising order
unfoldable pub message_of : List ℕ → List ℕ → List ℕ
message_of [] word = []
message_of (byte ∷ map) word = with_place (kind_of byte) (get_or word 0 0) (message_of map (drop 1 word))
