-- The code: n layers, a frozen map with a byte for each of the N = 2^n places, and a coefficient for each of the
-- n × N/2 kernels; with the rows of document 01's table 'Refused' that judge a code, for every call that is given one.
-- What a place before the transform holds, `Kind`, is the enum of the code (src/kinds.rt): the next message symbol, or
-- always the same symbol.
use Rattle.std.specs.Prelude.{ℕ, ◌+◌, ◌*◌, ◌/◌, ◌^◌, ◌<◌, ◌≡◌, cond, List, [], ◌∷◌, eqb, length, get_or}
use Rattle.refusal.specs.Table.{Row}
use Rattle.refusal.specs.Tests.{outside, any_outside, Within}
use Rattle.refusal.specs.Rows.{length_row}
use Rattle.polar_code.specs.declared.kinds.Kind.{Kind}
use Rattle.polar_code.specs.declared.kinds.Kind.TheVariants.{Message as message, Frozen as frozen}

-- what a call is given as a code, whether a row refuses it or not
pub record Code : Type 0 where
  pub n : ℕ
  pub map : List ℕ
  pub coefs : List ℕ

-- the code with n layers, a map and coefficients
abbrev pub code_of : (n : ℕ) (map cs : List ℕ) → Code
code_of n map cs = record { n = n; map = map; coefs = cs }

-- the kind of a place by its map byte: 0 is a message place, any other byte a frozen place, which always holds the
-- symbol 0
unfoldable pub kind_of : ℕ → Kind
kind_of byte = cond (eqb byte 0) message (frozen 0)

-- 1 for a message place
unfoldable pub message_count : Kind → ℕ
message_count message = 1
message_count (frozen s) = 0

-- document 01's K: how many places of the map are message places
unfoldable pub message_places : List ℕ → ℕ
message_places [] = 0
message_places (byte ∷ map) = message_count (kind_of byte) + message_places map

-- 1: n outside 1 to 8
abbrev pub layers_row : ℕ → Row
layers_row n = (1, outside 1 8 n)

-- 4: a map byte above 1
abbrev pub map_row : List ℕ → Row
map_row map = (4, any_outside 0 1 map)

-- 5: K is 0
abbrev pub empty_row : List ℕ → Row
empty_row map = (5, eqb (message_places map) 0)

-- 6: a coefficient 0 or above 63
abbrev pub coefs_row : List ℕ → Row
coefs_row cs = (6, any_outside 1 63 cs)

-- the three rows that judge a code's bytes, in the table's order; the table of each call that is given a code has the
-- same three, one after the other
abbrev pub code_table : (map cs : List ℕ) → List Row
code_table map cs = map_row map ∷ empty_row map ∷ coefs_row cs ∷ []

-- the rows on a code's lengths, for this many places and coefficients
abbrev pub length_rows : (places kernels : ℕ) (map cs : List ℕ) → List Row
length_rows places kernels map cs = length_row (length map) places ∷ length_row (length cs) kernels ∷ []

-- the rows on a code's layers and lengths, with which the table of each call that is given a code begins
abbrev pub code_sizes : Code → List Row
code_sizes code =
    layers_row code.n ∷ length_rows (2 ^ code.n) (code.n * (2 ^ code.n / 2)) code.map code.coefs

-- every coefficient is from 1 to 63
abbrev pub Coefficients : List ℕ → Type 0
Coefficients cs = (i : ℕ) → i < length cs → Within 1 63 (get_or cs i 1)

-- a code that no row refuses
pub record IsCode (code : Code) : Type 0 where
  pub layers : Within 1 8 code.n
  pub map_long : length code.map ≡ 2 ^ code.n
  pub coefs_long : length code.coefs ≡ code.n * (2 ^ code.n / 2)
  pub map_bytes : (i : ℕ) → i < length code.map → Within 0 1 (get_or code.map i 0)
  pub some_message : message_places code.map ≡ 0 → ⊥
  pub nonzero : Coefficients code.coefs

-- a word: N symbols
pub record IsWord (n : ℕ) (u : List ℕ) : Type 0 where
  pub long : length u ≡ 2 ^ n
  pub symbols : (i : ℕ) → i < 2 ^ n → get_or u i 0 < 64
