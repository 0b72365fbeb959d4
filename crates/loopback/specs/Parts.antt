-- What the functions inside this crate are given. No public call asks any of this.
use Rattle.std.specs.Prelude.{ℕ, ◌*◌, ◌^◌, ◌≤◌, ◌≡◌, List, ℤ, length}
use Rattle.polar_code.specs.Code.{message_places}
use Rattle.link.specs.Noiseless.{Transmission, Sendable}

-- what `write_samples` is given: room for 64 samples a number, and an amplitude that fits in a signed byte
pub record Sampling (numbers : List ℕ) (amplitude : ℕ) (samples : List ℤ) : Type 0 where
  pub room : length samples ≡ 64 * length numbers
  pub small : amplitude ≤ 127

-- what `read_message` is given: a symbol for each place of the map, and room for one for each message place
pub record Reading (map word message : List ℕ) : Type 0 where
  pub places : length word ≡ length map
  pub room : length message ≡ message_places map

-- what `send` is given: a code, a message, a base and an amplitude that are not refused, and room for the samples
pub record Sending (s : Transmission) (samples : List ℤ) : Type 0 where
  pub sendable : Sendable s
  pub samples_long : length samples ≡ 64 * 2 ^ s.code.n

-- what `send_with` is given: the same, with room for the codeword and for a number for each of its symbols
pub record SendingWith (s : Transmission) (codeword numbers : List ℕ) (samples : List ℤ) : Type 0 where
  pub given : Sending s samples
  pub codeword_long : length codeword ≡ 2 ^ s.code.n
  pub numbers_long : length numbers ≡ 2 ^ s.code.n
