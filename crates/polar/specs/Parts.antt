-- What the functions inside this crate are given, and what they leave. No public call asks any of this.
use Rattle.std.specs.Prelude.{ℕ, zero, suc, ◌+◌, ◌/◌, ◌^◌, ◌≤◌, ◌≡◌, List, length}
use Rattle.polar_code.specs.Code.{message_places}

-- the coefficients of a block (Halves.coefs_at) are among n
unfoldable pub Room : (m start stride n : ℕ) → Type 0
Room zero start stride n = Unit {0}
Room (suc m) start stride n =
    (start + 2 ^ m ≤ n) × Room m (start + stride) stride n × Room m (start + stride + 2 ^ m / 2) stride n

-- what `transform_block` is given
pub record Block (m half start stride : ℕ) (cs word : List ℕ) : Type 0 where
  pub few_layers : m ≤ 8
  pub halved : half ≡ 2 ^ m / 2
  pub stride_small : stride ≤ 128
  pub few_coefs : length cs ≤ 1024
  pub room : Room m start stride (length cs)
  pub long : length word ≡ 2 ^ m

-- what `place_message` is given
pub record Placing (map symbols word : List ℕ) : Type 0 where
  pub places : length word ≡ length map
  pub enough : length symbols ≡ message_places map
