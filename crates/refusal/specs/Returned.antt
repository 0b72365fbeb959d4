-- An answer in document 01's terms. Kinds.returned and returned_flag give it for a call's result.
use Rattle.std.specs.Prelude.{ℕ, List}

-- the number returned, and the values beside the buffers. The number is 0, which no row of a table has, where the call
-- accepted its input
pub record Returned : Type 0 where
  pub number : ℕ
  pub values : List ℕ
