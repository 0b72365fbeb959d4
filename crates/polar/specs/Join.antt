-- What `join_halves` promises.
use Rattle.std.specs.Prelude.{ℕ, ◌+◌, ◌≤◌, ◌<◌, ◌≡◌, List, length, get_or}
use Rattle.gf64.specs.Field.{◌⊕◌, ◌⊙◌}
use Rattle.gf64.specs.ProductTable.{entry_of}

-- a word of two halves of at most 128 places, and a coefficient for each of the kernels that join them, from `start` on
pub record Halves (half start : ℕ) (cs word : List ℕ) : Type 0 where
  pub few : half ≤ 128
  pub few_coefs : length cs ≤ 1024
  pub room : start + half ≤ length cs
  pub long : length word ≡ half + half

-- the halves joined, with `times` for the product: kernel t joins the places t and half + t
pub record JoinedWith (times : ℕ → ℕ → ℕ) (half start : ℕ) (cs word after : List ℕ) : Type 0 where
  pub sums : (t : ℕ) → t < half → get_or after t 0 ≡ get_or word t 0 ⊕ get_or word (half + t) 0
  pub products : (t : ℕ) → t < half → get_or after (half + t) 0 ≡ times (get_or cs (start + t) 1) (get_or word (half + t) 0)

-- the halves joined by the kernels of document 01
abbrev pub Joined : (half start : ℕ) (cs word after : List ℕ) → Type 0
Joined = JoinedWith ◌⊙◌

-- the promise: `Halves` joined with the products that the table lent has, and any other word as it was. By the table of
-- products that is `Joined`
pub record HalvesJoined (half start : ℕ) (cs : List ℕ) (table : List (List ℕ)) (word after : List ℕ) : Type 0 where
  pub joins : Halves half start cs word → JoinedWith (entry_of table) half start cs word after
  pub keeps : (Halves half start cs word → ⊥) → after ≡ word
