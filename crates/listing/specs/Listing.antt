-- The lines that the program prints: numbers in five columns each, right-justified, and a line feed.
use Rattle.std.specs.Prelude.{ℕ, suc, ◌≤◌, ◌<◌, ◌≡◌, cond, List, [], ◌∷◌, ltb, get_or}
use Rattle.vector.specs.Vector.{least_to}
use Rattle.columns.specs.Columns.{line}

-- the penalty held for a value at a place, of the numbers held for its values. An entry that a list does not have
-- counts as 0
unfoldable pub held_for : ℕ → List ℕ → ℕ
held_for value llrs = get_or llrs value 0

-- the values 0 to 63 but for the symbol, in rising order: number j of them. (For a number above 63, which is no symbol,
-- they are 0 to 62.)
unfoldable pub other_value : (symbol j : ℕ) → ℕ
other_value symbol j = cond (ltb j symbol) j (suc j)

-- the least penalty held for any of the 63 other values
unfoldable pub least_other : ℕ → List ℕ → ℕ
least_other symbol llrs = least_to 62 (λ j. held_for (other_value symbol j) llrs)

-- the line of a place: place, symbol, penalty held for that symbol, least penalty held for any other value
unfoldable pub place_line : (place symbol : ℕ) → List ℕ → List ℕ
place_line place symbol llrs = line 5 (place ∷ symbol ∷ held_for symbol llrs ∷ least_other symbol llrs ∷ [])

-- the line of one number: the clip count, or a refusal
unfoldable pub number_line : ℕ → List ℕ
number_line v = line 5 (v ∷ [])

-- what it means that a number is the least held for any other value: one of them has it, and none has less
pub record IsLeastOther (symbol : ℕ) (llrs : List ℕ) (least : ℕ) : Type 0 where
  pub value : ℕ
  pub a_value : value < 64
  pub another : value ≡ symbol → ⊥
  pub attained : held_for value llrs ≡ least
  pub none_less : (b : ℕ) → b < 64 → (b ≡ symbol → ⊥) → least ≤ held_for b llrs
