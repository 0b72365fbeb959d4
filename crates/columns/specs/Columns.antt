-- A number in columns, as it is written: right-justified, blanks before it, no leading zeros. And lines of such
-- numbers.
use Rattle.std.specs.Prelude.{ℕ, zero, suc, ◌+◌, ◌/◌, ◌%◌, cond, List, [], ◌∷◌, ◌++◌, eqb}

-- the last digit of v, as a byte
unfoldable pub digit : ℕ → ℕ
digit v = 48 + v % 10

-- a column before the last, where v is what is left of the number: its last digit, or a blank (byte 32) where nothing
-- is left
unfoldable pub column : ℕ → ℕ
column v = cond (eqb v 0) 32 (digit v)

-- the w columns before the last, where v is what is left of the number
unfoldable pub before : (w v : ℕ) → List ℕ
before zero v = []
before (suc w) v = before w (v / 10) ++ column v ∷ []

-- the number v in w columns: its last digit in the last column, and what is left of it before that. A number of more
-- than w digits is cut to its last w
unfoldable pub field : (w v : ℕ) → List ℕ
field zero v = []
field (suc w) v = before w (v / 10) ++ digit v ∷ []

-- numbers in w columns each, one after the other
unfoldable pub fields : ℕ → List ℕ → List ℕ
fields w [] = []
fields w (v ∷ vs) = field w v ++ fields w vs

-- a line: numbers in w columns each, and a line feed (byte 10)
unfoldable pub line : ℕ → List ℕ → List ℕ
line w vs = fields w vs ++ 10 ∷ []

-- numbers that each stand on a line of their own, in w columns
unfoldable pub lines : ℕ → List ℕ → List ℕ
lines w [] = []
lines w (v ∷ vs) = line w (v ∷ []) ++ lines w vs
