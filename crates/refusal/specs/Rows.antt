-- Rows of document 01's table 'Refused' that calls of several crates have, but for those that judge a code (polar_code:
-- Code).
use Rattle.std.specs.Prelude.{ℕ, List}
use Rattle.refusal.specs.Table.{Row}
use Rattle.refusal.specs.Tests.{outside, any_outside, unequal}

-- 2: a slice has a length other than needed
abbrev pub length_row : ℕ → ℕ → Row
length_row long needed = (2, unequal long needed)

-- 3: Qc outside 1 to 5
abbrev pub qc_row : ℕ → Row
qc_row qc = (3, outside 1 5 qc)

-- 7: a symbol to encode or spread above 63
abbrev pub symbols_row : List ℕ → Row
symbols_row symbols = (7, any_outside 0 63 symbols)
