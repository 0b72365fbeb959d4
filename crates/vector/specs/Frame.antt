-- A frame: 64 penalties for each place, one vector after the other.
use Rattle.std.specs.Prelude.{ℕ, ◌-◌, ◌/◌, ◌^◌, ◌≤◌, ◌<◌, min, List, length, get_or}
use Rattle.vector.specs.Vector.{vector_at, HasZero}

-- the largest penalty of all: that of 13 bits
abbrev pub largest_llr : ℕ
largest_llr = 8191

-- the largest penalty of a precision of q bits, 2^q − 1; of 13 bits where q is more
unfoldable pub largest : ℕ → ℕ
largest q = 2 ^ min q 13 - 1

-- a frame of penalties at this Qc: no entry above 2^Qc − 1, and a 0 in every 64
pub record IsFrame (qc : ℕ) (frame : List ℕ) : Type 0 where
  pub small : (j : ℕ) → j < length frame → get_or frame j 0 ≤ 2 ^ qc - 1
  pub zeros : (place : ℕ) → place < length frame / 64 → HasZero (vector_at frame place)
