-- What the program can print as a refusal, and what is known of a frame file that it accepted.
use Rattle.std.specs.Prelude.{ℕ, ◌/◌, ◌<◌, List, [], ◌∷◌, length}
use Rattle.vector.specs.Vector.{vector_at, AtMost, HasZero}
use Rattle.refusal.specs.Table.{OneOf}

-- the numbers that `run` returns: 0 for a listing, else the refusal that it printed. 2 and 3 are not among them, since
-- the program's own buffers and precisions are right; 7, 10 and 11 concern input that it does not have
abbrev pub Printed : ℕ → Type 0
Printed r = OneOf r (0 ∷ 1 ∷ 4 ∷ 5 ∷ 6 ∷ 8 ∷ 9 ∷ 12 ∷ [])

-- those by which a frame file is refused, and 0
abbrev pub FrameNumber : ℕ → Type 0
FrameNumber r = OneOf r (0 ∷ 12 ∷ 8 ∷ 9 ∷ [])

-- a frame as the decoder accepts it at Qc = 5: in each vector no penalty above 31, and a 0
abbrev pub Penalties : List ℕ → Type 0
Penalties frame = (i : ℕ) → i < length frame / 64 → AtMost 31 (vector_at frame i) × HasZero (vector_at frame i)
