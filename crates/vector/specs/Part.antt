-- What `place_llrs` hands out.
use Rattle.std.specs.Prelude.{ℕ, ◌+◌, ◌*◌, ◌/◌, ◌%◌, ◌≡◌, Bool, cond, ◌||◌, List, [], ltb, leb, length}
use Rattle.vector.specs.Vector.{vector_at}

-- the slice isn't whole vectors of 64, or the place is outside it
unfoldable pub no_place : List ℕ → ℕ → Bool
no_place frame place = ltb 0 (length frame % 64) || leb (length frame / 64) place

-- the 64 penalties of one place; none where there is no such place
unfoldable pub place_llrs : List ℕ → ℕ → List ℕ
place_llrs frame place = cond (no_place frame place) [] (vector_at frame place)

-- the number of the slice with which the part begins: the place's first, and for the empty part the slice's
unfoldable pub part_start : List ℕ → ℕ → ℕ
part_start frame place = cond (no_place frame place) 0 (64 * place)

-- the promise: which numbers the part has, and that they are the caller's own, not a copy. A pointer is a block of
-- memory and an offset in it, in bytes, of which a number has 2
pub record Handed (frame : List ℕ) (slice : ℕ × ℕ) (place : ℕ) (part : List ℕ) (pointer : ℕ × ℕ) : Type 0 where
  pub llrs : part ≡ place_llrs frame place
  pub block : pointer.0 ≡ slice.0
  pub offset : pointer.1 ≡ part_start frame place * 2 + slice.1
