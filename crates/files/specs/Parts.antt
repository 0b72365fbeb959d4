-- What the functions inside this crate are given. No public call asks any of this.
use Rattle.std.specs.Prelude.{ℕ, ◌*◌, ◌^◌, ◌≡◌, List, length}
use Rattle.polar_code.specs.Code.{Code, IsCode}
use Rattle.program_listing.specs.Listing.{listing_length}

-- what `list_file` is given: a code, and room for a frame and a listing of its length
pub record Given (code : Code) (frame output : List ℕ) : Type 0 where
  pub is_code : IsCode code
  pub frame_long : length frame ≡ 64 * 2 ^ code.n
  pub output_long : length output ≡ listing_length (2 ^ code.n)
