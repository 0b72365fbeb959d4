-- The sizes of a code as the functions `place_count` and `kernel_count` give them, which take any number of layers. No
-- code that is accepted has more than 8.
use Rattle.std.specs.Prelude.{ℕ, ◌*◌, ◌/◌, ◌^◌, min}

-- N = 2^n; that of 8 layers for more
unfoldable pub places_of : ℕ → ℕ
places_of n = 2 ^ min n 8

-- n × N/2; that of 8 layers for more
unfoldable pub kernels_of : ℕ → ℕ
kernels_of n = min n 8 * (places_of n / 2)
