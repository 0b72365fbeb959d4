-- What `demap` promises.
use Rattle.std.specs.Prelude.{ℕ, ◌/◌, ◌%◌, ◌≡◌, cond, List, [], ◌∷◌, ◌++◌, eqb, ℤ, length}
use Rattle.refusal.specs.Table.{Row, refusal_of}
use Rattle.refusal.specs.Tests.{outside, unequal, Within}
use Rattle.refusal.specs.Rows.{length_row, qc_row}
use Rattle.vector.specs.Vector.{vector_at, joined}
use Rattle.ccsk.specs.Chips.{turned, count_row, base_row}
use Rattle.demapper.specs.Samples.{llrs}

-- the penalties of all symbols whose samples these are, 64 for each symbol: those of symbol i from its 64 samples
unfoldable pub frame_of : (base top bottom qc : ℕ) → List ℤ → List ℕ
frame_of base top bottom qc samples = joined (length samples / 64) (λ i. llrs base top bottom qc (vector_at samples i))

-- 2: samples that are not 64 to a symbol
abbrev pub whole_row : ℕ → Row
whole_row count = (2, unequal (count % 64) 0)

-- 11: top or bottom of the gain is 0 or above 255
abbrev pub gain_row : ℕ → Row
gain_row part = (11, outside 1 255 part)

-- the rows on the samples and the buffer; of the samples only their number counts
abbrev pub length_rows : (number : ℕ) → List ℕ → List Row
length_rows number buffer = whole_row number ∷ count_row (number / 64) ∷ length_row (length buffer) number ∷ []

-- the rows on the precision, the base and the gain
abbrev pub setting_rows : (base top bottom qc : ℕ) → List Row
setting_rows base top bottom qc = qc_row qc ∷ base_row base ∷ gain_row top ∷ gain_row bottom ∷ []

-- the rows of document 01's table that `demap` has the input for, in its order
abbrev pub demap_table : (base top bottom qc : ℕ) → (number : ℕ) → List ℕ → List Row
demap_table base top bottom qc number buffer = length_rows number buffer ++ setting_rows base top bottom qc

-- what no row of that table fits
pub record Demappable (base top bottom qc : ℕ) (samples : List ℤ) (buffer : List ℕ) : Type 0 where
  pub whole : length samples % 64 ≡ 0
  pub count : Within 1 256 (length samples / 64)
  pub buffer_long : length buffer ≡ length samples
  pub precision : Within 1 5 qc
  pub base_turns : turned base 32 ≡ base → ⊥
  pub gain_top : Within 1 255 top
  pub gain_bottom : Within 1 255 bottom

-- the number that `demap` returns, 0 where it accepts its input
unfoldable pub demap_refusal : (base top bottom qc : ℕ) → List ℤ → List ℕ → ℕ
demap_refusal base top bottom qc samples buffer = refusal_of (demap_table base top bottom qc (length samples) buffer)

-- what the lent buffer holds afterwards: the penalties, or on a refusal what it held
unfoldable pub demap_buffer : (base top bottom qc : ℕ) → List ℤ → List ℕ → List ℕ
demap_buffer base top bottom qc samples buffer =
    cond (eqb (demap_refusal base top bottom qc samples buffer) 0) (frame_of base top bottom qc samples) buffer

-- the promise: the answer r and the buffer at exit, for every input
pub record Demapped (base top bottom qc : ℕ) (samples : List ℤ) (buffer after : List ℕ) (r : ℕ) : Type 0 where
  pub answer : r ≡ demap_refusal base top bottom qc samples buffer
  pub frame : after ≡ demap_buffer base top bottom qc samples buffer
