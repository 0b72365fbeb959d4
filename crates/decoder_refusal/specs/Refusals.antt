-- By which number a call of `decode` is refused: those of document 01's table 'Refused', and 13 of document 02.
use Rattle.std.specs.Prelude.{ℕ, ◌*◌, ◌/◌, ◌-◌, ◌^◌, max, ◌≡◌, Bool, true, not, ◌&&◌, List, [], ◌∷◌, ◌++◌, eqb, length}
use Rattle.refusal.specs.Table.{Row, refusal_of}
use Rattle.refusal.specs.Tests.{outside, any_outside, any_to, Within}
use Rattle.refusal.specs.Rows.{length_row, qc_row}
use Rattle.vector.specs.Vector.{vector_at}
use Rattle.vector.specs.Frame.{IsFrame}
use Rattle.decoder_refusal.specs.declared.settings.Settings as declared
use Rattle.decoder_refusal.specs.declared.lent.Lent as lent
use Rattle.polar_code.specs.Code.{Code, code_sizes, code_table, IsCode}

-- no number of the list is 0
unfoldable pub no_zero : List ℕ → Bool
no_zero [] = true
no_zero (x ∷ xs) = not (eqb x 0) && no_zero xs

-- the greatest number of the list, 0 where it has none
unfoldable pub greatest : List ℕ → ℕ
greatest [] = 0
greatest (x ∷ xs) = max x (greatest xs)

-- 3: Qm below Qc or above 13
abbrev pub qm_row : (qc qm : ℕ) → Row
qm_row qc qm = (3, outside qc 13 qm)

-- 13: the number m of values that a check node tries is outside 1 to 64
abbrev pub candidates_row : ℕ → Row
candidates_row candidates = (13, outside 1 64 candidates)

-- 8: a penalty above the largest one
abbrev pub above_row : (most : ℕ) → List ℕ → Row
above_row most frame = (8, any_outside 0 most frame)

-- 8: a penalty above 2^Qc − 1
abbrev pub llrs_row : (qc : ℕ) → List ℕ → Row
llrs_row qc frame = above_row (2 ^ qc - 1) frame

-- 9: the 64 penalties of one of the N symbols hold no zero
abbrev pub zeros_row : (places : ℕ) → List ℕ → Row
zeros_row places frame = (9, any_to places (λ i. no_zero (vector_at frame i)))

-- the two rows on the penalties of a frame, the largest penalty being `most`
abbrev pub penalty_table : (most : ℕ) → List ℕ → List Row
penalty_table most frame = above_row most frame ∷ zeros_row (length frame / 64) frame ∷ []

-- what a caller of `decode` sets beside the code (src/settings.rt): the precisions Qc and Qm, and how many values a
-- check node tries (the papers' m)
abbrev pub Settings : Type 0
Settings = declared.Settings

-- those settings
abbrev pub settings_of : (qc qm candidates : ℕ) → Settings
settings_of qc qm candidates = record { qc = qc; qm = qm; candidates = candidates }

-- the buffers that a caller of `decode` lends to be written
pub record Lent : Type 0 where
  pub work : List ℕ
  pub symbols : List ℕ
  pub report : List ℕ
  pub totals : List ℕ

-- those buffers
abbrev pub lent_of : (work symbols report totals : List ℕ) → Lent
lent_of work symbols report totals = record { work = work; symbols = symbols; report = report; totals = totals }

-- what the buffers hold (src/lent.rt)
abbrev pub lent_now : lent.Lent → Lent
lent_now l = lent_of l.work.now l.symbols.now l.report.now l.totals.now

-- the rows on the lengths of the frame and of the buffers, for this many places
abbrev pub buffer_rows : (places : ℕ) (frame : List ℕ) → Lent → List Row
buffer_rows places frame lent =
    length_row (length frame) (64 * places)
    ∷ length_row (length lent.work) (65 * places)
    ∷ length_row (length lent.symbols) places
    ∷ length_row (length lent.report) (64 * places)
    ∷ length_row (length lent.totals) places
    ∷ []

-- the buffers have the lengths that this many places need
pub record BuffersFit (places : ℕ) (lent : Lent) : Type 0 where
  pub work_long : length lent.work ≡ 65 * places
  pub symbols_long : length lent.symbols ≡ places
  pub report_long : length lent.report ≡ 64 * places
  pub totals_long : length lent.totals ≡ places

-- the rows that `decode` has the input for, in the order in which they are tried: first those on n and the lengths
abbrev pub size_table : Code → (frame : List ℕ) → Lent → List Row
size_table code frame lent = code_sizes code ++ buffer_rows (2 ^ code.n) frame lent

-- the rows on the settings: 13 comes after 3
abbrev pub settings_rows : Settings → List Row
settings_rows settings =
    qc_row settings.qc ∷ qm_row settings.qc settings.qm ∷ candidates_row settings.candidates ∷ []

-- the rows on the settings, and after them those on the code's bytes
abbrev pub code_rows : (map cs : List ℕ) → Settings → List Row
code_rows map cs settings = settings_rows settings ++ code_table map cs

-- the rows after these, for this largest penalty and this many vectors
abbrev pub frame_rows : (most places : ℕ) (frame : List ℕ) → List Row
frame_rows most places frame = above_row most frame ∷ zeros_row places frame ∷ []

-- then those on the settings and on what the slices hold, the frame having this many vectors
abbrev pub content_table : (places : ℕ) (map cs : List ℕ) → Settings → (frame : List ℕ) → List Row
content_table places map cs settings frame =
    code_rows map cs settings ++ frame_rows (2 ^ settings.qc - 1) places frame

module _ (code : Code) (settings : Settings) (frame : List ℕ) (lent : Lent) where
  -- all rows
  abbrev pub decode_table : List Row
  decode_table = size_table code frame lent ++ content_table (2 ^ code.n) code.map code.coefs settings frame

  -- the number of the refusal, 0 where the call is accepted
  unfoldable pub decode_refusal : ℕ
  decode_refusal = refusal_of decode_table

  -- an input that no row of that table fits
  pub record Decodable : Type 0 where
    pub is_code : IsCode code
    pub frame_long : length frame ≡ 64 * 2 ^ code.n
    pub buffers : BuffersFit (2 ^ code.n) lent
    pub channel_precision : Within 1 5 settings.qc
    pub internal_precision : Within settings.qc 13 settings.qm
    pub candidates_fit : Within 1 64 settings.candidates
    pub is_frame : IsFrame settings.qc frame
