-- No call of the chain refuses what the one before it answered. The premise of a statement is what the call before
-- promises, with the answer 0, which is that it accepted; the conclusion is that the next call accepts, or by which
-- numbers it does not refuse.
use Rattle.std.specs.Prelude.{ℕ, ◌*◌, ◌/◌, ◌^◌, ◌≤◌, ◌<◌, ◌≡◌, List, [], ◌∷◌, ℤ, pos, nat_abs, length, get_or, take, Ok}
use Rattle.refusal.specs.Table.{OneOf}
use Rattle.refusal.specs.Tests.{Within}
use Rattle.polar_code.specs.Code.{Code, code_of, IsCode}
use Rattle.polar.specs.Encode.{Encoded}
use Rattle.ccsk.specs.Chips.{turned}
use Rattle.ccsk.specs.Spread.{spread_refusal, Spread}
use Rattle.demapper.specs.Demap.{demap_refusal, Demapped}
use Rattle.demapper.specs.Noiseless.{number_samples}
use Rattle.sheet.specs.CodeSheet.{SheetRead}
use Rattle.decoder_refusal.specs.Refusals.{Settings, Lent, BuffersFit, decode_refusal}

-- a sheet that `read_sheet` accepted: `decode`, given n and the first N and n × N/2 bytes of the two buffers, does not
-- refuse it by 1, 4, 5 or 6, whatever else it is given
abbrev pub SheetAccepted : (bytes map_before coefs_before map coefs : List ℕ) (n : ℕ) → Settings → (frame : List ℕ)
    → Lent → Type 0
SheetAccepted bytes map_before coefs_before map coefs n settings frame lent =
    SheetRead bytes map_before coefs_before map coefs (Ok n)
    → OneOf (decode_refusal (code_of n (take (2 ^ n) map) (take (n * (2 ^ n / 2)) coefs)) settings frame lent)
    (0 ∷ 2 ∷ 3 ∷ 13 ∷ 8 ∷ 9 ∷ [])

-- `spread` accepts the codeword that `encode` answered, for a base that 10 does not refuse and a buffer of one number
-- for each symbol
abbrev pub CodewordAccepted : Code → (message before codeword : List ℕ) (base : ℕ) (numbers : List ℕ) → Type 0
CodewordAccepted code message before codeword base numbers =
    Encoded code message before codeword 0 → (turned base 32 ≡ base → ⊥) → length numbers ≡ length codeword
    → spread_refusal base codeword numbers ≡ 0

-- the samples sent for the numbers that `spread` answered: with an amplitude from 1 to 127 each is a signed byte from
-- −127 to 127, and `demap` accepts them, for a gain and a Qc in range and a buffer of as many penalties
pub record SamplesAccepted (base : ℕ) (codeword before numbers : List ℕ) (amplitude top bottom qc : ℕ) (frame : List ℕ)
    : Type 0 where
  pub signed_bytes : Within 1 127 amplitude → (j : ℕ) → j < length (number_samples amplitude numbers)
      → nat_abs (get_or (number_samples amplitude numbers) j (pos 0)) ≤ 127
  pub accepted : Spread base codeword before numbers 0 → Within 1 255 top → Within 1 255 bottom → Within 1 5 qc
      → length frame ≡ 64 * length numbers → demap_refusal base top bottom qc (number_samples amplitude numbers) frame ≡ 0

-- what `demap` wrote at Qc for any samples, noise or not: `decode` at that Qc does not refuse it by 8 or 9, whatever
-- else it is given; and accepts it, for a code with as many places as there are symbols, a Qm and an m in range and
-- buffers of the lengths needed
pub record FrameAccepted (base top bottom : ℕ) (samples : List ℤ) (before frame : List ℕ) (code : Code)
    (settings : Settings) (lent : Lent) : Type 0 where
  pub not_eight : Demapped base top bottom settings.qc samples before frame 0
      → decode_refusal code settings frame lent ≡ 8 → ⊥
  pub not_nine : Demapped base top bottom settings.qc samples before frame 0
      → decode_refusal code settings frame lent ≡ 9 → ⊥
  pub accepted : Demapped base top bottom settings.qc samples before frame 0 → IsCode code
      → length samples ≡ 64 * 2 ^ code.n → Within settings.qc 13 settings.qm
      → Within 1 64 settings.candidates → BuffersFit (2 ^ code.n) lent → decode_refusal code settings frame lent ≡ 0
