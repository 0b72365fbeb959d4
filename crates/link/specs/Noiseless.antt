-- The noiseless statement, which document 01 names (demand 2's second half): a message sent without noise is decoded to
-- itself. All is said with the definitions that the promises of `encode`, `spread`, `demap` and `decode` cite, and with
-- the samples that are sent for numbers.
use Rattle.std.specs.Prelude.{ℕ, ◌*◌, ◌^◌, ◌≤◌, ◌<◌, ◌≡◌, List, ℤ, pos, length, get_or}
use Rattle.refusal.specs.Tests.{Within}
use Rattle.vector.specs.Vector.{vector_at}
use Rattle.polar_code.specs.Code.{Code, code_of, message_places, IsCode}
use Rattle.polar.specs.Encode.{word_before, codeword_of}
use Rattle.polar.specs.Message.{message_of}
use Rattle.ccsk.specs.Chips.{turned}
use Rattle.ccsk.specs.Spread.{numbers_of}
use Rattle.demapper.specs.Samples.{lost}
use Rattle.demapper.specs.Demap.{frame_of}
use Rattle.demapper.specs.Noiseless.{number_samples, Apart}
use Rattle.scms.specs.Mode.{mode_of}
use Rattle.scms.specs.Decoder.{symbols}
use Rattle.decoder_refusal.specs.Refusals.{Settings, settings_of}

-- what is sent, and how: a message of symbols by a code, with a base and an amplitude
pub record Transmission : Type 0 where
  pub code : Code
  pub message : List ℕ
  pub base : ℕ
  pub amplitude : ℕ

-- how it is received: the gain, top over bottom, and what the decoder's caller sets
pub record Reception : Type 0 where
  pub top : ℕ
  pub bottom : ℕ
  pub settings : Settings

-- a code, a message, a base and an amplitude that are not refused
pub record Sendable (s : Transmission) : Type 0 where
  pub is_code : IsCode s.code
  pub message_long : length s.message ≡ message_places s.code.map
  pub message_symbols : (i : ℕ) → i < length s.message → Within 0 63 (get_or s.message i 0)
  pub base_turns : turned s.base 32 ≡ s.base → ⊥
  pub amplitude_fits : Within 1 127 s.amplitude

-- the same with a gain and settings that are not refused
pub record ChainInput (s : Transmission) (r : Reception) : Type 0 where
  pub sendable : Sendable s
  pub gain_top : Within 1 255 r.top
  pub gain_bottom : Within 1 255 r.bottom
  pub channel_precision : Within 1 5 r.settings.qc
  pub internal_precision : Within r.settings.qc 13 r.settings.qm
  pub candidates_fit : Within 1 64 r.settings.candidates

-- the samples sent for a message: its codeword is spread to numbers, and +A is sent for each chip 0 of these and −A for
-- each chip 1
unfoldable pub message_samples : Transmission → List ℤ
message_samples s = number_samples s.amplitude (numbers_of s.base (codeword_of s.code s.message))

-- with an amplitude from 1 to 127 none of them is −128, which would count as lost
abbrev pub NeverLost : Transmission → Type 0
NeverLost s =
    Within 1 127 s.amplitude → (j : ℕ) → j < length (message_samples s) → get_or (message_samples s) j (pos 0) ≡ lost → ⊥

module _ (s : Transmission) (r : Reception) where
  -- the frame of penalties weighed from them
  unfoldable pub message_frame : List ℕ
  message_frame = frame_of s.base r.top r.bottom r.settings.qc (message_samples s)

  -- the premise: at each place i of the codeword each wrong symbol's penalty, weighed from the sent samples, is still
  -- at least 1 after rounding
  abbrev pub NoiselessPremise : Type 0
  NoiselessPremise =
      (i v : ℕ) → i < 2 ^ s.code.n → v < 64 → (v ≡ get_or (codeword_of s.code s.message) i 0 → ⊥)
      → 1 ≤ get_or (vector_at message_frame i) v 0

  -- the symbols that are decoded from that frame at the precision Qm with m values tried by a check node
  abbrev pub message_symbols : List ℕ
  message_symbols = symbols s.code (mode_of r.settings.qm r.settings.candidates) message_frame

  -- they are the word before the transform, and those at the message places, in rising order, are the message
  pub record GivenBack : Type 0 where
    pub word_back : message_symbols ≡ word_before s.code.map s.message
    pub message_back : message_of s.code.map message_symbols ≡ s.message

  -- the noiseless statement, at every precision and with every m, clipped or not
  abbrev pub NoiselessStatement : Type 0
  NoiselessStatement = ChainInput s r → NoiselessPremise → GivenBack

  -- When the premise holds, as conditions on base, amplitude and gain alone. It holds exactly where, for every shift
  -- from 1 to 63, the gain times the amplitude times the number of chips in which it differs from shift 0 is at least
  -- 1. For every base of 64 bits that is not refused it is enough that the gain times twice the amplitude is at least 1
  pub record PremiseConditions : Type 0 where
    pub apart_holds : Apart s.base s.amplitude r.top r.bottom → NoiselessPremise
    pub holds_apart : NoiselessPremise → Apart s.base s.amplitude r.top r.bottom
    pub any_base : s.base < 2 ^ 64 → r.bottom ≤ 2 * s.amplitude * r.top → NoiselessPremise

  -- the corollary
  abbrev pub Corollary : Type 0
  Corollary = ChainInput s r → PremiseConditions
