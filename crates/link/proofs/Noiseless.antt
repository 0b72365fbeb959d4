-- The noiseless statement holds: each place's penalties are 0 at the symbol sent and nowhere else, so the decoder answers
-- the word before the transform; and when its premise holds.
use mathlib.Core.Path.{◌≡◌, sym, ap, ◌∙◌, subst}
use mathlib.Core.List.{List}
use Prim.Native.Nat.{ℕ, ◌*◌, ◌^◌, ◌≤◌, ◌<◌}
use native.Mathlib.Nat.{mul-le-mul_left, mul-le-mul_right, mul_comm, le_trans}
use native.Mathlib.Omega.{arith}
use lib.IntN.{ℤ, pos}
use lib.ListN.{get_or}
use lib.Pow.{pow_mono, pow_pos}
use Rattle.vector.specs.Vector.{vector_at, OnlyZero}
use Rattle.polar_code.specs.Code.{Code, IsWord}
use Rattle.polar.specs.Encode.{word_before, codeword_of, Encodable}
use Rattle.polar.specs.Message.{message_of}
use Rattle.polar.proofs.MessageLaws.{word_frozen, message_back}
use Rattle.polar.proofs.EncodeLaws.{before_word, codeword_word}
use Rattle.ccsk.specs.Chips.{differing}
use Rattle.ccsk.specs.Spread.{numbers_of}
use Rattle.demapper.specs.Samples.{llrs}
use Rattle.demapper.specs.Demap.{frame_of}
use Rattle.demapper.specs.Noiseless.{sent_symbol, sent_llr, Premise, Apart}
use Rattle.demapper.proofs.NoiselessLaws.{numbers_sent, sent_vector, premise_apart, apart_premise, clean}
use Rattle.demapper.proofs.LostLaws.{not_lost}
use Rattle.ccsk.proofs.DistanceLaws.{two_differ}
use Rattle.scms.specs.Mode.{cap_of, mode_of}
use Rattle.scms.specs.Totals.{InCode}
use Rattle.scms.specs.Claims.{Sent}
use Rattle.scms.proofs.Noiseless.{noiseless}
use Rattle.link.proofs.Accepted.{sample_size}
use Rattle.link.specs.Noiseless.{Transmission, Reception, ChainInput, message_samples, message_frame, NoiselessPremise, GivenBack, NoiselessStatement, NeverLost, PremiseConditions, Corollary}

module _ (s : Transmission) (r : Reception) (h : ChainInput s r) where
  -- the code
  abbrev code : Code
  code = s.code

  -- N
  abbrev size : ℕ
  size = 2 ^ s.code.n

  -- the base
  abbrev base : ℕ
  base = s.base

  -- the amplitude
  abbrev amplitude : ℕ
  amplitude = s.amplitude

  -- it is at most 127, so no sample that is sent counts as lost
  few : amplitude ≤ 127
  few = h.sendable.amplitude_fits.most

  -- the gain: its top
  abbrev top : ℕ
  top = r.top

  -- and its bottom
  abbrev bottom : ℕ
  bottom = r.bottom

  -- Qc
  abbrev qc : ℕ
  qc = r.settings.qc

  -- the word before the transform
  abbrev u : List ℕ
  u = word_before code.map s.message

  -- the codeword
  abbrev x : List ℕ
  x = codeword_of code s.message

  -- the frame weighed from what is sent
  abbrev frame : List ℕ
  frame = message_frame s r

  -- the message is one that `encode` accepts; any list of N numbers, as the map, will do for the buffer
  encodable : Encodable code s.message code.map
  encodable =
      let k = h.sendable in
      record { is_code = k.is_code; message_long = k.message_long; message_symbols = k.message_symbols; buffer_long = k.is_code.map_long }

  -- the word before the transform is of the code
  in_code : InCode code u
  in_code = record {
    word = before_word code s.message code.map encodable;
    holds = λ i f l e. word_frozen code.map s.message i f (let m = h.sendable.is_code.map_long in omega arith) e;
  }

  -- the codeword has N symbols
  codeword : IsWord code.n x
  codeword = codeword_word code s.message code.map encodable

  -- the 64 numbers of place i are weighed from what is sent for its symbol
  demapped_place : (i : ℕ) → i < size → vector_at frame i ≡ llrs base top bottom qc (sent_symbol base amplitude (get_or x i 0))
  unfolding message_frame message_samples
  demapped_place i l =
      ap (λ (ys : List ℤ). vector_at (frame_of base top bottom qc ys) i) (numbers_sent amplitude base x)
      ∙ sent_vector base amplitude x top bottom qc i (let e = codeword.long in omega arith)

  -- the penalty of v at place i, by the frame and by the symbol sent there
  at_place : (i v : ℕ) → i < size → get_or (vector_at frame i) v 0 ≡ sent_llr base amplitude top bottom qc (get_or x i 0) v
  unfolding sent_llr
  at_place i v l = ap (λ (w : List ℕ). get_or w v 0) (demapped_place i l)

  -- so place by place it is the premise on the symbol sent there
  premise_at : NoiselessPremise s r → (i : ℕ) → i < size → Premise base amplitude top bottom qc (get_or x i 0)
  premise_at p i l v lv d = subst (λ (y : ℕ). 1 ≤ y) (at_place i v l) (p i v l lv d)

  -- the frame is that of the codeword
  sent : NoiselessPremise s r → Sent code.n frame x
  sent p i l =
      subst (λ (w : List ℕ). OnlyZero w (get_or x i 0)) (sym (demapped_place i l))
      (clean base amplitude (get_or x i 0) few (codeword.symbols i l) top bottom qc h.gain_bottom.least h.channel_precision.least (premise_at p i l))

  -- so the word is given back, and the message with it
  given_back : NoiselessPremise s r → GivenBack s r
  unfolding cap_of codeword_of
  given_back p =
      let a = h.channel_precision.least in
      let b = h.internal_precision.least in
      let c = pow_mono {i = 1} {j = r.settings.qm} (omega arith) in
      let word = noiseless code (mode_of r.settings.qm r.settings.candidates) frame u (omega arith)
      h.candidates_fit.least h.sendable.is_code.nonzero in_code (sent p) in
      record { word_back = word; message_back = ap (message_of code.map) word ∙ message_back code.map s.message h.sendable.message_long }

  -- the condition on base, amplitude and gain is enough
  apart_holds : Apart base amplitude top bottom → NoiselessPremise s r
  apart_holds p i v l lv d =
      subst (λ (y : ℕ). 1 ≤ y) (sym (at_place i v l))
      (apart_premise base amplitude (get_or x i 0) few (codeword.symbols i l) top bottom qc h.gain_bottom.least h.channel_precision.least p v lv d)

  -- when the premise holds: a word has a place 0, and every shift differs from shift 0 in at least two chips
  when_held : PremiseConditions s r
  when_held = record {
    apart_holds = apart_holds;
    holds_apart = λ p.
        let first = pow_pos code.n in
        premise_apart base amplitude (get_or x 0 0) few (codeword.symbols 0 first) top bottom qc h.gain_bottom.least h.channel_precision.least (premise_at p 0 first);
    any_base = λ fits l. apart_holds (λ d w.
        let two = two_differ base fits h.sendable.base_turns d w in
        let more = mul-le-mul_right top (mul-le-mul_left amplitude two) in
        le_trans l (subst (λ (y : ℕ). y * top ≤ amplitude * differing base 0 d * top) (mul_comm amplitude 2) more));
  }

-- the samples of a message never reach −128
pub never_lost : (s : Transmission) → NeverLost s
unfolding message_samples
never_lost s w j l =
    let e = sample_size s.amplitude (numbers_of s.base (codeword_of s.code s.message)) j l in
    let few = w.most in
    not_lost (get_or (message_samples s) j (pos 0)) (omega arith)

-- the noiseless statement
pub noiseless_statement : (s : Transmission) (r : Reception) → NoiselessStatement s r
noiseless_statement s r h = given_back s r h

-- and its corollary
pub corollary : (s : Transmission) (r : Reception) → Corollary s r
corollary s r h = when_held s r h
