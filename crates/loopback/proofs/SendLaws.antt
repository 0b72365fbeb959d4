-- What is sent: no call refuses what it is given, so the codeword, the numbers and the samples are those of the message.
use mathlib.Core.Path.{◌≡◌, sym, ap, ◌∙◌, subst}
use mathlib.Core.List.{List}
use Prim.Native.Nat.{ℕ}
use lib.IntN.{ℤ}
use Rattle.polar.specs.Encode.{Encoded}
use Rattle.polar.proofs.EncodeLaws.{accepts}
use Rattle.ccsk.specs.Spread.{numbers_of, Spread}
use Rattle.demapper.specs.Noiseless.{number_samples}
use Rattle.link.specs.Noiseless.{Transmission, message_samples}
use Rattle.link.proofs.Accepted.{is_codeword, codeword_long, codeword_accepted, is_numbers}
use Rattle.loopback.specs.Parts.{SendingWith}

-- after `encode`: what it answered, and its buffer at exit
module _ {s : Transmission} {codeword₀ numbers₀ : List ℕ} {samples : List ℤ} (g : SendingWith s codeword₀ numbers₀ samples)
    {codeword : List ℕ} {r : ℕ} (e : Encoded s.code s.message codeword₀ codeword r) where
  -- it accepted the message
  encoded : Encoded s.code s.message codeword₀ codeword 0
  encoded =
      let k = g.given.sendable in
      subst (Encoded s.code s.message codeword₀ codeword) (e.answer ∙ accepts s.code s.message codeword₀ (record {
        is_code = k.is_code;
        message_long = k.message_long;
        message_symbols = k.message_symbols;
        buffer_long = g.codeword_long;
      })) e

  -- after `spread` of that
  module _ {numbers : List ℕ} {q : ℕ} (f : Spread s.base codeword numbers₀ numbers q) where
    -- it accepted the codeword
    spread_so : Spread s.base codeword numbers₀ numbers 0
    spread_so =
        let long = g.numbers_long ∙ sym (codeword_long s.code s.message codeword₀ codeword encoded) in
        subst (Spread s.base codeword numbers₀ numbers)
        (f.answer ∙ codeword_accepted s.code s.message codeword₀ codeword s.base numbers₀ encoded g.given.sendable.base_turns long) f

    -- so the samples of its numbers are those sent for the message
    pub sent : (after : List ℤ) → after ≡ number_samples s.amplitude numbers → after ≡ message_samples s
    unfolding message_samples
    sent after is =
        is ∙ ap (number_samples s.amplitude) (is_numbers s.base codeword numbers₀ numbers spread_so)
        ∙ ap (λ (w : List ℕ). number_samples s.amplitude (numbers_of s.base w)) (is_codeword s.code s.message codeword₀ codeword encoded)

-- the same, where the calls are made on an equal transmission
pub sent_for : {s s' : Transmission} {codeword₀ numbers₀ codeword numbers : List ℕ} {samples after : List ℤ} {r q : ℕ} → s ≡ s'
    → SendingWith s' codeword₀ numbers₀ samples → Encoded s.code s.message codeword₀ codeword r → Spread s.base codeword numbers₀ numbers q
    → after ≡ number_samples s.amplitude numbers → after ≡ message_samples s'
sent_for {codeword₀ = codeword₀} {numbers₀} {samples = samples} {after = after} at g e f is =
    sent (subst (λ (x : Transmission). SendingWith x codeword₀ numbers₀ samples) (sym at) g) e f after is ∙ ap message_samples at
