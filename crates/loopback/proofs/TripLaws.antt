-- The promise of `round_trip` from what each call of the chain leaves.
use mathlib.Core.Path.{◌≡◌, sym, ap, ◌∙◌, subst}
use mathlib.Core.List.{List, [], ◌∷◌}
use Prim.Native.Nat.{ℕ, ◌*◌, ◌^◌}
use native.Mathlib.Omega.{arith}
use lib.IntN.{ℤ}
use lib.ListN.{length, replicate}
use lib.Pow.{pow_mono, pow_pos}
use Rattle.refusal.specs.Tests.{Within}
use Rattle.refusal.proofs.Laws.{when_accepted, when_refused}
use Rattle.polar.specs.Message.{message_of}
use Rattle.demapper.specs.Demap.{frame_of, Demapped}
use Rattle.scms.specs.Mode.{Mode, mode_of}
use Rattle.scms.specs.Decoder as scms
use Rattle.decoder_refusal.specs.Refusals.{decode_refusal, Lent}
use Rattle.std.proofs.Common.{Result, Err}
use Rattle.refusal.specs.Kinds.{number_of, returned}
use Rattle.refusal.specs.declared.kinds.Refusal.{Refusal}
use Rattle.refusal.proofs.KindLaws.{number_nonzero}
use Rattle.decoder.specs.Decode.{decode_work, decode_report, Decoded}
use Rattle.link.specs.Noiseless.{Transmission, Reception, message_samples, message_frame, message_symbols, NoiselessPremise, GivenBack}
use Rattle.link.proofs.Accepted.{demappable, is_demapped, frame_accepted}
use Rattle.link.proofs.Noiseless.{noiseless_statement}
use Rattle.loopback.specs.Refusals.{TripLent, trip_refusal, TripInput}
use Rattle.loopback.specs.RoundTrip.{trip_answer, trip_samples, trip_frame, trip_work, trip_symbols, trip_report, trip_totals, trip_decoded, RoundTrip}
use Rattle.loopback.specs.Parts.{Reading, Sending}
use Rattle.loopback.proofs.RefusalLaws.{accepted, accepts}

module _ (s : Transmission) (r : Reception) (lent : TripLent) where
  -- the number of the refusal
  abbrev refusal : ℕ
  refusal = trip_refusal s r lent

  -- what the decoder's nodes go by
  abbrev mode : Mode
  mode = mode_of r.settings.qm r.settings.candidates

  -- the promise from its equations and what `decode` promises: what else it says is the noiseless statement
  promise : {after : TripLent} {a : Result ℕ Refusal} → returned a ≡ trip_answer s r lent
      → after.samples ≡ trip_samples s r lent → after.frame ≡ trip_frame s r lent
      → after.decoder.work ≡ trip_work s r lent → after.decoder.symbols ≡ trip_symbols s r lent
      → after.decoder.report ≡ trip_report s r lent → after.decoder.totals ≡ trip_totals s r lent → after.decoded ≡ trip_decoded s r lent
      → (refusal ≡ 0 → Decoded s.code r.settings after.frame lent.decoder after.decoder a)
      → RoundTrip s r lent after a
  unfolding trip_symbols trip_decoded
  promise ea es ef ew ey er et ed d =
      let made = message_symbols s r in
      let back : (e : refusal ≡ 0) → NoiselessPremise s r → GivenBack s r = λ e. noiseless_statement s r (accepted s r lent e).chain in
      record {
        answer = ea;
        samples_are = es;
        frame_is = ef;
        work_is = ew;
        symbols_are = ey;
        report_is = er;
        totals_are = et;
        decoded_is = ed;
        decoder = d;
        word_back = λ e p. ey ∙ when_accepted refusal made lent.decoder.symbols e ∙ (back e p).word_back;
        message_back = λ e p. ed ∙ when_accepted refusal (message_of s.code.map made) lent.decoded e ∙ (back e p).message_back;
      }

  -- a refusal: its number, and every buffer as it came
  pub promise_refused : (k : Refusal) → number_of k ≡ refusal → RoundTrip s r lent lent (Err k)
  unfolding trip_answer trip_samples trip_frame trip_work trip_symbols trip_report trip_totals trip_decoded
  promise_refused k e =
      let demapped = message_frame s r in
      let h : (refusal ≡ 0 → ⊥) = λ z. number_nonzero k (e ∙ z) in
      promise
      (λ i. record { number = e i; values = sym (when_refused refusal (scms.count s.code mode demapped ∷ []) [] h) i })
      (sym (when_refused refusal (message_samples s) lent.samples h))
      (sym (when_refused refusal demapped lent.frame h))
      (sym (when_refused refusal (replicate (65 * 2 ^ s.code.n) 0) lent.decoder.work h))
      (sym (when_refused refusal (message_symbols s r) lent.decoder.symbols h))
      (sym (when_refused refusal (scms.report s.code mode demapped) lent.decoder.report h))
      (sym (when_refused refusal (scms.totals s.code mode demapped) lent.decoder.totals h))
      (sym (when_refused refusal (message_of s.code.map (message_symbols s r)) lent.decoded h))
      (λ z. absurd (h z))

  -- a call that is not refused is accepted
  pub not_refused : 0 ≡ refusal → TripInput s r lent
  not_refused e = accepted s r lent (sym e)

  -- a call that is accepted
  module _ (t : TripInput s r lent) where
    -- the frame weighed from the samples sent
    abbrev demapped : List ℕ
    demapped = message_frame s r

    -- the refusal is 0
    none : refusal ≡ 0
    none = accepts s r lent t

    -- what `send` is given
    pub sending : Sending s lent.samples
    sending = record { sendable = t.chain.sendable; samples_long = t.samples_long }

    -- what `read_message` is given
    pub reading : {symbols' : List ℕ} → length symbols' ≡ length lent.decoder.symbols → Reading s.code.map symbols' lent.decoded
    reading l = record { places = l ∙ t.buffers.symbols_long ∙ sym t.chain.sendable.is_code.map_long; room = t.decoded_long }

    -- after `send` and `demap`: the samples, the frame and what `demap` answered
    module _ {samples' : List ℤ} (is : samples' ≡ message_samples s) (long : length samples' ≡ length lent.samples) {frame' : List ℕ} {q : ℕ}
        (d : Demapped s.base r.top r.bottom r.settings.qc samples' lent.frame frame' q) where
      -- `demap` accepted the samples
      demapped_so : Demapped s.base r.top r.bottom r.settings.qc samples' lent.frame frame' 0
      demapped_so =
          let c = t.chain in
          let most = pow_mono {i = s.code.n} {j = 8} c.sendable.is_code.layers.most in
          let places : Within 1 256 (2 ^ s.code.n) = record { least = pow_pos s.code.n; most = omega arith } in
          subst (Demapped s.base r.top r.bottom r.settings.qc samples' lent.frame frame')
          (d.answer ∙ demappable s.base r.top r.bottom r.settings.qc samples' lent.frame (2 ^ s.code.n) places (long ∙ t.samples_long) t.frame_long
          c.sendable.base_turns c.gain_top c.gain_bottom c.channel_precision) d

      -- so the frame is the one weighed from those sent
      frame_demapped : frame' ≡ demapped
      unfolding message_frame
      frame_demapped =
          is_demapped s.base r.top r.bottom r.settings.qc samples' lent.frame frame' demapped_so
          ∙ ap (frame_of s.base r.top r.bottom r.settings.qc) is

      -- and `decode` accepts it
      decode_accepts : decode_refusal s.code r.settings frame' lent.decoder ≡ 0
      decode_accepts =
          (frame_accepted s.base r.top r.bottom samples' lent.frame frame' s.code r.settings lent.decoder).accepted demapped_so
          t.chain.sendable.is_code (long ∙ t.samples_long) t.chain.internal_precision t.chain.candidates_fit t.buffers

      -- after `decode` and `read_message`: all that is promised
      pub promise_accepted : {after : Lent} {decoded' : List ℕ} {a : Result ℕ Refusal} → Decoded s.code r.settings frame' lent.decoder after a
          → decoded' ≡ message_of s.code.map after.symbols
          → RoundTrip s r lent (record { samples = samples'; frame = frame'; decoder = after; decoded = decoded' }) a
      unfolding trip_answer trip_samples trip_frame trip_work trip_symbols trip_report trip_totals trip_decoded decode_work decode_report
      promise_accepted p m =
          let k = decode_accepts in
          let kr = decode_refusal s.code r.settings frame' lent.decoder in
          let at-frame = frame_demapped in
          let decided = p.decided k ∙ ap (scms.symbols s.code mode) at-frame in
          let zeros = replicate {A = ℕ} (65 * 2 ^ s.code.n) 0 in
          promise
          (p.counted k ∙ λ i. record { number = sym none i; values = (ap (λ (f : List ℕ). scms.count s.code mode f ∷ []) at-frame ∙ sym (when_accepted refusal (scms.count s.code mode demapped ∷ []) [] none)) i })
          (is ∙ sym (when_accepted refusal (message_samples s) lent.samples none))
          (at-frame ∙ sym (when_accepted refusal demapped lent.frame none))
          (p.work_is ∙ when_accepted kr zeros lent.decoder.work k ∙ sym (when_accepted refusal zeros lent.decoder.work none))
          (decided ∙ sym (when_accepted refusal (message_symbols s r) lent.decoder.symbols none))
          (p.report_is ∙ when_accepted kr (scms.report s.code mode _) lent.decoder.report k ∙ ap (scms.report s.code mode) at-frame
          ∙ sym (when_accepted refusal (scms.report s.code mode demapped) lent.decoder.report none))
          (p.totalled k ∙ ap (scms.totals s.code mode) at-frame ∙ sym (when_accepted refusal (scms.totals s.code mode demapped) lent.decoder.totals none))
          (m ∙ ap (message_of s.code.map) decided ∙ sym (when_accepted refusal (message_of s.code.map (message_symbols s r)) lent.decoded none))
          (λ z. p)

-- calls made on a transmission equal to the one that is sent, whose map is lent
module _ {s s' : Transmission} (at : s ≡ s') {map : List ℕ} (same : map ≡ s.code.map) {r : Reception} {lent : TripLent} (t : TripInput s' r lent) where
  -- what `read_message` is given
  pub reading_for : {symbols' : List ℕ} → length symbols' ≡ length lent.decoder.symbols → Reading map symbols' lent.decoded
  reading_for {symbols'} l =
      subst (λ (m : List ℕ). Reading m symbols' lent.decoded) (sym (same ∙ ap (λ (x : Transmission). x.code.map) at)) (reading s' r lent t l)

  -- all that is promised
  pub promise_for : {samples' : List ℤ} {frame' decoded' : List ℕ} {q : ℕ} {after : Lent} {a : Result ℕ Refusal} → samples' ≡ message_samples s'
      → length samples' ≡ length lent.samples → Demapped s.base r.top r.bottom r.settings.qc samples' lent.frame frame' q
      → Decoded s.code r.settings frame' lent.decoder after a → decoded' ≡ message_of map after.symbols
      → RoundTrip s' r lent (record { samples = samples'; frame = frame'; decoder = after; decoded = decoded' }) a
  promise_for {samples'} {frame'} {q = q} {after} {a} is long d p m =
      promise_accepted s' r lent t is long
      (subst (λ (x : Transmission). Demapped x.base r.top r.bottom r.settings.qc samples' lent.frame frame' q) at d)
      (subst (λ (x : Transmission). Decoded x.code r.settings frame' lent.decoder after a) at p)
      (m ∙ ap (λ (x : List ℕ). message_of x after.symbols) (same ∙ ap (λ (x : Transmission). x.code.map) at))
