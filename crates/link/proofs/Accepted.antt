-- No call of the chain refuses what the one before it answered.
use mathlib.Core.Path.{◌≡◌, refl, sym, ap, ◌∙◌, subst}
use mathlib.Core.Logic.{inl, inr}
use mathlib.Core.Bool.{false, ◌||◌}
use mathlib.Core.List.{List, [], ◌∷◌}
use Prim.Native.Nat.{ℕ, ◌*◌, ◌/◌, ◌%◌, ◌^◌, ◌<◌}
use native.Mathlib.Nat.{le_refl}
use native.Mathlib.Decide.{ℕ_discrete}
use native.Mathlib.Omega.{arith}
use lib.Dec.{eqb}
use lib.IntN.{ℤ, pos, nat_abs}
use lib.ListN.{length, get_or, take, length-map}
use lib.Pow.{pow_mono, pow_pos}
use Rattle.refusal.specs.Table.{Row, refusal_of, OneOf}
use Rattle.refusal.specs.Tests.{Within}
use Rattle.refusal.proofs.Laws.{when_accepted}
use Rattle.refusal.proofs.Among.{memberb, refusal_among, not_among}
use Rattle.vector.specs.Frame.{IsFrame}
use Rattle.vector.proofs.Laws.{length_tabulate, get_d_tabulate}
use Rattle.polar_code.specs.Code.{Code, code_of}
use Rattle.polar.specs.Encode.{codeword_of, encode_refusal, encode_buffer, Encodable, Encoded}
use Rattle.polar.proofs.EncodeLaws as encode
use Rattle.ccsk.specs.Chips.{chip, turned}
use Rattle.ccsk.specs.Spread.{numbers_of, spread_refusal, spread_buffer, Spreadable, Spread}
use Rattle.demapper.specs.Demap.{frame_of, demap_refusal, demap_buffer, Demapped}
use Rattle.demapper.specs.Noiseless.{sent_sample, number_samples}
use Rattle.ccsk.proofs.SpreadLaws as spread
use Rattle.demapper.proofs.DemapLaws as demap
use Rattle.demapper.proofs.FrameLaws.{length_frame, frame_fits}
use Rattle.demapper.proofs.NoiselessLaws.{sent_size, samples_flat}
use Rattle.decoder_refusal.specs.Refusals.{Settings, Lent, size_table, content_table, decode_refusal}
use Rattle.decoder_refusal.proofs.RefusalLaws.{small_frame, zeros_frame, size_refused, size_accepted}
use Rattle.decoder_refusal.proofs.RefusalLaws as decode
use Rattle.sheet.proofs.SheetLaws.{code_read}
use Rattle.link.specs.Accepted.{SheetAccepted, CodewordAccepted, SamplesAccepted, FrameAccepted}

-- ---- `spread` after `encode`
module _ (code : Code) (message before codeword : List ℕ) (e : Encoded code message before codeword 0) where
  -- the message was accepted
  encodable : Encodable code message before
  encodable = encode.accepted code message before (sym e.answer)

  -- so the buffer is the codeword
  pub is_codeword : codeword ≡ codeword_of code message
  unfolding encode_buffer
  is_codeword = e.codeword ∙ when_accepted (encode_refusal code message before) (codeword_of code message) before (sym e.answer)

  -- which has N symbols
  pub codeword_long : length codeword ≡ 2 ^ code.n
  codeword_long = ap length is_codeword ∙ (encode.codeword_word code message before encodable).long

  -- `spread` accepts a word of symbols
  spreadable_word : (base : ℕ) (numbers : List ℕ) → (turned base 32 ≡ base → ⊥) → length numbers ≡ length codeword → Spreadable base codeword numbers
  spreadable_word base numbers h l =
      let word = encode.codeword_word code message before encodable in
      let long = codeword_long in
      let layers = encodable.is_code.layers in
      let most = pow_mono {i = code.n} {j = 8} layers.most in
      let some = pow_pos code.n in
      record {
        count = record { least = omega arith; most = omega arith };
        buffer_long = l;
        symbols_small = λ i k.
            let s = word.symbols i (omega arith) in
            let same = ap (λ (w : List ℕ). get_or w i 0) is_codeword in
            record { least = omega arith; most = omega arith };
        base_turns = h;
      }

-- `spread` accepts what `encode` answered
pub codeword_accepted : (code : Code) (message before codeword : List ℕ) (base : ℕ) (numbers : List ℕ)
    → CodewordAccepted code message before codeword base numbers
codeword_accepted code message before codeword base numbers e h l =
    spread.accepts base codeword numbers (spreadable_word code message before codeword e base numbers h l)

-- ---- `demap` after `spread`

-- 64 samples are sent for each number
length_samples : (amplitude : ℕ) (numbers : List ℕ) → length (number_samples amplitude numbers) ≡ 64 * length numbers
length_samples amplitude numbers = ap length (samples_flat amplitude numbers) ∙ length_tabulate (64 * length numbers) _

-- each is the amplitude without its sign
pub sample_size : (amplitude : ℕ) (numbers : List ℕ) (j : ℕ) → j < length (number_samples amplitude numbers) → nat_abs (get_or (number_samples amplitude numbers) j (pos 0)) ≡ amplitude
sample_size amplitude numbers j l =
    let e = length_samples amplitude numbers in
    ap (λ (ys : List ℤ). nat_abs (get_or ys j (pos 0))) (samples_flat amplitude numbers)
    ∙ ap nat_abs (get_d_tabulate (pos 0) (64 * length numbers) (λ i. sent_sample amplitude (chip (get_or numbers (i / 64) 0) (i % 64))) j (omega arith))
    ∙ sent_size amplitude (chip (get_or numbers (j / 64) 0) (j % 64))

module _ (base : ℕ) (codeword before numbers : List ℕ) (s : Spread base codeword before numbers 0) where
  -- the codeword was accepted
  spreadable : Spreadable base codeword before
  spreadable = spread.accepted base codeword before (sym s.answer)

  -- so the buffer is the numbers of its symbols
  pub is_numbers : numbers ≡ numbers_of base codeword
  unfolding spread_buffer
  is_numbers = s.numbers ∙ when_accepted (spread_refusal base codeword before) (numbers_of base codeword) before (sym s.answer)

  -- one for each
  as_many : length numbers ≡ length codeword
  unfolding numbers_of
  as_many = ap length is_numbers ∙ length-map codeword (turned base)

-- `demap` accepts the samples of 1 to 256 symbols, with a base, a gain and a Qc that are not refused and a buffer of as many penalties
pub demappable : (base top bottom qc : ℕ) (samples : List ℤ) (frame : List ℕ) (count : ℕ) → Within 1 256 count → length samples ≡ 64 * count → length frame ≡ 64 * count
    → (turned base 32 ≡ base → ⊥) → Within 1 255 top → Within 1 255 bottom → Within 1 5 qc → demap_refusal base top bottom qc samples frame ≡ 0
demappable base top bottom qc samples frame count w ls lf h wt wb wq =
    let few = w.least in
    let many = w.most in
    demap.accepts base top bottom qc samples frame (record {
      whole = omega arith;
      count = record { least = omega arith; most = omega arith };
      buffer_long = omega arith;
      precision = wq;
      base_turns = h;
      gain_top = wt;
      gain_bottom = wb;
    })

-- `demap` accepts what is sent for the numbers that `spread` answered
pub samples_accepted : (base : ℕ) (codeword before numbers : List ℕ) (amplitude top bottom qc : ℕ) (frame : List ℕ)
    → SamplesAccepted base codeword before numbers amplitude top bottom qc frame
samples_accepted base codeword before numbers amplitude top bottom qc frame = record {
  signed_bytes = λ w j l. let e = sample_size amplitude numbers j l in let m = w.most in omega arith;
  accepted = λ s wt wb wq l.
      let t = spreadable base codeword before numbers s in
      let m = as_many base codeword before numbers s in
      demappable base top bottom qc (number_samples amplitude numbers) frame (length numbers) (subst (Within 1 256) (sym m) t.count) (length_samples amplitude numbers) l t.base_turns wt wb wq;
}

-- ---- `decode` after `demap`

-- a frame is not refused by 8 or 9
module _ (code : Code) (settings : Settings) (frame : List ℕ) (lent : Lent) (f : IsFrame settings.qc frame) where
  -- the numbers that are left
  abbrev left : List ℕ
  left = 1 ∷ 2 ∷ 3 ∷ 13 ∷ 4 ∷ 5 ∷ 6 ∷ []

  -- the rows on n and the lengths
  abbrev sizes : List Row
  sizes = size_table code frame lent

  -- the others
  abbrev contents : List Row
  contents = content_table (length frame / 64) code.map code.coefs settings frame

  -- the rows on n and the lengths have other numbers
  by_size : OneOf (refusal_of sizes) (0 ∷ left)
  by_size = refusal_among left sizes (inr tt, (inr tt, (inr tt, (inr tt, (inr tt, (inr tt, (inr tt, (inr tt, tt))))))))

  -- of the others two have them, and do not fit
  by_content : OneOf (refusal_of contents) (0 ∷ left)
  by_content =
      let small = small_frame settings.qc frame f in
      let zeros = zeros_frame settings.qc frame f (length frame / 64) (le_refl (length frame / 64)) in
      refusal_among left contents (inr tt, (inr tt, (inr tt, (inr tt, (inr tt, (inr tt, (inl small, (inl zeros, tt))))))))

  -- so the refusal is one of these
  not_by_llrs : OneOf (decode_refusal code settings frame lent) (0 ∷ left)
  not_by_llrs = go (ℕ_discrete (refusal_of sizes) 0)
    where
      go : Dec (refusal_of sizes ≡ 0) → OneOf (decode_refusal code settings frame lent) (0 ∷ left)
      go (yes e) = subst (λ (k : ℕ). OneOf k (0 ∷ left)) (size_accepted code settings frame lent (refusal_of contents) e refl) by_content
      go (no h) = subst (λ (k : ℕ). OneOf k (0 ∷ left)) (size_refused code settings frame lent (refusal_of sizes) refl h) by_size

  -- and a number that is none of them it is not
  not_number : (k : ℕ) → eqb k 0 || memberb k left ≡ false → decode_refusal code settings frame lent ≡ k → ⊥
  not_number k n e = not_among k (0 ∷ left) n (subst (λ (x : ℕ). OneOf x (0 ∷ left)) e not_by_llrs)

module _ (base top bottom qc : ℕ) (samples : List ℤ) (before frame : List ℕ) (d : Demapped base top bottom qc samples before frame 0) where
  -- what `demap` wrote is what is weighed from the samples
  pub is_demapped : frame ≡ frame_of base top bottom qc samples
  unfolding demap_buffer
  is_demapped = d.frame ∙ when_accepted (demap_refusal base top bottom qc samples before) (frame_of base top bottom qc samples) before (sym d.answer)

  -- which is a frame
  written_frame : IsFrame qc frame
  written_frame = subst (IsFrame qc) (sym is_demapped) (frame_fits base top bottom qc samples)

  -- of 64 penalties for each of N symbols
  written_long : (n : ℕ) → length samples ≡ 64 * 2 ^ n → length frame ≡ 64 * 2 ^ n
  written_long n l = let e = ap length is_demapped ∙ length_frame base top bottom qc samples in omega arith

-- `decode` does not refuse it by 8 or 9, and accepts it for a code of that length
pub frame_accepted : (base top bottom : ℕ) (samples : List ℤ) (before frame : List ℕ) (code : Code) (settings : Settings) (lent : Lent)
    → FrameAccepted base top bottom samples before frame code settings lent
frame_accepted base top bottom samples before frame code settings lent =
    let qc = settings.qc in
    record {
      not_eight = λ d. not_number code settings frame lent (written_frame base top bottom qc samples before frame d) 8 refl;
      not_nine = λ d. not_number code settings frame lent (written_frame base top bottom qc samples before frame d) 9 refl;
      accepted = λ d c l w m b. decode.accepts code settings frame lent (record {
        is_code = c;
        frame_long = written_long base top bottom qc samples before frame d code.n l;
        buffers = b;
        channel_precision = (demap.accepted base top bottom qc samples before (sym d.answer)).precision;
        internal_precision = w;
        candidates_fit = m;
        is_frame = written_frame base top bottom qc samples before frame d;
      });
    }

-- ---- `decode` after `read_sheet`
pub sheet_accepted : (bytes map_before coefs_before map coefs : List ℕ) (n : ℕ) (settings : Settings) (frame : List ℕ) (lent : Lent)
    → SheetAccepted bytes map_before coefs_before map coefs n settings frame lent
sheet_accepted bytes map_before coefs_before map coefs n settings frame lent read =
    decode.code_numbers (code_of n (take (2 ^ n) map) (take (n * (2 ^ n / 2)) coefs)) settings frame lent (code_read read)
