-- What it means that `encode` accepts its input, and what it then has to hand its parts.
use mathlib.Core.Path.{◌≡◌, refl, sym, ap, ap₂, ◌∙◌, subst}
use mathlib.Core.List.{List}
use Prim.Native.Nat.{ℕ, zero, suc, ◌+◌, ◌*◌, ◌/◌, ◌^◌, ◌≤◌, ◌<◌}
use native.Mathlib.Nat.{mul-le-mul}
use native.Mathlib.Omega.{arith}
use lib.Dec.{lit<}
use lib.ListN.{length, get_or}
use lib.Pow.{pow_mono}
use Rattle.refusal.specs.Table.{Numbered}
use Rattle.refusal.proofs.Laws.{accepted_none, none_accepted}
use Rattle.refusal.proofs.Laws.{numbered}
use Rattle.refusal.proofs.Within.{none_within, within_none, false_equal, equal_false}
use Rattle.polar_code.specs.Code.{Code, message_places, IsCode, IsWord}
use Rattle.polar.specs.Encode.{word_before, codeword_of, encode_table, encode_refusal, Encodable}
use Rattle.polar.specs.Halves.{block_transform}
use Rattle.polar.specs.Parts.{Room, Block, Placing}
use Rattle.vector.proofs.Entries.{get_d_each}
use Rattle.polar.proofs.Numbers.{half_pow}
use Rattle.polar_code.proofs.CodeLaws.{rows_code, sizes_of_code, code_bytes}
use Rattle.polar.proofs.MessageLaws.{length_word, word_symbols}
use Rattle.polar.proofs.ByHalves.{by_halves}
use Rattle.polar.proofs.OneToOne.{transform_word}

module _ (code : Code) (symbols buffer : List ℕ) where
  -- no row has the number 0
  rows_numbered : Numbered (encode_table code symbols buffer)
  rows_numbered = numbered (encode_table code symbols buffer) tt

  -- accepted exactly when no row fits
  pub accepted : encode_refusal code symbols buffer ≡ 0 → Encodable code symbols buffer
  unfolding encode_refusal
  accepted e =
      let sizes = accepted_none (encode_table code symbols buffer) rows_numbered e in
      let rooms = sizes.1.1.1 in
      let bytes = rooms.1.1 in
      record {
        is_code = rows_code code (sizes.0, (sizes.1.0, (sizes.1.1.0, tt))) (bytes.0, (bytes.1.0, (bytes.1.1.0, tt)));
        message_long = false_equal (length symbols) (message_places code.map) rooms.0;
        message_symbols = none_within 0 63 0 symbols bytes.1.1.1.0;
        buffer_long = false_equal (length buffer) (2 ^ code.n) rooms.1.0;
      }

  -- and the other way round
  pub accepts : Encodable code symbols buffer → encode_refusal code symbols buffer ≡ 0
  unfolding encode_refusal
  accepts t =
      let sizes = sizes_of_code code t.is_code in
      let bytes = code_bytes code t.is_code in
      let message = equal_false (length symbols) (message_places code.map) t.message_long in
      let room = equal_false (length buffer) (2 ^ code.n) t.buffer_long in
      let small = within_none 0 63 0 symbols t.message_symbols in
      none_accepted (encode_table code symbols buffer)
      (sizes.0, (sizes.1.0, (sizes.1.1.0, (message, (room, (bytes.0, (bytes.1.0, (bytes.1.1.0, (small, tt)))))))))

-- the coefficients of a block of 2^m places are among `all`, if those of its last layer are
room_at : (m start stride all : ℕ) → start + m * stride + 2 ^ m / 2 ≤ all + stride → Room m start stride all
unfolding Room
room_at zero start stride all l = tt
room_at (suc m) start stride all l =
    let q = half_pow m in
    (omega arith, room_at m (start + stride) stride all (omega arith), room_at m (start + stride + 2 ^ m / 2) stride all (omega arith))

-- the whole word is a block
pub word_block : (code : Code) (word : List ℕ) → IsCode code → length word ≡ 2 ^ code.n
    → Block code.n (2 ^ code.n / 2) 0 (2 ^ code.n / 2) code.coefs word
word_block code word c l =
    let n = code.n in
    let few = c.layers.most in
    let size = pow_mono {i = n} {j = 8} few in
    let most = mul-le-mul {n₁ = n} {m₁ = 2 ^ n / 2} {n₂ = 8} {m₂ = 128} few (omega arith) in
    record {
      few_layers = few;
      halved = refl;
      stride_small = omega arith;
      few_coefs = (let e = c.coefs_long in omega arith);
      room = room_at n 0 (2 ^ n / 2) (length code.coefs) (let e = c.coefs_long in omega arith);
      long = l;
    }

module _ (code : Code) (symbols buffer : List ℕ) (t : Encodable code symbols buffer) where
  -- the number of layers
  abbrev n : ℕ
  n = code.n

  -- the frozen map
  abbrev map : List ℕ
  map = code.map

  -- the coefficients
  abbrev cs : List ℕ
  cs = code.coefs

  -- what `place_message` is given
  pub placing : Placing map symbols buffer
  placing = record { places = t.buffer_long ∙ sym t.is_code.map_long; enough = t.message_long }

  -- what `transform_block` is given
  pub word_is_whole : (word : List ℕ) → word ≡ word_before map symbols → Block n (length map / 2) 0 (length map / 2) cs word
  word_is_whole word e =
      subst (λ (x : ℕ). Block n x 0 x cs word) (sym (ap (λ (x : ℕ). x / 2) t.is_code.map_long))
      (word_block code word t.is_code (ap length e ∙ length_word map symbols ∙ t.is_code.map_long))

  -- what `transform_block` leaves is the codeword
  pub whole_word : (word after : List ℕ) → word ≡ word_before map symbols → after ≡ block_transform n 0 (length map / 2) cs word
      → after ≡ codeword_of code symbols
  unfolding codeword_of
  whole_word word after e f =
      f ∙ ap₂ (λ (h : ℕ) (w : List ℕ). block_transform n 0 h cs w) (ap (λ (x : ℕ). x / 2) t.is_code.map_long) e
      ∙ sym (by_halves n cs (word_before map symbols) (length_word map symbols ∙ t.is_code.map_long))

  -- every number of the message is a symbol, and so is what the list gives past its end
  message_lt : (i : ℕ) → get_or symbols i 0 < 64
  message_lt = get_d_each (λ (x : ℕ). x < 64) 0 symbols (lit< tt) (λ i l. let m = (t.message_symbols i l).most in omega arith)

  -- the word before the transform and the codeword are words: N symbols each
  pub before_word : IsWord n (word_before map symbols)
  before_word = record { long = length_word map symbols ∙ t.is_code.map_long; symbols = λ i l. word_symbols map symbols message_lt i }

  -- by the transform of words
  pub codeword_word : IsWord n (codeword_of code symbols)
  unfolding codeword_of
  codeword_word = transform_word n cs (word_before map symbols) before_word
