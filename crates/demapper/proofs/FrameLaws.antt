-- The laws of a frame of penalties: it is written symbol by symbol, the 64 numbers of each place are that symbol's, none is above
-- 2^Qc − 1, and one of each 64 is 0.
use mathlib.Core.Path.{◌≡◌, sym, ap, ap₂, ◌∙◌, subst}
use mathlib.Core.List.{List}
use Prim.Native.Nat.{ℕ, ◌+◌, ◌*◌, ◌/◌, ◌%◌, ◌-◌, ◌^◌, ◌≤◌, ◌<◌}
use native.Mathlib.Decide.{dec_lt}
use native.Mathlib.Omega.{arith}
use lib.IntN.{ℤ}
use lib.ListN.{length, get_or, take, drop}
use Rattle.vector.specs.Vector.{vector_at, stored, HasZero}
use Rattle.vector.specs.Frame.{IsFrame}
use Rattle.vector.proofs.Laws.{length_joined, joined_part}
use Rattle.vector.proofs.SliceLaws.{vector_entry, joined_by, stored_long, stored_is, stored_other}
use Rattle.demapper.specs.Samples.{llrs}
use Rattle.demapper.specs.Demap.{frame_of}
use Rattle.vector.specs.Part.{place_llrs}
use Rattle.demapper.specs.Parts.{chips_twice, llrs_by}
use Rattle.demapper.proofs.LlrLaws.{length_llrs, by_base, llr_small, llr_zero}
use Rattle.vector.proofs.PartLaws.{there, place_part}

module _ (base top bottom qc : ℕ) (samples : List ℤ) where
  -- the 64 penalties of symbol i
  abbrev llrs_at : ℕ → List ℕ
  llrs_at i = llrs base top bottom qc (vector_at samples i)

  -- how far the frame is written: the first i vectors of the buffer are the penalties of the first i symbols
  pub record Written (buffer : List ℕ) (i : ℕ) : Type 0 where
    pub long : length buffer ≡ length samples
    pub vectors : (j : ℕ) → j < i → vector_at buffer j ≡ llrs_at j

  -- where nothing is written
  pub written_none : (buffer : List ℕ) → length buffer ≡ length samples → Written buffer 0
  written_none buffer e = record { long = e; vectors = λ j k. absurd (omega arith) }

  module _ (buffer : List ℕ) (i : ℕ) (h : Written buffer i) where
    -- one symbol more: a vector weighed from the symbol's samples by the chips of the base, and stored
    module _ (l : i < length samples / 64) (k : ℕ) (chips v : List ℕ) (size : k ≡ 64) (twice : chips ≡ chips_twice base)
        (weighed : v ≡ llrs_by chips top bottom qc (take k (drop (64 * i) samples))) where
      -- the vector is the symbol's penalties
      symbol : v ≡ llrs_at i
      unfolding vector_at
      symbol =
          weighed ∙ ap₂ (λ (cs : List ℕ) (n : ℕ). llrs_by cs top bottom qc (take n (drop (64 * i) samples))) twice size
          ∙ by_base base top bottom qc (take 64 (drop (64 * i) samples))

      -- the buffer has room for it
      room : 64 * (i + 1) ≤ length buffer
      room = let e = h.long in omega arith

      -- so one symbol more is written
      pub written_more : (after : List ℕ) → after ≡ stored buffer i v → Written after (i + 1)
      written_more after e = subst (λ (b : List ℕ). Written b (i + 1)) (sym e) (record {
        long = stored_long buffer i room v ∙ h.long;
        vectors = λ j m. go j m (dec_lt j i);
      })
        where
          go : (j : ℕ) → j < i + 1 → Dec (j < i) → vector_at (stored buffer i v) j ≡ llrs_at j
          go j m (yes s) = stored_other buffer i room v j (λ z. absurd (omega arith)) ∙ h.vectors j s
          go j m (no s) =
              let q : i ≡ j = omega arith in
              subst (λ (n : ℕ). vector_at (stored buffer i v) n ≡ llrs_at n) q (stored_is buffer i room v (ap length symbol ∙ length_llrs base top bottom qc (vector_at samples i)) ∙ symbol)

    -- where all is written
    pub written_all : length samples % 64 ≡ 0 → length samples / 64 ≤ i → buffer ≡ frame_of base top bottom qc samples
    unfolding frame_of
    written_all whole l =
        let e = h.long in
        joined_by (length samples / 64) llrs_at buffer (omega arith) (λ j k. h.vectors j (omega arith))

  -- the frame has 64 penalties for each symbol
  pub length_frame : length (frame_of base top bottom qc samples) ≡ 64 * (length samples / 64)
  unfolding frame_of
  length_frame = length_joined 64 llrs_at (length samples / 64) (λ i l. length_llrs base top bottom qc (vector_at samples i))

  -- those from 64 × i on are symbol i's
  pub frame_part : (i : ℕ) → i < length samples / 64 → vector_at (frame_of base top bottom qc samples) i ≡ llrs_at i
  unfolding frame_of vector_at
  frame_part i l = joined_part 64 llrs_at (length samples / 64) (λ j k. length_llrs base top bottom qc (vector_at samples j)) i l

  -- and are what `place_llrs` hands out for it
  pub frame_place : (i : ℕ) → i < length samples / 64 → place_llrs (frame_of base top bottom qc samples) i ≡ llrs_at i
  frame_place i l =
      place_part (frame_of base top bottom qc samples) i (there (frame_of base top bottom qc samples) i (let e = length_frame in omega arith) (let e = length_frame in omega arith))
      ∙ frame_part i l

  -- entry 64 × i + v is the penalty of v for symbol i
  pub frame_entry : (i v : ℕ) → i < length samples / 64 → v < 64 → get_or (frame_of base top bottom qc samples) (64 * i + v) 0 ≡ get_or (llrs_at i) v 0
  frame_entry i v l s = sym (vector_entry (frame_of base top bottom qc samples) i v s) ∙ ap (λ (w : List ℕ). get_or w v 0) (frame_part i l)

  -- it is a frame: no entry is above 2^Qc − 1, and each 64 hold a 0
  pub frame_fits : IsFrame qc (frame_of base top bottom qc samples)
  frame_fits = record {
    small = λ j l.
        let long = length_frame in
        let in_frame : j / 64 < length samples / 64 = omega arith in
        let small : j % 64 < 64 = omega arith in
        let here : 64 * (j / 64) + j % 64 ≡ j = omega arith in
        let e = ap (λ (n : ℕ). get_or (frame_of base top bottom qc samples) n 0) (sym here) ∙ frame_entry (j / 64) (j % 64) in_frame small in
        subst (λ (x : ℕ). x ≤ 2 ^ qc - 1) (sym e) (llr_small base top bottom qc (vector_at samples (j / 64)) (j % 64) small);
    zeros = λ i l.
        let long = length_frame in
        let in_frame : i < length samples / 64 = omega arith in
        let z = llr_zero base top bottom qc (vector_at samples i) in
        subst HasZero (sym (frame_part i in_frame)) (record { zero_at = z.0; within = z.1; is_zero = z.2 });
  }
