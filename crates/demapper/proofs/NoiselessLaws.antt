-- What is weighed from samples sent without noise, and when the penalties are 0 at the symbol sent and nowhere else.
use mathlib.Core.Path.{◌≡◌, refl, sym, ap, ap₂, ◌∙◌, subst}
use mathlib.Core.Bool.{Bool, true, false, cond}
use mathlib.Core.List.{List}
use Prim.Native.Nat.{ℕ, zero, suc, ◌+◌, ◌*◌, ◌/◌, ◌%◌, ◌-◌, ◌^◌, ◌≤◌, ◌<◌, min}
use native.Mathlib.Nat.{mul-zero, mul-one, zero-mul, one-mul, min-le_left, le-div_iff_mul-le, sub-zero}
use native.Mathlib.Decide.{ℕ_discrete}
use native.Mathlib.Omega.{arith}
use borrow.Author.Tests.{le-ltb}
use lib.Dec.{eqb}
use lib.IntN.{ℤ, pos, neg_ℤ, nat_abs}
use lib.ListN.{length, get_or}
use lib.Pow.{pow_mono}
use Rattle.refusal.specs.Tests.{Within}
use Rattle.vector.specs.Vector.{tabulate, vector_at, joined, least}
use Rattle.vector.proofs.Laws.{length_tabulate, get_d_tabulate, tabulate_ext, tabulate_map, length_joined, joined_part, joined_ext, joined_flat, sum_ext, sum_scale, least_le, less_least_at}
use Rattle.ccsk.specs.Chips.{chip, symbol_chip, turned, differing, shift}
use Rattle.demapper.specs.Samples.{hard_chip, magnitude, added, raw, raw_llrs, quantised, llrs}
use Rattle.ccsk.specs.Spread.{numbers_of}
use Rattle.demapper.specs.Demap.{frame_of}
use Rattle.demapper.specs.Noiseless.{sent_sample, sent_symbol, number_samples, sent_samples, sent_llr, Weighed, Premise, Apart, Clean}
use Rattle.ccsk.proofs.ChipLaws.{symbol_chip_lt, turned_chip}
use Rattle.demapper.proofs.LlrLaws.{llr_entry, quantised_zero}
use Rattle.ccsk.proofs.DistanceLaws.{by_shift, differs_not}
use Rattle.demapper.proofs.FrameLaws.{frame_part}
use Rattle.demapper.proofs.LostLaws.{kept_magnitude}

-- a sample that is sent is its amplitude without its sign
pub sent_size : (a c : ℕ) → nat_abs (sent_sample a c) ≡ a
unfolding sent_sample
sent_size a c = go (eqb c 0) a
  where
    go : (b : Bool) (n : ℕ) → nat_abs (cond b (pos n) (neg_ℤ (pos n))) ≡ n
    go true n = refl
    go false zero = refl
    go false (suc n) = refl

-- an amplitude of at most 127 is its magnitude; with 128 a sample at a chip 1 would count as lost
sent_magnitude : (a c : ℕ) → a ≤ 127 → magnitude (sent_sample a c) ≡ a
sent_magnitude a c few = let e = sent_size a c in kept_magnitude (sent_sample a c) (omega arith) ∙ e

-- and its chip for its hard chip
sent_hard : (a c : ℕ) → c < 2 → hard_chip (sent_sample (suc a) c) ≡ c
unfolding hard_chip sent_sample
sent_hard a zero l = ap (λ (b : Bool). cond b 1 0) (le-ltb (suc a) 0 (omega arith))
sent_hard a (suc zero) l = refl
sent_hard a (suc (suc c)) l = absurd (omega arith)

-- so it adds its amplitude to the raw penalty of a symbol with another chip there
sent_adds : (a c d : ℕ) → a ≤ 127 → c < 2 → added d (hard_chip (sent_sample a c)) (magnitude (sent_sample a c)) ≡ a * cond (eqb c d) 0 1
unfolding added
sent_adds zero c d few l =
    ap (λ (n : ℕ). cond (eqb (hard_chip (sent_sample 0 c)) d) 0 n) (sent_magnitude 0 c few) ∙ go (eqb (hard_chip (sent_sample 0 c)) d) ∙ sym (zero-mul (cond (eqb c d) 0 1))
  where
    go : (b : Bool) → ◌≡◌ {A = ℕ} (cond b 0 0) 0
    go true = refl
    go false = refl
sent_adds (suc a) c d few l = ap₂ (λ (h n : ℕ). cond (eqb h d) 0 n) (sent_hard a c l) (sent_magnitude (suc a) c few) ∙ go (eqb c d)
  where
    go : (b : Bool) → cond b 0 (suc a) ≡ suc a * cond b 0 1
    go true = sym (mul-zero (suc a))
    go false = sym (mul-one (suc a))

-- 64 samples are sent for a symbol
pub length_sent : (base a s : ℕ) → length (sent_symbol base a s) ≡ 64
unfolding sent_symbol
length_sent base a s = length_tabulate 64 _

module _ (base a s : ℕ) (few : a ≤ 127) where
  -- the raw penalty of v is the amplitude times the number of differing chips
  raw_sent : (v : ℕ) → raw base (sent_symbol base a s) v ≡ a * differing base s v
  unfolding raw sent_symbol differing
  raw_sent v =
      sum_ext 64 _ (λ k. a * cond (eqb (symbol_chip base s k) (symbol_chip base v k)) 0 1)
      (λ k l. ap (λ (y : ℤ). added (symbol_chip base v k) (hard_chip y) (magnitude y)) (get_d_tabulate (pos 0) 64 (λ i. sent_sample a (symbol_chip base s i)) k l)
      ∙ sent_adds a (symbol_chip base s k) (symbol_chip base v k) few (symbol_chip_lt base s k))
      ∙ sum_scale a 64 (λ k. cond (eqb (symbol_chip base s k) (symbol_chip base v k)) 0 1)

  -- as an entry of the 64
  raw_sent_at : (v : ℕ) → v < 64 → get_or (raw_llrs base (sent_symbol base a s)) v 0 ≡ a * differing base s v
  unfolding raw_llrs
  raw_sent_at v l = get_d_tabulate 0 64 (raw base (sent_symbol base a s)) v l ∙ raw_sent v

  module _ (ls : s < 64) where
    -- the least of them is 0, that of the symbol sent
    least_sent : least (raw_llrs base (sent_symbol base a s)) ≡ 0
    least_sent =
        let l = least_le (raw_llrs base (sent_symbol base a s)) s ls in
        let e = raw_sent_at s ls ∙ ap (λ (n : ℕ). a * n) (differs_not base s) ∙ mul-zero a in
        omega arith

    module _ (top bottom qc : ℕ) where
      -- so each penalty is that number less 0, quantised
      sent_llr_is : (v : ℕ) → v < 64 → sent_llr base a top bottom qc s v ≡ min (a * differing base s v * top / bottom) (2 ^ qc - 1)
      unfolding sent_llr quantised
      sent_llr_is v l =
          llr_entry base top bottom qc (sent_symbol base a s) v l
          ∙ ap (quantised top bottom qc) (less_least_at (raw_llrs base (sent_symbol base a s)) v l ∙ ap₂ (λ (x y : ℕ). x - y) (raw_sent_at v l) least_sent ∙ sub-zero (a * differing base s v))

      -- what is weighed without noise, for every amplitude up to 127
      pub weighed : Weighed base a top bottom qc s
      unfolding quantised
      weighed = record {
        sent = sent_llr_is s ls
            ∙ ap (quantised top bottom qc) (ap (λ (n : ℕ). a * n) (differs_not base s) ∙ mul-zero a)
            ∙ quantised_zero top bottom qc;
        other = sent_llr_is;
      }

      module _ (lb : 1 ≤ bottom) (lq : 1 ≤ qc) where
        -- the cap is at least 1
        cap : 1 ≤ 2 ^ qc - 1
        cap = let l = pow_mono {i = 1} {j = qc} lq in omega arith

        -- a penalty of at least 1, before rounding and capping
        at_least_one : (v : ℕ) → v < 64 → 1 ≤ sent_llr base a top bottom qc s v → bottom ≤ a * differing base s v * top
        at_least_one v l h =
            let m = min-le_left (a * differing base s v * top / bottom) (2 ^ qc - 1) in
            let e = sent_llr_is v l in
            subst (λ (x : ℕ). x ≤ a * differing base s v * top) (one-mul bottom) ((le-div_iff_mul-le {k = bottom} {x = 1} lb).0 (omega arith))

        -- and the other way round
        one_at_least : (v : ℕ) → v < 64 → bottom ≤ a * differing base s v * top → 1 ≤ sent_llr base a top bottom qc s v
        one_at_least v l h =
            let q = (le-div_iff_mul-le {k = bottom} {x = 1} {y = a * differing base s v * top} lb).1 (subst (λ (x : ℕ). x ≤ a * differing base s v * top) (sym (one-mul bottom)) h) in
            let e = sent_llr_is v l in
            let c = cap in
            omega arith

        -- the premise as a condition on base, amplitude and gain alone, the same for every symbol
        pub premise_apart : Premise base a top bottom qc s → Apart base a top bottom
        unfolding shift
        premise_apart p d w =
            let v = (s + d) % 64 in
            let l : v < 64 = omega arith in
            let h : v ≡ s → ⊥ = (λ e. absurd (omega arith)) in
            let back : shift s v ≡ d = omega arith in
            subst (λ (n : ℕ). bottom ≤ a * n * top) (by_shift base s v ls l ∙ ap (differing base 0) back) (at_least_one v l (p v l h))

        -- and the other way round
        pub apart_premise : Apart base a top bottom → Premise base a top bottom qc s
        unfolding shift
        apart_premise p v l h =
            let w : Within 1 63 (shift s v) = record { least = omega arith; most = omega arith } in
            one_at_least v l (subst (λ (n : ℕ). bottom ≤ a * n * top) (sym (by_shift base s v ls l)) (p (shift s v) w))

        -- where the premise holds, the 64 numbers are 0 at the symbol sent and nowhere else
        pub clean : Premise base a top bottom qc s → Clean base a top bottom qc s
        unfolding sent_llr
        clean p = record { there = weighed.sent; only = λ v l e. go v l e (ℕ_discrete v s) }
          where
            go : (v : ℕ) → v < 64 → sent_llr base a top bottom qc s v ≡ 0 → Dec (v ≡ s) → v ≡ s
            go v l e (yes q) = q
            go v l e (no h) = absurd (let x = p v l h in omega arith)

module _ (base a : ℕ) (symbols : List ℕ) where
  -- 64 samples are sent for each symbol
  pub length_sent_samples : length (sent_samples base a symbols) ≡ 64 * length symbols
  unfolding sent_samples
  length_sent_samples = length_joined 64 _ (length symbols) (λ i l. length_sent base a (get_or symbols i 0))

  -- those of symbol i
  sent_part : (i : ℕ) → i < length symbols → vector_at (sent_samples base a symbols) i ≡ sent_symbol base a (get_or symbols i 0)
  unfolding sent_samples vector_at
  sent_part i l = joined_part 64 (λ j. sent_symbol base a (get_or symbols j 0)) (length symbols) (λ j k. length_sent base a (get_or symbols j 0)) i l

  -- so the 64 numbers of place i are weighed from what is sent for symbol i
  pub sent_vector : (top bottom qc i : ℕ) → i < length symbols
      → vector_at (frame_of base top bottom qc (sent_samples base a symbols)) i ≡ llrs base top bottom qc (sent_symbol base a (get_or symbols i 0))
  sent_vector top bottom qc i l =
      frame_part base top bottom qc (sent_samples base a symbols) i (let e = length_sent_samples in omega arith)
      ∙ ap (llrs base top bottom qc) (sent_part i l)

module _ (a : ℕ) where
  -- sample j is that of chip j mod 64 of number j / 64
  pub samples_flat : (numbers : List ℕ) → number_samples a numbers ≡ tabulate (64 * length numbers) (λ j. sent_sample a (chip (get_or numbers (j / 64) 0) (j % 64)))
  unfolding number_samples
  samples_flat numbers = joined_flat (length numbers) (λ i k. sent_sample a (chip (get_or numbers i 0) k))

  -- what is sent for the numbers of symbols is what is sent for the symbols
  pub numbers_sent : (base : ℕ) (symbols : List ℕ) → number_samples a (numbers_of base symbols) ≡ sent_samples base a symbols
  unfolding number_samples sent_samples sent_symbol numbers_of
  numbers_sent base symbols =
      ap (number_samples a) (sym (tabulate_map 0 (turned base) symbols))
      ∙ ap (λ (n : ℕ). joined n (λ i. tabulate 64 (λ k. sent_sample a (chip (get_or (tabulate (length symbols) number) i 0) k)))) (length_tabulate (length symbols) number)
      ∙ joined_ext (length symbols) _ _ (λ i l. tabulate_ext 64 _ _ (λ k s.
      ap (sent_sample a) (ap (λ (x : ℕ). chip x k) (get_d_tabulate 0 (length symbols) number i l) ∙ turned_chip base (get_or symbols i 0) k s)))
    where
      number : ℕ → ℕ
      number i = turned base (get_or symbols i 0)
