-- The laws of the least sums over a set of values.
use Rattle.std.proofs.Common.{◌≡◌, ℕ, ◌+◌, ◌-◌, ◌*◌, ◌/◌, ◌%◌, ◌<◌, ◌≤◌, Bool, cond, ◌&&◌, T, eqb, ltb, ◌⊎◌, List, length, get_or, sym, ap, ◌∙◌, subst, ap₂, inl, inr, ⊎_elim, arith, eqb→eq, ltb→lt, le-ltb, lt-ltb}
use native.Mathlib.Decide.{dec_lt}
use lib.Bits.{bit_and, bit_xor, xor_lt}
use lib.Count.{count_trailing_zeros}
use Rattle.vector.proofs.Laws.{tabulate_by}
use Rattle.vector.proofs.All.{and_left, and_right, all, all_at}
use Rattle.gf64.specs.Field.{◌⊕◌}
use Rattle.gf64.proofs.SumLaws.{sum_lt}
use Rattle.reorder.specs.Order.{Small, Mapped}
use Rattle.scms.specs.Nodes.{sum_at, check_tried}
use Rattle.scms.specs.Tried.{tried, least_over}
use Rattle.scms.proofs.TriedLaws.{Tried, over_is, smallest_tried}
use Rattle.scms.specs.Decision.{smallest}
use Rattle.check_node.specs.Steps.{signed_rank, signed_min, AreCopies}
use Rattle.check_node.proofs.CopyLaws.{copies_at}
use Rattle.short_check_node.specs.Masks.{Flags, mask_of, TriedSet, source_at, with_sum, LeastSums}
use Rattle.short_check_node.proofs.MaskLaws.{mask_none, without, without_same, without_other, without_flags, lowest}

-- ---- where the copies are read

-- the test of one place: it is within the copies, and there stands the entry at b ⊕ c
source_ok : (c b : ℕ) → Bool
source_ok c b = ltb (source_at c b) 512 && eqb ((source_at c b % 64) ⊕ (source_at c b / 64)) (b ⊕ c)

-- the tests of the 64 values b
value_ok : ℕ → Bool
unfolding all source_ok
value_ok c = all (source_ok c) 64

-- the one check over all values
every_source : T (all value_ok 64)
unfolding all value_ok source_ok source_at ◌⊕◌
every_source = tt

-- what the check says of one
record Source (c b : ℕ) : Type 0 where
  within : source_at c b < 512
  entry : (source_at c b % 64) ⊕ (source_at c b / 64) ≡ b ⊕ c

source_is : (c b : ℕ) → c < 64 → b < 64 → Source c b
unfolding value_ok source_ok
source_is c b lc lb =
    let first = ltb (source_at c b) 512 in
    let second = eqb ((source_at c b % 64) ⊕ (source_at c b / 64)) (b ⊕ c) in
    let t = all_at (source_ok c) 64 (all_at value_ok 64 every_source c lc) b lb in
    record { within = ltb→lt (source_at c b) 512 (and_left first second t); entry = eqb→eq _ _ (and_right first second t) }

-- ---- the smaller of two numbers

-- what is kept of two numbers: no more than either, and one of them
record Kept (held w r : ℕ) : Type 0 where
  first : r ≤ held
  second : r ≤ w
  either : (r ≡ held) ⊎ (r ≡ w)

kept_min : (held w : ℕ) → held < 32768 → w < 32768 → Kept held w (signed_min held w)
kept_min held w l m = go (dec_lt held w)
  where
    go : Dec (held < w) → Kept held w (signed_min held w)
    go (yes s) =
        let e : signed_min held w ≡ held = ap (λ (t : Bool). cond t held w) (lt-ltb (signed_rank held) (signed_rank w) (omega arith)) in
        record { first = omega arith; second = omega arith; either = inl e }
    go (no s) =
        let e : signed_min held w ≡ w = ap (λ (t : Bool). cond t held w) (le-ltb (signed_rank held) (signed_rank w) (omega arith)) in
        record { first = omega arith; second = omega arith; either = inr e }

-- where the copies are read for a block
pub block_lt : (block c : ℕ) → block < 8 → c < 64 → bit_xor block (c / 8) < 8
block_lt block c l m = xor_lt 3 block (c / 8) l (omega arith)

-- what a block's value i gets at value c
pub block_with : (copies : List ℕ) (x c block i held old w : ℕ) → i < 8 → held ≡ old
    → w ≡ (get_or copies (64 * (c % 8) + 8 * (block ⊕ (c / 8)) + i) 0 + x) % 65536 → signed_min held w ≡ with_sum copies x c (8 * block + i) old
unfolding with_sum source_at
block_with copies x c block i held old w l e f =
    let d : block ≡ (8 * block + i) / 8 = omega arith in
    let m : i ≡ (8 * block + i) % 8 = omega arith in
    ap₂ signed_min e (f ∙ ap₂ (λ (a b : ℕ). (get_or copies (64 * (c % 8) + 8 * (a ⊕ (c / 8)) + b) 0 + x) % 65536) d m)

-- ---- the sums of one value
module _ {theta copies ordered : List ℕ} (h : AreCopies 8 theta copies) (st : Small theta) (sx : Small ordered) where
  -- a sum is at most 16,382
  sum_most : (b c : ℕ) → b < 64 → c < 64 → sum_at theta ordered b c ≤ 16382
  sum_most b c lb lc =
      let x = st.most (b ⊕ c) (sum_lt b c lb lc) in
      let y = sx.most c lc in
      omega arith

  -- the sum that is compared with what is held
  sum_read : (b c : ℕ) → b < 64 → c < 64 → (get_or copies (source_at c b) 0 + get_or ordered c 0) % 65536 ≡ sum_at theta ordered b c
  sum_read b c lb lc =
      let s = source_is c b lc lb in
      let e = copies_at h (source_at c b) s.within ∙ ap (λ (k : ℕ). get_or theta k 0) s.entry in
      let m = sum_most b c lb lc in
      omega arith

  -- so what is held afterwards is kept of both
  with_kept : (b c held : ℕ) → b < 64 → c < 64 → held < 32768 → Kept held (sum_at theta ordered b c) (with_sum copies (get_or ordered c 0) c b held)
  unfolding with_sum
  with_kept b c held lb lc l =
      let m = sum_most b c lb lc in
      subst (λ (w : ℕ). Kept held (sum_at theta ordered b c) (signed_min held w)) (sym (sum_read b c lb lc)) (kept_min held (sum_at theta ordered b c) l (omega arith))

-- ---- the least sums over a set, while values are left
pub record Progress (f : ℕ → ℕ) (sum : ℕ → ℕ → ℕ) (r : List ℕ) (rest : ℕ) : Type 0 where
  pub left : ℕ → ℕ
  pub flags : Flags left
  pub is_rest : rest ≡ mask_of 64 left
  pub part : (c : ℕ) → left c ≡ 1 → f c ≡ 1
  pub bounded : (b c : ℕ) → b < 64 → c < 64 → f c ≡ 1 → left c ≡ 0 → get_or r b 0 ≤ sum b c
  pub attained : (b : ℕ) → b < 64 → (get_or r b 0 ≡ 32767) ⊎ ((c : ℕ) × (c < 64) × (f c ≡ 1) × (get_or r b 0 ≡ sum b c))

-- none is summed yet
pub none_yet : {f : ℕ → ℕ} {sum : ℕ → ℕ → ℕ} {r : List ℕ} {mask : ℕ} → Flags f → mask ≡ mask_of 64 f → T (all (λ b. eqb (get_or r b 0) 32767) 64)
    → Progress f sum r mask
none_yet {f} {sum} {r} h e z = record {
  left = f;
  flags = h;
  is_rest = e;
  part = λ c q. q;
  bounded = λ b c lb lc one none. absurd (omega arith);
  attained = λ b l. inl (eqb→eq _ _ (all_at (λ i. eqb (get_or r i 0) 32767) 64 z b l));
}

-- all are
pub all_summed : {f : ℕ → ℕ} {sum : ℕ → ℕ → ℕ} {r : List ℕ} {rest : ℕ} → length r ≡ 64 → rest ≡ 0 → Progress f sum r rest → LeastSums f sum r
all_summed n e p = record {
  long = n;
  bounded = λ b c lb lc one. p.bounded b c lb lc one (mask_none 64 p.left (sym p.is_rest ∙ e) c lc);
  attained = p.attained;
}

-- one more
module _ {theta copies ordered : List ℕ} (h : AreCopies 8 theta copies) (st : Small theta) (sx : Small ordered)
    {f : ℕ → ℕ} {r next : List ℕ} {rest : ℕ} (p : Progress f (sum_at theta ordered) r rest) (pos : 0 < rest)
    (made : Mapped (with_sum copies (get_or ordered (count_trailing_zeros 64 rest % 64) 0) (count_trailing_zeros 64 rest % 64)) 0 64 r next) where
  -- what was held is below 32,768
  held_lt : (b : ℕ) → b < 64 → get_or r b 0 < 32768
  held_lt b lb = ⊎_elim (λ e. omega arith) (λ q. let m = sum_most h st sx b q.0 lb q.1 in let e = q.3 in omega arith) (p.attained b lb)

  pub one_more : Progress f (sum_at theta ordered) next (bit_and rest (rest - 1))
  one_more =
      let q = lowest 64 p.left rest p.flags p.is_rest pos in
      let c = count_trailing_zeros 64 rest in
      let w = q.within in
      let same : c % 64 ≡ c = omega arith in
      let sums = subst (λ (k : ℕ). Mapped (with_sum copies (get_or ordered k 0) k) 0 64 r next) same made in
      let kept : (b : ℕ) → b < 64 → Kept (get_or r b 0) (sum_at theta ordered b c) (get_or next b 0)
      = λ b lb. subst (Kept (get_or r b 0) (sum_at theta ordered b c)) (sym (sums.done b (omega arith) lb)) (with_kept h st sx b c (get_or r b 0) lb q.within (held_lt b lb)) in
      record {
        left = without c p.left;
        flags = without_flags c p.left p.flags;
        is_rest = q.cleared;
        part = λ i e. still c i e (dec_lt i c) (dec_lt c i);
        bounded = λ b i lb li one none. bound c b i one none (kept b lb) (p.bounded b i lb li one) (dec_lt i c) (dec_lt c i);
        attained = λ b lb.
            ⊎_elim
            (λ e. ⊎_elim (λ s. inl (e ∙ s)) (λ s. inr (s.0, s.1, s.2, e ∙ s.3)) (p.attained b lb))
            (λ e. inr (c, q.within, p.part c q.is_set, e))
            (kept b lb).either;
      }
    where
      still : (c i : ℕ) → without c p.left i ≡ 1 → Dec (i < c) → Dec (c < i) → f i ≡ 1
      still c i e (yes s) _ = p.part i (sym (without_other c p.left i (λ z. absurd (omega arith))) ∙ e)
      still c i e (no s) (yes t) = p.part i (sym (without_other c p.left i (λ z. absurd (omega arith))) ∙ e)
      still c i e (no s) (no t) =
          let z : i ≡ c = omega arith in
          let n = ap (without c p.left) z ∙ without_same c p.left in
          absurd (omega arith)

      bound : (c b i : ℕ) → f i ≡ 1 → without c p.left i ≡ 0 → Kept (get_or r b 0) (sum_at theta ordered b c) (get_or next b 0)
          → (p.left i ≡ 0 → get_or r b 0 ≤ sum_at theta ordered b i) → Dec (i < c) → Dec (c < i) → get_or next b 0 ≤ sum_at theta ordered b i
      bound c b i one none k old (yes s) _ =
          let a = k.first in
          let o = old (sym (without_other c p.left i (λ z. absurd (omega arith))) ∙ none) in
          omega arith
      bound c b i one none k old (no s) (yes t) =
          let a = k.first in
          let o = old (sym (without_other c p.left i (λ z. absurd (omega arith))) ∙ none) in
          omega arith
      bound c b i one none k old (no s) (no t) =
          let z : c ≡ i = omega arith in
          subst (λ (j : ℕ). get_or next b 0 ≤ sum_at theta ordered b j) z k.second

-- ---- the least sums over the values tried are the entries of the check node
pub tried_node : (m : ℕ) (theta ordered : List ℕ) (mask : ℕ) (r : List ℕ) → 1 ≤ m → Small theta → Small ordered
    → (k : TriedSet m ordered mask) → LeastSums k.set (sum_at theta ordered) r → r ≡ check_tried m theta ordered
unfolding check_tried
tried_node m theta ordered mask r lm st sx k s = tabulate_by 0 64 _ r s.long (λ b lb. entry b lb (s.attained b lb))
  where
    bound : (b c : ℕ) → b < 64 → Tried m ordered c → get_or r b 0 ≤ sum_at theta ordered b c
    bound b c lb t = s.bounded b c lb t.0 ((k.values c t.0).1 t.1)

    entry : (b : ℕ) → b < 64 → (get_or r b 0 ≡ 32767) ⊎ ((c : ℕ) × (c < 64) × (k.set c ≡ 1) × (get_or r b 0 ≡ sum_at theta ordered b c))
        → get_or r b 0 ≡ least_over (tried m ordered) (sum_at theta ordered b)
    entry b lb (inl e) =
        let t = smallest_tried m ordered lm in
        let l = bound b (smallest ordered) lb t in
        let x = st.most (b ⊕ smallest ordered) (sum_lt b (smallest ordered) lb t.0) in
        let y = sx.most (smallest ordered) t.0 in
        absurd (omega arith)
    entry b lb (inr q) =
        over_is m ordered (sum_at theta ordered b) (get_or r b 0) q.0 (q.1, (k.values q.0 q.1).0 q.2) (sym q.3) (λ c t. bound b c lb t)
