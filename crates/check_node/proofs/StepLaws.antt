-- The laws of a check node's steps.
use Rattle.std.proofs.Common.{◌≡◌, ℕ, zero, suc, ◌+◌, ◌-◌, ◌*◌, ◌/◌, ◌%◌, ◌<◌, ◌≤◌, min, Bool, true, false, cond, ltb, List, [], ◌∷◌, length, get_or, set, sym, refl, ap, ◌∙◌, subst, ap₂, le_refl, arith, length-set, get_or-set_other, get_or-set_same, ltb-false, ltb-true}
use native.Mathlib.Nat.{min-eq_left, min-eq_right}
use native.Mathlib.Decide.{dec_lt}
use lib.Bits.{bit_xor, xor_lt}
use Rattle.std.specs.List.{fold, zip}
use Rattle.vector.specs.Vector.{tabulate, least_to}
use Rattle.vector.proofs.Laws.{tabulate_by}
use Rattle.gf64.specs.Field.{◌⊕◌}
use Rattle.gf64.proofs.SumLaws.{sum_zero}
use Rattle.reorder.specs.Order.{Mapped}
use Rattle.check_node.specs.Steps.{signed_rank, step, four_steps, LaneMapped, source_of, first_value, steps_at, column_to}

-- a choice by a test, in its two cases
by_test : (t : Bool) (a b : ℕ) (P : ℕ → Type 0) → (t ≡ true → P a) → (t ≡ false → P b) → P (cond t a b)
by_test true a b P f g = f refl
by_test false a b P f g = g refl

-- a step, from its test: m is what is held, plus d, and a and b are where m and w stand among signed numbers
pub step_is : (held d w m a b r : ℕ) → m ≡ (held + d) % 65536 → a ≡ signed_rank m → b ≡ signed_rank w → (a < b → r ≡ m) → (b ≤ a → r ≡ w) → r ≡ step held d w
unfolding step
step_is held d w m a b r e ea eb f g =
    by_test (ltb a b) m w (λ z. r ≡ z) (λ t. f (ltb-true a b t)) (λ t. g (ltb-false a b t))
    ∙ ap₂ (λ (y z : ℕ). cond (ltb y z) m w) ea eb
    ∙ ap (λ (z : ℕ). cond (ltb (signed_rank z) (signed_rank w)) z w) e

-- a number of 16 bits
mod_lt : (n : ℕ) → n % 65536 < 65536
mod_lt n = omega arith

-- what is held moves with the penalty: m is what is held, plus d
moved_is : (held y d x m : ℕ) → m ≡ (held + d) % 65536 → (d + x) % 65536 ≡ y → (m + x) % 65536 ≡ (held + y) % 65536
moved_is held y d x m e f = omega arith

-- where it stands among signed numbers: as the sum less x
rank_is : (m x sum : ℕ) → m < 65536 → (m + x) % 65536 ≡ sum → sum ≤ 16382 → x ≤ 8191 → signed_rank m + x ≡ sum + 32768
rank_is m x sum l e ls lx = omega arith

-- so two of them are compared as the sums are
compared : (m w x sum : ℕ) → signed_rank m + x ≡ sum + 32768 → w ≤ 8191 → (signed_rank m < signed_rank w → sum ≤ w + x) × (signed_rank w ≤ signed_rank m → w + x ≤ sum)
compared m w x sum e l =
    let other : signed_rank w ≡ w + 32768 = omega arith in
    (λ t. omega arith, λ t. omega arith)

-- two penalties' sum does not wrap around
no_wrap : (w x : ℕ) → w ≤ 8191 → x ≤ 8191 → (w + x) % 65536 ≡ w + x
no_wrap w x l m = omega arith

-- one step: what is held, plus the penalty, is the smaller of the sum before and the sum at this value. Before, the penalty was y; d is the difference
step_min : (held y d x w sum : ℕ) → (held + y) % 65536 ≡ sum → (d + x) % 65536 ≡ y → sum ≤ 16382 → x ≤ 8191 → w ≤ 8191 → (step held d w + x) % 65536 ≡ min sum (w + x)
unfolding step
step_min held y d x w sum e f ls lx lw =
    by_test (ltb (signed_rank m) (signed_rank w)) m w (λ z. (z + x) % 65536 ≡ min sum (w + x))
    (λ t. moved ∙ sym (min-eq_left ((compared m w x sum rank lw).0 (ltb-true (signed_rank m) (signed_rank w) t))))
    (λ t. no_wrap w x lw lx ∙ sym (min-eq_right ((compared m w x sum rank lw).1 (ltb-false (signed_rank m) (signed_rank w) t))))
  where
    m : ℕ
    m = (held + d) % 65536

    moved : (m + x) % 65536 ≡ sum
    moved = moved_is held y d x m refl f ∙ e

    rank : signed_rank m + x ≡ sum + 32768
    rank = rank_is m x sum (mod_lt (held + d)) moved ls lx

-- the least sum so far, one sum more
least_more : (n : ℕ) (g : ℕ → ℕ) → min (least_to (n - 1) g) (g n) ≡ least_to n g
unfolding least_to
least_more zero g = min-eq_left (le_refl (g 0))
least_more (suc n) g = let same : suc n - 1 ≡ n = omega arith in ap (λ (z : ℕ). min (least_to z g) (g (suc n))) same

-- so the steps hold the least sum so far, less the penalty
pub step_least : (held y d x w n : ℕ) (g : ℕ → ℕ) → (held + y) % 65536 ≡ least_to (n - 1) g → (d + x) % 65536 ≡ y → least_to (n - 1) g ≤ 16382 → x ≤ 8191 → w ≤ 8191
    → g n ≡ w + x → (step held d w + x) % 65536 ≡ least_to n g
step_least held y d x w n g e f ls lx lw k =
    step_min held y d x w (least_to (n - 1) g) e f ls lx lw ∙ ap (min (least_to (n - 1) g)) (sym k) ∙ least_more n g

-- where the copies are read for block m of a half, at step 4 q + j: k is m ⊕ j
pub source_is : (q half m j k : ℕ) → m < 4 → k ≡ m ⊕ j → 32 * (q ⊕ half) + 8 * k ≡ source_of q j (4 * half + m)
unfolding source_of
source_is q half m j k l e =
    let d : half ≡ (4 * half + m) / 4 = omega arith in
    let r : m ≡ (4 * half + m) % 4 = omega arith in
    cc

-- steps 4 q to 4 q + 3 for value b, the one at i of a block, from where the copies are read
pub steps_are : (copies d : List ℕ) (q block i b f0 f1 f2 f3 held before : ℕ) → i < 8 → b ≡ 8 * block + i
    → f0 ≡ source_of q 0 block → f1 ≡ source_of q 1 block → f2 ≡ source_of q 2 block → f3 ≡ source_of q 3 block → held ≡ before
    → four_steps (get_or d (first_value q) 0) (get_or d (first_value q + 8) 0) (get_or d (first_value q + 16) 0) (get_or d (first_value q + 24) 0) (get_or copies (f0 + i) 0) (get_or copies (f1 + i) 0) (get_or copies (f2 + i) 0) (get_or copies (f3 + i) 0) held
    ≡ steps_at copies d q b before
unfolding steps_at
steps_are copies d q block i b f0 f1 f2 f3 held before l n e0 e1 e2 e3 e =
    let m : block ≡ b / 8 = omega arith in
    let k : i ≡ b % 8 = omega arith in
    cc

-- where the copies are read for one half of the values
pub half_lt : (q half : ℕ) → q < 16 → half < 2 → bit_xor q half < 16
half_lt q half l m = xor_lt 4 q half (omega arith) (omega arith)

-- no step of a column yet
pub column_none : (copies d : List ℕ) (column : ℕ) {before : List ℕ} → length before ≡ 64 → Mapped (column_to copies d column 0) 0 64 before before
unfolding column_to
column_none copies d column e = record { long = e; done = λ b p q. refl; earlier = λ b p. absurd (omega arith); later = λ b p. refl }

-- four steps of it more
pub column_more : (copies d : List ℕ) (column j : ℕ) {before after next : List ℕ} → Mapped (column_to copies d column j) 0 64 before after
    → Mapped (steps_at copies d (2 * column + j)) 0 64 after next → Mapped (column_to copies d column (j + 1)) 0 64 before next
unfolding column_to
column_more copies d column j {before} h m =
    let more : suc j ≡ j + 1 = omega arith in
    record {
      long = m.long;
      done = λ b p q. m.done b p q ∙ ap (steps_at copies d (2 * column + j) b) (h.done b p q) ∙ ap (λ (i : ℕ). column_to copies d column i b (get_or before b 0)) more;
      earlier = λ b p. absurd (omega arith);
      later = λ b p. m.later b p ∙ h.later b p;
    }

-- a loop that maps the 32 entries of one half, one of each block of eight in a turn: those before n in their block are mapped, all others are as they were
pub record LanesMapped (f : ℕ → ℕ → ℕ) (half n : ℕ) (before after : List ℕ) : Type 0 where
  pub long : length after ≡ 64
  pub done : (b : ℕ) → b / 32 ≡ half → b % 8 < n → get_or after b 0 ≡ f b (get_or before b 0)
  pub rest : (b : ℕ) → b / 32 ≡ half → n ≤ b % 8 → get_or after b 0 ≡ get_or before b 0
  pub other : (b : ℕ) → (b / 32 ≡ half → ⊥) → get_or after b 0 ≡ get_or before b 0

-- a turn: one entry more of each block
pub lanes_more : {f : ℕ → ℕ → ℕ} {half n : ℕ} {before after next : List ℕ} → LanesMapped f half n before after → half < 2 → n < 8 → length next ≡ 64
    → ((k : ℕ) → k < 4 → get_or next (32 * half + n + 8 * k) 0 ≡ f (32 * half + n + 8 * k) (get_or before (32 * half + n + 8 * k) 0))
    → ((b : ℕ) → ((k : ℕ) → k < 4 → b ≡ 32 * half + n + 8 * k → ⊥) → get_or next b 0 ≡ get_or after b 0)
    → LanesMapped f half (n + 1) before next
lanes_more {f} {half} {n} {before} {after} {next} h lh ln long four others = record {
  long = long;
  done = λ b p q. go b p q (dec_lt (b % 8) n);
  rest = λ b p q. others b (λ k l e. absurd (omega arith)) ∙ h.rest b p (omega arith);
  other = λ b p. others b (λ k l e. p (omega arith)) ∙ h.other b p;
}
  where
    go : (b : ℕ) → b / 32 ≡ half → b % 8 < n + 1 → Dec (b % 8 < n) → get_or next b 0 ≡ f b (get_or before b 0)
    go b p q (yes t) = others b (λ k l e. absurd (omega arith)) ∙ h.done b p t
    go b p q (no t) =
        let e : 32 * half + n + 8 * (b / 8 % 4) ≡ b = omega arith in
        subst (λ (j : ℕ). get_or next j 0 ≡ f j (get_or before j 0)) e (four (b / 8 % 4) (omega arith))

-- an entry of a list of four
pub four_at : {a0 a1 a2 a3 : ℕ} (f : ℕ → ℕ) → a0 ≡ f 0 → a1 ≡ f 1 → a2 ≡ f 2 → a3 ≡ f 3 → (m : ℕ) → m < 4 → get_or (a0 ∷ a1 ∷ a2 ∷ a3 ∷ []) m 0 ≡ f m
four_at f e0 e1 e2 e3 zero l = e0
four_at f e0 e1 e2 e3 (suc zero) l = e1
four_at f e0 e1 e2 e3 (suc (suc zero)) l = e2
four_at f e0 e1 e2 e3 (suc (suc (suc zero))) l = e3
four_at f e0 e1 e2 e3 (suc (suc (suc (suc m)))) l = absurd (omega arith)

-- a turn of the loop that takes the steps of one half: four values, the one at i of each block
module _ {before after next d4 w : List ℕ} {half i : ℕ} (copies d : List ℕ) (q : ℕ) (h : LanesMapped (steps_at copies d q) half i before after) (lh : half < 2) (li : i < 8)
    (d0 : get_or d4 0 0 ≡ get_or d (first_value q) 0) (d1 : get_or d4 1 0 ≡ get_or d (first_value q + 8) 0)
    (d2 : get_or d4 2 0 ≡ get_or d (first_value q + 16) 0) (d3 : get_or d4 3 0 ≡ get_or d (first_value q + 24) 0)
    (each : (m : ℕ) → m < 4 → get_or w m 0 ≡ get_or copies (32 * (q ⊕ half) + 8 * m + i) 0) (made : LaneMapped d4 w (32 * half + i) 4 after next) where
  -- the steps of the one in block k
  lane_done : (k : ℕ) → k < 4 → get_or next (32 * half + i + 8 * k) 0 ≡ steps_at copies d q (32 * half + i + 8 * k) (get_or before (32 * half + i + 8 * k) 0)
  unfolding ◌⊕◌
  lane_done k l =
      let b = 32 * half + i + 8 * k in
      let e0 = each k l in
      let e1 = each (k ⊕ 1) (xor_lt 2 k 1 l (omega arith)) in
      let e2 = each (k ⊕ 2) (xor_lt 2 k 2 l (omega arith)) in
      let e3 = each (k ⊕ 3) (xor_lt 2 k 3 l (omega arith)) in
      let first = made.done k l in
      let second = steps_are copies d q (4 * half + k) i b (32 * (q ⊕ half) + 8 * k) (32 * (q ⊕ half) + 8 * (k ⊕ 1)) (32 * (q ⊕ half) + 8 * (k ⊕ 2)) (32 * (q ⊕ half) + 8 * (k ⊕ 3))
      _ _ li (omega arith) (source_is q half k 0 k l (sym (sum_zero k))) (source_is q half k 1 (k ⊕ 1) l refl) (source_is q half k 2 (k ⊕ 2) l refl) (source_is q half k 3 (k ⊕ 3) l refl)
      (h.rest b (omega arith) (omega arith)) in
      cc

  -- one value more of each block
  pub lanes_steps : LanesMapped (steps_at copies d q) half (i + 1) before next
  lanes_steps = lanes_more h lh li made.long lane_done made.other

-- four steps, one after the other, are a fold over the differences and what is compared
pub fold_four : (d w : List ℕ) (held : ℕ) → length d ≡ 4 → length w ≡ 4
    → fold (λ h p. step h p.0 p.1) held (zip d w)
    ≡ four_steps (get_or d 0 0) (get_or d 1 0) (get_or d 2 0) (get_or d 3 0) (get_or w 0 0) (get_or w 1 0) (get_or w 2 0) (get_or w 3 0) held
unfolding four_steps tabulate
fold_four d w held e f =
    ap₂ (λ (ds ws : List ℕ). fold (λ h p. step h p.0 p.1) held (zip ds ws)) (tabulate_by 0 4 (λ i. get_or d i 0) d e (λ i l. refl)) (tabulate_by 0 4 (λ i. get_or w i 0) w f (λ i l. refl))

-- four steps for four values, one more of them
pub lane_more : (d w : List ℕ) (at count x : ℕ) (before after : List ℕ) → LaneMapped d w at count before after → at + 8 * count < 64
    → x ≡ four_steps (get_or d 0 0) (get_or d 1 0) (get_or d 2 0) (get_or d 3 0) (get_or w count 0) (get_or w (count ⊕ 1) 0) (get_or w (count ⊕ 2) 0) (get_or w (count ⊕ 3) 0) (get_or after (at + 8 * count) 0)
    → LaneMapped d w at (count + 1) before (set after (at + 8 * count) x)
lane_more d w at count x before after h l e = record {
  long = length-set after (at + 8 * count) x ∙ h.long;
  done = λ k s. go k s (dec_lt k count);
  other = λ b ne. get_or-set_other after (at + 8 * count) b x 0 (λ z. ne count (omega arith) z) ∙ h.other b (λ k s. ne k (omega arith));
}
  where
    go : (k : ℕ) → k < count + 1 → Dec (k < count) → get_or (set after (at + 8 * count) x) (at + 8 * k) 0
        ≡ four_steps (get_or d 0 0) (get_or d 1 0) (get_or d 2 0) (get_or d 3 0) (get_or w k 0) (get_or w (k ⊕ 1) 0) (get_or w (k ⊕ 2) 0) (get_or w (k ⊕ 3) 0) (get_or before (at + 8 * k) 0)
    go k s (yes t) = get_or-set_other after (at + 8 * count) (at + 8 * k) x 0 (λ z. absurd (omega arith)) ∙ h.done k t
    go k s (no t) =
        let q : count ≡ k = omega arith in
        let before_it = h.other (at + 8 * count) (λ j r z. absurd (omega arith)) in
        subst (λ (j : ℕ). get_or (set after (at + 8 * count) x) (at + 8 * j) 0
        ≡ four_steps (get_or d 0 0) (get_or d 1 0) (get_or d 2 0) (get_or d 3 0) (get_or w j 0) (get_or w (j ⊕ 1) 0) (get_or w (j ⊕ 2) 0) (get_or w (j ⊕ 3) 0) (get_or before (at + 8 * j) 0)) q
        (get_or-set_same after (at + 8 * count) x 0 (let n = h.long in omega arith) ∙ e
        ∙ ap (four_steps (get_or d 0 0) (get_or d 1 0) (get_or d 2 0) (get_or d 3 0) (get_or w count 0) (get_or w (count ⊕ 1) 0) (get_or w (count ⊕ 2) 0) (get_or w (count ⊕ 3) 0)) before_it)
