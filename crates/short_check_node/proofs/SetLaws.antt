-- The set of the values tried, from a threshold.
use Rattle.std.proofs.Common.{◌≡◌, ℕ, zero, suc, max, ◌+◌, ◌-◌, ◌<◌, ◌≤◌, Bool, cond, eqb, List, get_or, refl, ap, ◌∙◌, ap₂, le_refl, add-zero, arith, le-ltb, lt-ltb, eq-eqb, ne_eqb}
use native.Mathlib.Decide.{dec_lt}
use lib.Bits.{bit_xor}
use Rattle.vector.specs.Vector.{sum_to, AtMost}
use Rattle.vector.proofs.Laws.{sum_ext, sum_none, sum_more, sum_first, sum_split, sum_part, sum_add}
use Rattle.scms.specs.Tried.{count_below, count_equal, count_before}
use Rattle.short_check_node.specs.Masks.{at_least_one, one_if_below, below_at, Threshold, Flags, mask_of, from, Cut, HasSet, AfterLowest, TriedSet}
use Rattle.short_check_node.proofs.MaskLaws.{mask_parts, mask_without}
use Rattle.short_check_node.proofs.CutLaws.{from_before, from_after, from_le}

-- ---- how many values are tried

-- as many as are asked for, and at least 1
pub asked_least : (m : ℕ) → max m 1 ≡ at_least_one m
unfolding at_least_one
asked_least zero = refl
asked_least (suc m) = omega arith

-- so it is the number itself where one at least is asked for
pub asked_some : (m : ℕ) → 1 ≤ m → m ≡ at_least_one m
unfolding at_least_one
asked_some zero l = absurd (omega arith)
asked_some (suc m) l = refl

-- from 1 to 64 where fewer than 64 are asked for
pub asked_most : (m : ℕ) → m < 64 → (1 ≤ at_least_one m) × (at_least_one m ≤ 64)
unfolding at_least_one
asked_most zero l = (omega arith, omega arith)
asked_most (suc m) l = (omega arith, omega arith)

-- ---- counts by their terms

-- a sum whose terms are no larger
pub sum_mono : (n : ℕ) (f g : ℕ → ℕ) → ((i : ℕ) → i < n → f i ≤ g i) → sum_to n f ≤ sum_to n g
unfolding sum_to
sum_mono zero f g h = le_refl 0
sum_mono (suc n) f g h =
    let a = sum_mono n f g (λ i l. h i (omega arith)) in
    let b = h n (le_refl (suc n)) in
    omega arith

-- a sum of ones
sum_ones : (n : ℕ) → sum_to n (λ i. 1) ≡ n
unfolding sum_to
sum_ones zero = refl
sum_ones (suc n) = let e = sum_ones n in omega arith

-- the count of one penalty: below t
pub below_one : (x t : ℕ) → x < t → one_if_below x t ≡ 1
below_one x t l = ap (λ (z : Bool). cond z 1 0) (lt-ltb x t l)

-- and not below t
pub below_none : (x t : ℕ) → t ≤ x → one_if_below x t ≡ 0
below_none x t l = ap (λ (z : Bool). cond z 1 0) (le-ltb x t l)

-- it is 1 at most
pub below_flag : (x t : ℕ) → one_if_below x t ≤ 1
below_flag x t = go (dec_lt x t)
  where
    go : Dec (x < t) → one_if_below x t ≤ 1
    go (yes l) = let e = below_one x t l in omega arith
    go (no l) = let e = below_none x t (omega arith) in omega arith

-- with a larger t no less
pub below_mono : (x t u : ℕ) → t ≤ u → one_if_below x t ≤ one_if_below x u
below_mono x t u l = go (dec_lt x t)
  where
    go : Dec (x < t) → one_if_below x t ≤ one_if_below x u
    go (yes s) = let a = below_one x t s in let b = below_one x u (omega arith) in omega arith
    go (no s) = let a = below_none x t (omega arith) in omega arith

-- so with a larger t no fewer penalties are below it
pub count_mono : (v : List ℕ) (t u : ℕ) → t ≤ u → count_below v t ≤ count_below v u
unfolding count_below
count_mono v t u l = sum_mono 64 (below_at v t) (below_at v u) (λ i s. below_mono (get_or v i 0) t u l)

-- none is below 0
pub count_none : (v : List ℕ) → count_below v 0 ≡ 0
unfolding count_below
count_none v = sum_none 64 (below_at v 0) (λ i l. below_none (get_or v i 0) 0 (omega arith))

-- all are below a number that is above all
pub count_all : (v : List ℕ) (n : ℕ) → AtMost n v → 64 ≤ count_below v (n + 1)
unfolding count_below
count_all v n h =
    let ones = sum_ones 64 in
    let l = sum_mono 64 (λ i. 1) (below_at v (n + 1))
    (λ i s. let m = h i s in let e = below_one (get_or v i 0) (n + 1) (omega arith) in omega arith) in
    omega arith

-- 1 where the penalty is t, and else 0
abbrev pub same_at : (v : List ℕ) (t c : ℕ) → ℕ
same_at v t c = below_at v (t + 1) c - below_at v t c

-- that is the count of equal penalties
same_is : (x t : ℕ) → ◌≡◌ {A = ℕ} (cond (eqb x t) 1 0) (one_if_below x (t + 1) - one_if_below x t)
same_is x t = go (dec_lt x t) (dec_lt t x)
  where
    go : Dec (x < t) → Dec (t < x) → ◌≡◌ {A = ℕ} (cond (eqb x t) 1 0) (one_if_below x (t + 1) - one_if_below x t)
    go (yes l) _ =
        let a = below_one x t l in
        let b = below_one x (t + 1) (omega arith) in
        let e : ◌≡◌ {A = ℕ} (cond (eqb x t) 1 0) 0 = ap (λ (z : Bool). cond z 1 0) (ne_eqb x t (λ q. absurd (omega arith))) in
        omega arith
    go (no l) (yes s) =
        let a = below_none x t (omega arith) in
        let b = below_none x (t + 1) (omega arith) in
        let e : ◌≡◌ {A = ℕ} (cond (eqb x t) 1 0) 0 = ap (λ (z : Bool). cond z 1 0) (ne_eqb x t (λ q. absurd (omega arith))) in
        omega arith
    go (no l) (no s) =
        let a = below_none x t (omega arith) in
        let b = below_one x (t + 1) (omega arith) in
        let e : ◌≡◌ {A = ℕ} (cond (eqb x t) 1 0) 1 = ap (λ (z : Bool). cond z 1 0) (eq-eqb x t (omega arith)) in
        omega arith

pub equal_is : (v : List ℕ) (t c : ℕ) → count_equal v t c ≡ sum_to c (same_at v t)
unfolding count_equal
equal_is v t c = sum_ext c _ _ (λ i l. same_is (get_or v i 0) t)

-- those not above t are those below t and the equal ones
pub count_parts : (v : List ℕ) (t : ℕ) → count_below v (t + 1) ≡ count_below v t + sum_to 64 (same_at v t)
unfolding count_below
count_parts v t =
    sum_ext 64 (below_at v (t + 1)) (λ i. below_at v t i + same_at v t i)
    (λ i l. let m = below_mono (get_or v i 0) t (t + 1) (omega arith) in omega arith)
    ∙ sum_add 64 (below_at v t) (same_at v t)

-- ---- which values come before one

-- before a value whose penalty is below t come fewer than those below t: they are below t, and it is too
pub before_below : (v : List ℕ) (t c : ℕ) → c < 64 → get_or v c 0 < t → count_before v c < count_below v t
unfolding count_before count_below count_equal
before_below v t c l s =
    let x = get_or v c 0 in
    let equal : ℕ → ℕ = λ d. cond (eqb (get_or v d 0) x) 1 0 in
    let n = 63 - c in
    let all : 64 ≡ c + suc n = omega arith in
    let lower : sum_to 64 (below_at v x) ≡ sum_to c (below_at v x) + sum_to (suc n) (λ i. below_at v x (c + i))
    = ap (λ (k : ℕ). sum_to k (below_at v x)) all ∙ sum_split c (suc n) (below_at v x) in
    let upper : sum_to 64 (below_at v t) ≡ sum_to c (below_at v t) + sum_to (suc n) (λ i. below_at v t (c + i))
    = ap (λ (k : ℕ). sum_to k (below_at v t)) all ∙ sum_split c (suc n) (below_at v t) in
    let first = sum_first n (λ i. below_at v x (c + i)) in
    let second = sum_first n (λ i. below_at v t (c + i)) in
    let own : below_at v x (c + 0) ≡ 0 = ap (below_at v x) (add-zero c) ∙ below_none x x (le_refl x) in
    let one : below_at v t (c + 0) ≡ 1 = ap (below_at v t) (add-zero c) ∙ below_one x t s in
    let later = sum_mono n (λ i. below_at v x (c + suc i)) (λ i. below_at v t (c + suc i)) (λ i q. below_mono (get_or v (c + suc i) 0) x t (omega arith)) in
    let sum = sum_add c (below_at v x) equal in
    let earlier = sum_mono c (λ d. below_at v x d + equal d) (below_at v t) (λ d q. both (get_or v d 0) x s) in
    omega arith
  where
    both : (y x : ℕ) → x < t → one_if_below y x + cond (eqb y x) 1 0 ≤ one_if_below y t
    both y x q =
        let e = same_is y x in
        let a = below_mono y x (x + 1) (omega arith) in
        let b = below_mono y (x + 1) t (omega arith) in
        omega arith

-- before a value whose penalty is t come those below t, and the equal ones before it
pub before_same : (v : List ℕ) (t c : ℕ) → get_or v c 0 ≡ t → count_before v c ≡ count_below v t + sum_to c (same_at v t)
unfolding count_before
before_same v t c e =
    ap (λ (x : ℕ). count_below v x + count_equal v x c) e ∙ ap (λ (n : ℕ). count_below v t + n) (equal_is v t c)

-- before a value whose penalty is above t come all that are not above t
pub before_above : (v : List ℕ) (t c : ℕ) → t < get_or v c 0 → count_below v (t + 1) ≤ count_before v c
unfolding count_before
before_above v t c l = let m = count_mono v (t + 1) (get_or v c 0) (omega arith) in omega arith

-- ---- the numbers of the sets

-- the equal ones: each once at most
same_flags : (v : List ℕ) (t : ℕ) → Flags (same_at v t)
same_flags v t c = let a = below_flag (get_or v c 0) (t + 1) in omega arith

-- they are those not above t without those below t
pub same_mask : (v : List ℕ) (t upto below : ℕ) → upto ≡ mask_of 64 (below_at v (t + 1)) → below ≡ mask_of 64 (below_at v t)
    → (below ≤ upto) × (upto - below ≡ mask_of 64 (same_at v t))
same_mask v t upto below u b =
    let e = mask_parts 64 (below_at v (t + 1)) (below_at v t) (λ i l. below_mono (get_or v i 0) t (t + 1) (omega arith)) in
    (omega arith, omega arith)

-- there are enough of them
pub has_same : (m : ℕ) (v : List ℕ) (t few mask : ℕ) → Threshold m v t → few ≡ count_below v t → mask ≡ mask_of 64 (same_at v t) → HasSet mask (m - few)
has_same m v t few mask th f e = record {
  set = same_at v t;
  flags = same_flags v t;
  is_mask = e;
  enough = let p = count_parts v t in let n = th.enough in omega arith;
}

-- what is left of them, from their number
pub same_cut : (m : ℕ) (v : List ℕ) (t few mask left : ℕ) → Threshold m v t → few ≡ count_below v t → mask ≡ mask_of 64 (same_at v t)
    → AfterLowest mask (m - few) left → Cut (same_at v t) (m - few) left
same_cut m v t few mask left th f e a =
    a.cut (same_at v t) (same_flags v t) e (let p = count_parts v t in let n = th.enough in omega arith)

-- the values tried: all that are not above t, without the equal ones from e on
abbrev pub tried_at : (v : List ℕ) (t e c : ℕ) → ℕ
tried_at v t e c = below_at v (t + 1) c - from e (same_at v t) c

-- each once at most
tried_flags : (v : List ℕ) (t e : ℕ) → Flags (tried_at v t e)
tried_flags v t e c = let a = below_flag (get_or v c 0) (t + 1) in omega arith

-- their number
tried_mask : (v : List ℕ) (t e upto left : ℕ) → upto ≡ mask_of 64 (below_at v (t + 1)) → left ≡ mask_of 64 (from e (same_at v t))
    → bit_xor upto left ≡ mask_of 64 (tried_at v t e)
tried_mask v t e upto left u l =
    ap₂ bit_xor u l
    ∙ mask_without 64 (below_at v (t + 1)) (from e (same_at v t)) (λ i. below_flag (get_or v i 0) (t + 1)) (λ i. let a = from_le e (same_at v t) i in omega arith)

-- ---- the set of the values tried
module _ (m : ℕ) (v : List ℕ) (t e : ℕ) (th : Threshold m v t) (cut : sum_to e (same_at v t) ≡ m - count_below v t) where
  -- its values are those before which fewer than m come
  pub tried_iff : (c : ℕ) → c < 64 → (tried_at v t e c ≡ 1 → count_before v c < m) × (count_before v c < m → tried_at v t e c ≡ 1)
  tried_iff c l = go (dec_lt (get_or v c 0) t) (dec_lt t (get_or v c 0)) (dec_lt c e)
    where
      go : Dec (get_or v c 0 < t) → Dec (t < get_or v c 0) → Dec (c < e) → (tried_at v t e c ≡ 1 → count_before v c < m) × (count_before v c < m → tried_at v t e c ≡ 1)
      go (yes s) _ _ =
          let a = below_one (get_or v c 0) t s in
          let b = below_one (get_or v c 0) (t + 1) (omega arith) in
          let r = from_le e (same_at v t) c in
          let q = before_below v t c l s in
          let f = th.few in
          (λ _. omega arith, λ _. omega arith)
      go (no s) (yes u) _ =
          let b = below_none (get_or v c 0) (t + 1) (omega arith) in
          let q = before_above v t c u in
          let n = th.enough in
          (λ z. absurd (omega arith), λ z. absurd (omega arith))
      go (no s) (no u) (yes k) =
          let at : get_or v c 0 ≡ t = omega arith in
          let a = below_none (get_or v c 0) t (omega arith) in
          let b = below_one (get_or v c 0) (t + 1) (omega arith) in
          let r = from_before e (same_at v t) c k in
          let q = before_same v t c at in
          let f = th.few in
          let more = sum_more c (same_at v t) in
          let part = sum_part (c + 1) e (same_at v t) (omega arith) in
          (λ _. omega arith, λ _. omega arith)
      go (no s) (no u) (no k) =
          let at : get_or v c 0 ≡ t = omega arith in
          let a = below_none (get_or v c 0) t (omega arith) in
          let b = below_one (get_or v c 0) (t + 1) (omega arith) in
          let r = from_after e (same_at v t) c (omega arith) in
          let q = before_same v t c at in
          let part = sum_part e c (same_at v t) (omega arith) in
          (λ z. absurd (omega arith), λ z. absurd (omega arith))

-- so the number is their set
pub tried_set : (m : ℕ) (v : List ℕ) (t few upto left : ℕ) → Threshold m v t → few ≡ count_below v t → upto ≡ mask_of 64 (below_at v (t + 1))
    → Cut (same_at v t) (m - few) left → TriedSet m v (bit_xor upto left)
tried_set m v t few upto left th f u k =
    let before : sum_to k.at (same_at v t) ≡ m - count_below v t = (let b = k.before in omega arith) in
    record {
      set = tried_at v t k.at;
      flags = tried_flags v t k.at;
      is_mask = tried_mask v t k.at upto left u k.is_left;
      values = tried_iff m v t k.at th before;
    }
