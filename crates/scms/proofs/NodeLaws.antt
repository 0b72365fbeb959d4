-- The entries of the nodes' vectors.
use mathlib.Core.Path.{◌≡◌, refl, sym, ap, ap₂, ◌∙◌, subst}
use mathlib.Core.Bool.{Bool, cond}
use mathlib.Core.List.{List}
use Prim.Native.Nat.{ℕ, ◌+◌, ◌-◌, ◌≤◌, ◌<◌, min}
use native.Mathlib.Nat.{le_of_suc-le-suc, le_refl, le_trans, le_of_eq, min-le_right, min-le_left, min-eq_right, sub-add_cancel}
use native.Mathlib.Decide.{dec_lt}
use native.Mathlib.Omega.{arith}
use borrow.Author.Tests.{lt-ltb, le-ltb}
use lib.Arith.{le-zero}
use lib.Dec.{ltb}
use lib.ListN.{length, get_or}
use Rattle.vector.specs.Vector.{least_to, less_least, HasZero, AtMost, OnlyZero}
use Rattle.vector.proofs.Laws.{length_tabulate, get_d_tabulate, tabulate_ext, sum_none, term_le, least_to_le, least_to_at, least_le, less_least_at, less_least_zero}
use Rattle.gf64.specs.Field.{◌⊕◌, ◌⊙◌, inverse, NonZero}
use Rattle.gf64.proofs.SumLaws.{sum_lt, sum_back}
use Rattle.gf64.proofs.ProductLaws.{product_lt, product_injective, undoes_inverse}
use Rattle.scms.specs.Tried.{tried, least_over}
use Rattle.scms.specs.Decision.{smallest}
use Rattle.scms.specs.Nodes.{ordered, sum_at, check_from, check_node, check_tried, check_node_by, sums_from, sums, less_from, subtract_least, clipped, exceeding, lowered, variable_node, clipped_entries}
use Rattle.scms.specs.Claims.{NodeRules}
use Rattle.scms.proofs.DecisionLaws.{smallest_lt, smallest_zero}
use Rattle.scms.proofs.TriedLaws.{Tried, over_le, over_at, over_is, tried_more, smallest_tried, all_tried}

-- ---- the count of what exceeds the cap

-- an entry that does not count does not exceed the cap
count_none : (cap x : ℕ) → ◌≡◌ {A = ℕ} (cond (ltb cap x) 1 0) 0 → x ≤ cap
count_none cap x e = go (dec_lt cap x)
  where
    go : Dec (cap < x) → x ≤ cap
    go (yes l) = let z : ◌≡◌ {A = ℕ} 1 0 = sym (ap (λ (t : Bool). cond t 1 0) (lt-ltb cap x l)) ∙ e in absurd (omega arith)
    go (no h) = omega arith

-- and the other way round
none_count : (cap x : ℕ) → x ≤ cap → ◌≡◌ {A = ℕ} (cond (ltb cap x) 1 0) 0
none_count cap x l = ap (λ (t : Bool). cond t 1 0) (le-ltb cap x l)

-- where the count is 0 no entry exceeds the cap
pub exceeding_none : (cap : ℕ) (v : List ℕ) → exceeding cap v ≡ 0 → (c : ℕ) → c < 64 → get_or v c 0 ≤ cap
unfolding exceeding
exceeding_none cap v e c l =
    count_none cap (get_or v c 0) (le-zero (subst (λ (x : ℕ). cond (ltb cap (get_or v c 0)) 1 0 ≤ x) e (term_le 64 (λ i. cond (ltb cap (get_or v i 0)) 1 0) c l)))

-- and the other way round
pub none_exceeding : (cap : ℕ) (v : List ℕ) → ((c : ℕ) → c < 64 → get_or v c 0 ≤ cap) → exceeding cap v ≡ 0
unfolding exceeding
none_exceeding cap v h = sum_none 64 (λ i. cond (ltb cap (get_or v i 0)) 1 0) (λ i l. none_count cap (get_or v i 0) (h i l))

-- ---- the check node from φ's vector in the order of c, where all values are tried: the full rule
pub tried_all : (m : ℕ) (theta v : List ℕ) → 64 ≤ m → check_tried m theta v ≡ check_from theta v
unfolding check_tried check_from
tried_all m theta v l = tabulate_ext 64 _ _ (λ b lb.
    let p = least_to_at 63 (sum_at theta v b) in
    let s : p.0 < 64 = (let q = p.1 in omega arith) in
    sym (over_is m v (sum_at theta v b) (least_to 63 (sum_at theta v b)) p.0 (tried_more 64 m v p.0 l (all_tried v p.0 s)) p.2
    (λ c t. least_to_le 63 (sum_at theta v b) c (le_of_suc-le-suc t.0))))

module _ (h : ℕ) (v w : List ℕ) where
  -- φ's vector in the order of c
  ordered_entry : (c : ℕ) → c < 64 → get_or (ordered h w) c 0 ≡ get_or w (h ⊙ c) 0
  unfolding ordered
  ordered_entry c l = get_d_tabulate 0 64 (λ i. get_or w (h ⊙ i) 0) c l

  -- a sum with it
  with_ordered : (x c : ℕ) → c < 64 → x + get_or (ordered h w) c 0 ≡ x + get_or w (h ⊙ c) 0
  with_ordered x c l = ap (λ (y : ℕ). x + y) (ordered_entry c l)

  -- ---- the check node

  -- value c is tried
  abbrev pub TriedBy : (m c : ℕ) → Type 0
  TriedBy m c = Tried m (ordered h w) c

  -- its entry b is a least over the values tried
  check_entry : (m b : ℕ) → b < 64 → get_or (check_node_by m h v w) b 0 ≡ least_over (tried m (ordered h w)) (sum_at v (ordered h w) b)
  unfolding check_node_by check_tried
  check_entry m b l = get_d_tabulate 0 64 (λ a. least_over (tried m (ordered h w)) (sum_at v (ordered h w) a)) b l

  -- no sum at one of them is below it
  pub check_le : (m b c : ℕ) → b < 64 → TriedBy m c → get_or (check_node_by m h v w) b 0 ≤ get_or v (b ⊕ c) 0 + get_or w (h ⊙ c) 0
  check_le m b c lb tc =
      le_trans (le_of_eq (check_entry m b lb))
      (le_trans (over_le m (ordered h w) (sum_at v (ordered h w) b) c tc) (le_of_eq (with_ordered (get_or v (b ⊕ c) 0) c tc.0)))

  -- and the sum at one of them is it
  pub check_attained : (m b : ℕ) → 1 ≤ m → b < 64
      → (c : ℕ) × TriedBy m c × (get_or v (b ⊕ c) 0 + get_or w (h ⊙ c) 0 ≡ get_or (check_node_by m h v w) b 0)
  check_attained m b lm lb =
      let p = over_at m (ordered h w) (sum_at v (ordered h w) b) (smallest (ordered h w)) (smallest_tried m (ordered h w) lm) in
      (p.0, p.1, sym (with_ordered (get_or v (b ⊕ p.0) 0) p.0 p.1.0) ∙ p.2 ∙ sym (check_entry m b lb))

  -- so with a larger m no entry is larger
  pub check_larger : (m n b : ℕ) → 1 ≤ m → m ≤ n → b < 64 → get_or (check_node_by n h v w) b 0 ≤ get_or (check_node_by m h v w) b 0
  check_larger m n b lm l lb =
      let p = check_attained m b lm lb in
      le_trans (check_le n b p.0 lb (tried_more m n (ordered h w) p.0 l p.1)) (le_of_eq p.2)

  -- with 64 it is the full rule
  pub check_full : check_node_by 64 h v w ≡ check_node h v w
  unfolding check_node_by check_node
  check_full = tried_all 64 v (ordered h w) (le_refl 64)

  -- ---- the variable node with θ's symbol u

  module _ (u : ℕ) where
    -- its sums
    pub sums_at : (c : ℕ) → c < 64 → get_or (sums h u v w) c 0 ≡ get_or v (u ⊕ c) 0 + get_or w (h ⊙ c) 0
    unfolding sums sums_from
    sums_at c l = get_d_tabulate 0 64 (λ i. get_or v (u ⊕ i) 0 + get_or (ordered h w) i 0) c l ∙ with_ordered (get_or v (u ⊕ c) 0) c l

    -- what is taken off is no more than any sum
    pub taken_le : (c : ℕ) → c < 64 → (lowered h u v w).taken ≤ get_or (sums h u v w) c 0
    unfolding lowered less_from sums subtract_least
    taken_le c l = least_le (sums h u v w) c l

    -- what is left of a sum
    pub rest_at : (c : ℕ) → c < 64 → get_or (lowered h u v w).rest c 0 ≡ get_or (sums h u v w) c 0 - (lowered h u v w).taken
    unfolding lowered less_from sums subtract_least
    rest_at c l = less_least_at (sums h u v w) c l

    -- an entry after the cap
    pub variable_entry : (cap c : ℕ) → c < 64 → get_or (variable_node cap h u v w) c 0 ≡ min cap (get_or (lowered h u v w).rest c 0)
    unfolding variable_node clipped
    variable_entry cap c l = get_d_tabulate 0 64 (λ i. min cap (get_or (lowered h u v w).rest i 0)) c l

    -- where nothing is clipped, what is held and what was taken off make the sum
    pub variable_exact : (cap : ℕ) → clipped_entries cap h u v w ≡ 0 → (c : ℕ) → c < 64
        → get_or (variable_node cap h u v w) c 0 + (lowered h u v w).taken ≡ get_or v (u ⊕ c) 0 + get_or w (h ⊙ c) 0
    unfolding clipped_entries
    variable_exact cap e c l =
        let k = exceeding_none cap (lowered h u v w).rest e c l in
        ap (λ (x : ℕ). x + (lowered h u v w).taken) (variable_entry cap c l ∙ min-eq_right k ∙ rest_at c l)
        ∙ sub-add_cancel (taken_le c l) ∙ sums_at c l

-- ---- the nodes from φ's vector in the order of c

-- the check node
pub check_by_order : (m h : ℕ) (theta phi : List ℕ) → check_tried m theta (ordered h phi) ≡ check_node_by m h theta phi
unfolding check_node_by
check_by_order m h theta phi = refl

-- the variable node
pub llrs_from : (cap h u : ℕ) (theta phi : List ℕ) → clipped cap (less_from u theta (ordered h phi)).rest ≡ variable_node cap h u theta phi
unfolding variable_node lowered
llrs_from cap h u theta phi = refl

-- its count of clipped entries
pub count_from : (cap h u : ℕ) (theta phi : List ℕ) → exceeding cap (less_from u theta (ordered h phi)).rest ≡ clipped_entries cap h u theta phi
unfolding clipped_entries lowered
count_from cap h u theta phi = refl

-- and what it takes off
pub taken_by_order : (h u : ℕ) (theta phi : List ℕ) → (less_from u theta (ordered h phi)).taken ≡ (lowered h u theta phi).taken
unfolding lowered
taken_by_order h u theta phi = refl

-- ---- what each node keeps: 64 entries, a 0, a bound

-- a vector after the clip has 64 entries
pub clipped_long : (cap : ℕ) (v : List ℕ) → length (clipped cap v) ≡ 64
unfolding clipped
clipped_long cap v = length_tabulate 64 (λ c. min cap (get_or v c 0))

-- a check node has 64 entries
pub check_long : (m h : ℕ) (v w : List ℕ) → length (check_node_by m h v w) ≡ 64
unfolding check_node_by check_tried
check_long m h v w = length_tabulate 64 (λ b. least_over (tried m (ordered h w)) (sum_at v (ordered h w) b))

-- so has a variable node
pub variable_long : (cap h u : ℕ) (v w : List ℕ) → length (variable_node cap h u v w) ≡ 64
unfolding variable_node
variable_long cap h u v w = clipped_long cap (lowered h u v w).rest

-- the value c that φ's value z belongs to: h ⊙ c is z
module _ (h : ℕ) (u : NonZero h) (z : ℕ) (lz : z < 64) where
  -- it is a symbol
  quotient_lt : inverse h ⊙ z < 64
  quotient_lt = product_lt (inverse h) z

  -- and φ is read at z there
  quotient_at : (w : List ℕ) → get_or w (h ⊙ (inverse h ⊙ z)) 0 ≡ get_or w z 0
  quotient_at w = ap (λ (i : ℕ). get_or w i 0) (undoes_inverse h z u lz)

-- where φ's vector holds a 0, a value is tried at which its penalty is 0
pub zero_tried : (m h : ℕ) (w : List ℕ) → 1 ≤ m → NonZero h → HasZero w → (c : ℕ) × Tried m (ordered h w) c × (get_or w (h ⊙ c) 0 ≡ 0)
zero_tried m h w lm u zw =
    let z = zw.zero_at in
    let c = inverse h ⊙ z in
    let lc = quotient_lt h u z zw.within in
    let v = ordered h w in
    let zero : HasZero v = record { zero_at = c; within = lc; is_zero = ordered_entry h w w c lc ∙ quotient_at h u z zw.within w ∙ zw.is_zero } in
    (smallest v, smallest_tried m v lm, sym (ordered_entry h w w (smallest v) (smallest_lt v)) ∙ smallest_zero v zero)

-- a check node of two vectors that hold a 0 holds one
pub check_zero : (m h : ℕ) (v w : List ℕ) → 1 ≤ m → NonZero h → HasZero v → HasZero w → HasZero (check_node_by m h v w)
check_zero m h v w lm u zv zw =
    let p = zero_tried m h w lm u zw in
    let c = p.0 in
    let b = zv.zero_at ⊕ c in
    let lb = sum_lt zv.zero_at c zv.within p.1.0 in
    record {
      zero_at = b;
      within = lb;
      is_zero = le-zero (le_trans (check_le h v w m b c lb p.1) (le_of_eq (ap₂ (λ (x y : ℕ). x + y)
          (ap (λ (i : ℕ). get_or v i 0) (sum_back zv.zero_at c) ∙ zv.is_zero) p.2)));
    }

-- a variable node always holds one
pub variable_zero : (cap h u : ℕ) (v w : List ℕ) → HasZero (variable_node cap h u v w)
unfolding lowered less_from sums subtract_least
variable_zero cap h u v w =
    let p = less_least_zero (sums h u v w) in
    record {
      zero_at = p.0;
      within = p.1;
      is_zero = variable_entry h v w u cap p.0 p.1 ∙ le-zero (le_trans (min-le_right cap (get_or (less_least (sums h u v w)) p.0 0)) (le_of_eq p.2));
    }

-- a check node never exceeds θ's bound, since φ's vector holds a 0
pub check_most : (most m h : ℕ) (v w : List ℕ) → 1 ≤ m → NonZero h → AtMost most v → HasZero w → AtMost most (check_node_by m h v w)
check_most most m h v w lm u mv zw b lb =
    let p = zero_tried m h w lm u zw in
    let s = check_le h v w m b p.0 lb p.1 in
    let q = mv (b ⊕ p.0) (sum_lt b p.0 lb p.1.0) in
    let r = p.2 in
    omega arith

-- what a variable node takes off is at most θ's bound, since φ's vector holds a 0
pub taken_most : (most h u : ℕ) (v w : List ℕ) → NonZero h → u < 64 → AtMost most v → HasZero w → (lowered h u v w).taken ≤ most
taken_most most h u v w nz lu mv zw =
    let z = zw.zero_at in
    let c = inverse h ⊙ z in
    let lc = quotient_lt h nz z zw.within in
    let p = taken_le h v w u c lc in
    let q = sums_at h v w u c lc in
    let r = mv (u ⊕ c) (sum_lt u c lu lc) in
    let s = quotient_at h nz z zw.within w ∙ zw.is_zero in
    omega arith

-- before the cap an entry of a variable node is at most the two bounds together
pub rest_most : (most h u : ℕ) (v w : List ℕ) → u < 64 → AtMost most v → AtMost most w → AtMost (most + most) (lowered h u v w).rest
rest_most most h u v w lu mv mw c lc =
    let p = rest_at h v w u c lc in
    let q = sums_at h v w u c lc in
    let r = mv (u ⊕ c) (sum_lt u c lu lc) in
    let s = mw (h ⊙ c) (product_lt h c) in
    omega arith

-- after it, at most the cap
pub variable_cap : (cap h u : ℕ) (v w : List ℕ) → AtMost cap (variable_node cap h u v w)
variable_cap cap h u v w c lc = le_trans (le_of_eq (variable_entry h v w u cap c lc)) (min-le_left cap (get_or (lowered h u v w).rest c 0))

-- and no more than before it
pub variable_most : (most cap h u : ℕ) (v w : List ℕ) → AtMost most (lowered h u v w).rest → AtMost most (variable_node cap h u v w)
variable_most most cap h u v w m c lc =
    le_trans (le_of_eq (variable_entry h v w u cap c lc)) (le_trans (min-le_right cap (get_or (lowered h u v w).rest c 0)) (m c lc))

-- ---- without noise: both vectors are 0 at one value only

module _ (h : ℕ) (v w : List ℕ) (a b : ℕ) (nh : NonZero h) (la : a < 64) (lb : b < 64) (pv : OnlyZero v (a ⊕ b)) (pw : OnlyZero w (h ⊙ b)) where
  -- the sum at that pair
  both_zero : get_or v (a ⊕ b) 0 + get_or w (h ⊙ b) 0 ≡ 0
  both_zero = ap₂ (λ (x y : ℕ). x + y) pv.there pw.there

  -- no other c has a sum of 0
  only_second : (x c : ℕ) → c < 64 → x + get_or w (h ⊙ c) 0 ≡ 0 → c ≡ b
  only_second x c lc e = product_injective h c b nh lc lb (pw.only (h ⊙ c) (product_lt h c) (omega arith))

  -- the check node is 0 at a and nowhere else, with every m
  pub check_only : (m : ℕ) → 1 ≤ m → OnlyZero (check_node_by m h v w) a
  check_only m lm =
      let z = zero_tried m h w lm nh (record { zero_at = h ⊙ b; within = product_lt h b; is_zero = pw.there }) in
      let e : z.0 ≡ b = only_second 0 z.0 z.1.0 (ap (λ (x : ℕ). 0 + x) z.2) in
      let tb = subst (Tried m (ordered h w)) e z.1 in
      record {
        there = le-zero (le_trans (check_le h v w m a b la tb) (le_of_eq both_zero));
        only = λ x lx e.
            let p = check_attained h v w m x lm lx in
            let z = p.2 ∙ e in
            let c = only_second (get_or v (x ⊕ p.0) 0) p.0 p.1.0 z in
            let d = pv.only (x ⊕ p.0) (sum_lt x p.0 lx p.1.0) (omega arith) in
            sym (sum_back x b) ∙ ap (λ (y : ℕ). y ⊕ b) (ap (λ (y : ℕ). x ⊕ y) (sym c) ∙ d) ∙ sum_back a b;
      }

  -- nothing is taken off
  none_taken : (lowered h a v w).taken ≡ 0
  none_taken = le-zero (le_trans (taken_le h v w a b lb) (le_of_eq (sums_at h v w a b lb ∙ both_zero)))

  -- an entry of the variable node is its sum, clipped
  variable_sum : (cap c : ℕ) → c < 64 → get_or (variable_node cap h a v w) c 0 ≡ min cap (get_or v (a ⊕ c) 0 + get_or w (h ⊙ c) 0)
  variable_sum cap c lc =
      variable_entry h v w a cap c lc
      ∙ ap (min cap) (rest_at h v w a c lc ∙ ap₂ (λ (x y : ℕ). x - y) (sums_at h v w a c lc) none_taken ∙ less_none (get_or v (a ⊕ c) 0 + get_or w (h ⊙ c) 0))
    where
      less_none : (x : ℕ) → x - 0 ≡ x
      less_none x = omega arith

  -- the variable node with u = a is 0 at b and nowhere else, at every cap from 1 on
  pub variable_only : (cap : ℕ) → 1 ≤ cap → OnlyZero (variable_node cap h a v w) b
  variable_only cap hc = record {
    there = variable_sum cap b lb ∙ ap (min cap) both_zero ∙ min_none cap;
    only = λ c lc e. only_second (get_or v (a ⊕ c) 0) c lc (unclipped cap (get_or v (a ⊕ c) 0 + get_or w (h ⊙ c) 0) hc (sym (variable_sum cap c lc) ∙ e));
  }
    where
      min_none : (x : ℕ) → min x 0 ≡ 0
      min_none x = omega arith

      unclipped : (x y : ℕ) → 1 ≤ x → min x y ≡ 0 → y ≡ 0
      unclipped x y l e = omega arith

-- ---- what is said of one kernel's nodes
pub node_rules : (h : ℕ) (theta phi : List ℕ) → NodeRules h theta phi
node_rules h theta phi = record {
  larger_m = check_larger h theta phi;
  full_rule = check_full h theta phi;
  check_keeps = λ m cap lm nz v w. record {
    has_zero = check_zero m h theta phi lm nz v.has_zero w.has_zero;
    at_most = check_most cap m h theta phi lm nz v.at_most w.has_zero;
  };
  variable_keeps = λ cap u. record { has_zero = variable_zero cap h u theta phi; at_most = variable_cap cap h u theta phi };
}
