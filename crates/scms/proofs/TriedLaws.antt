-- The values that a check node tries, and the least over them.
use mathlib.Core.Path.{◌≡◌, sym, ap, ◌∙◌, subst}
use mathlib.Core.Bool.{Bool, true, false, cond}
use mathlib.Core.Logic.{◌⊎◌, inl, inr}
use mathlib.Core.List.{List, [], ◌∷◌, ◌++◌, append-nil}
use Prim.Native.Nat.{ℕ, zero, suc, ◌+◌, ◌-◌, ◌≤◌, ◌<◌, zero-le}
use native.Mathlib.Nat.{le_refl, le_trans, le_of_eq, le_antisymm, add-zero, le_of_suc-le-suc, eq-or-lt_of_le, not-suc-le-zero}
use native.Mathlib.Decide.{dec_lt}
use native.Mathlib.Omega.{arith}
use borrow.Author.Tests.{lt-ltb, le-ltb, ne_eqb}
use lib.Dec.{ltb, eqb}
use lib.ListN.{length, get_or, length-append, get_or-append}
use lib.Seq.{get_or-append_seam}
use Rattle.vector.specs.Vector.{sum_to}
use Rattle.vector.proofs.Laws.{sum_first, sum_split, sum_add, sum_le, sum_none, least_to_le, least_to_at}
use Rattle.scms.specs.Decision.{smallest}
use Rattle.scms.specs.Tried.{count_below, count_equal, count_before, tried_to, tried, least_over}
use Rattle.scms.proofs.DecisionLaws.{smallest_lt, smallest_least, smallest_first}

-- value c is tried
abbrev pub Tried : (m : ℕ) (v : List ℕ) (c : ℕ) → Type 0
Tried m v c = (c < 64) × (count_before v c < m)

-- ---- the list of the values tried
module _ (m : ℕ) (v : List ℕ) where
  -- one value more: it is tried
  more_tried : (k : ℕ) → count_before v k < m → tried_to m v (suc k) ≡ tried_to m v k ++ (k ∷ [])
  unfolding tried_to
  more_tried k l = ap (λ (t : Bool). tried_to m v k ++ cond t (k ∷ []) []) (lt-ltb (count_before v k) m l)

  -- or it is not
  more_left : (k : ℕ) → m ≤ count_before v k → tried_to m v (suc k) ≡ tried_to m v k
  unfolding tried_to
  more_left k l = ap (λ (t : Bool). tried_to m v k ++ cond t (k ∷ []) []) (le-ltb (count_before v k) m l) ∙ append-nil (tried_to m v k)

  -- a list has value c, as its entry j
  abbrev Has : (xs : List ℕ) (c : ℕ) → Type 0
  Has xs c = (j : ℕ) × (j < length xs) × (get_or xs j 0 ≡ c)

  -- each value tried is an entry
  tried_entry : (k c : ℕ) → c < k → count_before v c < m → Has (tried_to m v k) c
  tried_entry zero c l f = absurd (not-suc-le-zero l)
  tried_entry (suc k) c l f = go (tried_entry k c) (eq-or-lt_of_le (le_of_suc-le-suc l)) (dec_lt (count_before v k) m)
    where
      go : (c < k → count_before v c < m → Has (tried_to m v k) c) → (c ≡ k) ⊎ (c < k) → Dec (count_before v k < m)
          → Has (tried_to m v (suc k)) c
      go ih (inl e) (yes t) =
          let long = length-append (tried_to m v k) (k ∷ []) in
          subst (λ (xs : List ℕ). Has xs c) (sym (more_tried k t))
          (length (tried_to m v k), omega arith, get_or-append_seam (tried_to m v k) k [] 0 ∙ sym e)
      go ih (inl e) (no t) = absurd (t (subst (λ (x : ℕ). count_before v x < m) e f))
      go ih (inr s) (yes t) =
          let p = ih s f in
          let long = length-append (tried_to m v k) (k ∷ []) in
          let q = p.1 in
          subst (λ (xs : List ℕ). Has xs c) (sym (more_tried k t))
          (p.0, omega arith, get_or-append (tried_to m v k) (k ∷ []) 0 p.0 p.1 ∙ p.2)
      go ih (inr s) (no t) =
          subst (λ (xs : List ℕ). Has xs c) (sym (more_left k (omega arith))) (ih s f)

  -- each entry is a value tried
  entry_tried : (k j : ℕ) → j < length (tried_to m v k)
      → (get_or (tried_to m v k) j 0 < k) × (count_before v (get_or (tried_to m v k) j 0) < m)
  unfolding tried_to
  entry_tried zero j l = absurd (not-suc-le-zero l)
  entry_tried (suc k) j l = go (entry_tried k j) (dec_lt (count_before v k) m) (dec_lt j (length (tried_to m v k)))
    where
      go : (j < length (tried_to m v k) → (get_or (tried_to m v k) j 0 < k) × (count_before v (get_or (tried_to m v k) j 0) < m))
          → Dec (count_before v k < m) → Dec (j < length (tried_to m v k))
          → (get_or (tried_to m v (suc k)) j 0 < suc k) × (count_before v (get_or (tried_to m v (suc k)) j 0) < m)
      go ih (yes t) (yes s) =
          let e : get_or (tried_to m v (suc k)) j 0 ≡ get_or (tried_to m v k) j 0
          = ap (λ (xs : List ℕ). get_or xs j 0) (more_tried k t) ∙ get_or-append (tried_to m v k) (k ∷ []) 0 j s in
          let p = ih s in
          subst (λ (x : ℕ). (x < suc k) × (count_before v x < m)) (sym e) (let a = p.0 in omega arith, p.1)
      go ih (yes t) (no s) =
          let long = ap length (more_tried k t) ∙ length-append (tried_to m v k) (k ∷ []) in
          let at : j ≡ length (tried_to m v k) = omega arith in
          let e : get_or (tried_to m v (suc k)) j 0 ≡ k
          = ap (λ (xs : List ℕ). get_or xs j 0) (more_tried k t) ∙ ap (λ (i : ℕ). get_or (tried_to m v k ++ (k ∷ [])) i 0) at
          ∙ get_or-append_seam (tried_to m v k) k [] 0 in
          subst (λ (x : ℕ). (x < suc k) × (count_before v x < m)) (sym e) (omega arith, t)
      go ih (no t) (yes s) =
          let e = more_left k (omega arith) in
          let p = ih s in
          subst (λ (xs : List ℕ). (get_or xs j 0 < suc k) × (count_before v (get_or xs j 0) < m)) (sym e) (let a = p.0 in omega arith, p.1)
      go ih (no t) (no s) = absurd (s (subst (λ (xs : List ℕ). j < length xs) (more_left k (omega arith)) l))

  -- ---- the least over the values tried
  module _ (f : ℕ → ℕ) where
    -- it is no more than what any of them gives
    pub over_le : (c : ℕ) → Tried m v c → least_over (tried m v) f ≤ f c
    unfolding least_over tried
    over_le c t =
        let p = tried_entry 64 c t.0 t.1 in
        let l = p.1 in
        le_trans (least_to_le (length (tried_to m v 64) - 1) (λ j. f (get_or (tried_to m v 64) j 0)) p.0 (omega arith)) (le_of_eq (ap f p.2))

    -- and where a value is tried, one of them gives it
    pub over_at : (c : ℕ) → Tried m v c → (d : ℕ) × Tried m v d × (f d ≡ least_over (tried m v) f)
    unfolding least_over tried
    over_at c t =
        let p = tried_entry 64 c t.0 t.1 in
        let l = p.1 in
        let q = least_to_at (length (tried_to m v 64) - 1) (λ j. f (get_or (tried_to m v 64) j 0)) in
        let s = q.1 in
        (get_or (tried_to m v 64) q.0 0, entry_tried 64 q.0 (omega arith), q.2)

    -- there is one such number
    pub over_is : (x d : ℕ) → Tried m v d → f d ≡ x → ((c : ℕ) → Tried m v c → x ≤ f c) → x ≡ least_over (tried m v) f
    over_is x d t e bound =
        let p = over_at d t in
        le_antisymm (le_trans (bound p.0 p.1) (le_of_eq p.2)) (le_trans (over_le d t) (le_of_eq e))

-- ---- which values are tried

-- with a larger m no fewer
pub tried_more : (m n : ℕ) (v : List ℕ) (c : ℕ) → m ≤ n → Tried m v c → Tried n v c
tried_more m n v c l t = (t.0, let s = t.1 in omega arith)

-- no value comes before the smallest one whose penalty is least
pub none_before : (v : List ℕ) → count_before v (smallest v) ≡ 0
unfolding count_before count_below count_equal
none_before v =
    let least : (d : ℕ) → d < 64 → ◌≡◌ {A = ℕ} (cond (ltb (get_or v d 0) (get_or v (smallest v) 0)) 1 0) 0
    = λ d l. ap (λ (t : Bool). cond t 1 0) (le-ltb (get_or v d 0) (get_or v (smallest v) 0) (smallest_least v d l)) in
    let first : (d : ℕ) → d < smallest v → ◌≡◌ {A = ℕ} (cond (eqb (get_or v d 0) (get_or v (smallest v) 0)) 1 0) 0
    = λ d l. ap (λ (t : Bool). cond t 1 0) (ne_eqb (get_or v d 0) (get_or v (smallest v) 0) (λ e. let s = smallest_first v d l in absurd (omega arith))) in
    let a = sum_none 64 (λ d. cond (ltb (get_or v d 0) (get_or v (smallest v) 0)) 1 0) least in
    let b = sum_none (smallest v) (λ d. cond (eqb (get_or v d 0) (get_or v (smallest v) 0)) 1 0) first in
    omega arith

-- so it is always tried
pub smallest_tried : (m : ℕ) (v : List ℕ) → 1 ≤ m → Tried m v (smallest v)
smallest_tried m v l = (smallest_lt v, let e = none_before v in omega arith)

-- a number is below another, or the same, or neither: of the two counts one at most is 1
one_of : (a b : ℕ) → cond (ltb a b) 1 0 + cond (eqb a b) 1 0 ≤ 1
one_of a b = go (dec_lt a b)
  where
    at_most : (t : Bool) → ◌≤◌ (cond t 1 0) 1
    at_most true = le_refl 1
    at_most false = zero-le

    go : Dec (a < b) → cond (ltb a b) 1 0 + cond (eqb a b) 1 0 ≤ 1
    go (yes l) =
        let e : ◌≡◌ {A = ℕ} (cond (eqb a b) 1 0) 0 = ap (λ (t : Bool). cond t 1 0) (ne_eqb a b (λ e. absurd (omega arith))) in
        let m = at_most (ltb a b) in
        omega arith
    go (no l) =
        let e : ◌≡◌ {A = ℕ} (cond (ltb a b) 1 0) 0 = ap (λ (t : Bool). cond t 1 0) (le-ltb a b (omega arith)) in
        let m = at_most (eqb a b) in
        omega arith

-- fewer than 64 come before a value: of the smaller values each counts once at most, of the larger ones too, and it is
-- not below itself
pub before_lt : (v : List ℕ) (c : ℕ) → c < 64 → count_before v c < 64
unfolding count_before count_below count_equal
before_lt v c l =
    let below : ℕ → ℕ = λ d. cond (ltb (get_or v d 0) (get_or v c 0)) 1 0 in
    let equal : ℕ → ℕ = λ d. cond (eqb (get_or v d 0) (get_or v c 0)) 1 0 in
    let rest : ℕ → ℕ = λ i. below (c + i) in
    let one : (d : ℕ) → below d + equal d ≤ 1 = λ d. one_of (get_or v d 0) (get_or v c 0) in
    let n = 63 - c in
    let parts : sum_to 64 below ≡ sum_to c below + sum_to (suc n) rest
    = ap (λ (k : ℕ). sum_to k below) (let e : 64 ≡ c + suc n = omega arith in e) ∙ sum_split c (suc n) below in
    let first = sum_first n rest in
    let none : rest 0 ≡ 0
    = ap below (add-zero c) ∙ ap (λ (t : Bool). cond t 1 0) (le-ltb (get_or v c 0) (get_or v c 0) (le_refl (get_or v c 0))) in
    let larger = sum_le 1 n (λ i. rest (suc i)) (λ i s. let o = one (c + suc i) in omega arith) in
    let smaller = sum_le 1 c (λ d. below d + equal d) (λ d s. one d) in
    let both = sum_add c below equal in
    omega arith

-- so with 64 all are tried
pub all_tried : (v : List ℕ) (c : ℕ) → c < 64 → Tried 64 v c
all_tried v c l = (l, before_lt v c l)
