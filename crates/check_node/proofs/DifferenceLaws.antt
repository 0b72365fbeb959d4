-- The laws of the order of the steps of a check node, and of the differences of penalties in that order.
use Rattle.std.proofs.Common.{◌≡◌, ℕ, ◌+◌, ◌-◌, ◌%◌, ◌<◌, ◌≤◌, List, get_or, sym, ap, ◌∙◌, subst, arith}
use native.Mathlib.Decide.{dec_lt}
use Rattle.gf64.specs.Field.{◌⊕◌}
use Rattle.vector.proofs.Laws.{get_d_tabulate, tabulate_by}
use Rattle.reorder.specs.Order.{Small, Mapped}
use Rattle.reorder.proofs.SwapLaws.{source_plain}
use Rattle.check_node.specs.Steps.{by_columns, penalties_before, differences}

-- the value of a step is a symbol
pub columns_lt : (k : ℕ) → k < 64 → by_columns k < 64
unfolding by_columns
columns_lt k h = omega arith

-- the order by columns undoes itself
pub columns_twice : (k : ℕ) → k < 64 → by_columns (by_columns k) ≡ k
unfolding by_columns
columns_twice k h = omega arith

-- the value before a value: for 1 to 7 the last one of the column before
first_before : (c : ℕ) → 1 ≤ c → c < 8 → by_columns (by_columns c - 1) ≡ 56 + (c - 1)
unfolding by_columns
first_before c l h = let e : by_columns (by_columns c - 1) ≡ 56 + c - 1 = omega arith in omega arith

-- from 8 on the one above it in its column
later_before : (c : ℕ) → 8 ≤ c → c < 64 → by_columns (by_columns c - 1) ≡ 0 + (c - 8)
unfolding by_columns
later_before c l h = omega arith

-- the penalties before, in two parts
pub before_all : {ordered first r : List ℕ} → Mapped (λ c _. get_or ordered ((56 + (c - 1)) ⊕ (0 % 64)) 0) 1 8 ordered first
    → Mapped (λ c _. get_or ordered ((0 + (c - 8)) ⊕ (0 % 64)) 0) 8 64 first r → r ≡ penalties_before ordered
unfolding penalties_before by_columns
before_all {ordered} {first} {r} f g = tabulate_by 0 64 _ r g.long (λ c l. go c l (dec_lt c 8) (dec_lt 0 c))
  where
    go : (c : ℕ) → c < 64 → Dec (c < 8) → Dec (0 < c) → get_or r c 0 ≡ get_or ordered (by_columns (by_columns c - 1)) 0
    go c l (no m) _ = g.done c (omega arith) l ∙ ap (λ (k : ℕ). get_or ordered k 0) (source_plain 0 (c - 8) ∙ sym (later_before c (omega arith) l))
    go c l (yes m) (yes p) = g.earlier c m ∙ f.done c p m ∙ ap (λ (k : ℕ). get_or ordered k 0) (source_plain 56 (c - 1) ∙ sym (first_before c p m))
    go c l (yes m) (no p) =
        let none : 0 ≡ c = omega arith in
        subst (λ (k : ℕ). get_or r k 0 ≡ get_or ordered (by_columns (by_columns k - 1)) 0) none (g.earlier 0 (omega arith) ∙ f.earlier 0 (omega arith))

-- the difference at a step leads back to the penalty of the step before, at the first step to its own
pub difference_at : (ordered : List ℕ) → Small ordered → (k : ℕ) → k < 64 → (get_or (differences ordered) (by_columns k) 0 + get_or ordered (by_columns k) 0) % 65536 ≡ get_or ordered (by_columns (k - 1)) 0
unfolding differences penalties_before
difference_at ordered s k l =
    let c = by_columns k in
    let lc = columns_lt k l in
    let e = get_d_tabulate 0 64 (λ i. (get_or (penalties_before ordered) i 0 + 65536 - get_or ordered i 0) % 65536) c lc in
    let f = get_d_tabulate 0 64 (λ i. get_or ordered (by_columns (by_columns i - 1)) 0) c lc ∙ ap (λ (i : ℕ). get_or ordered (by_columns (i - 1)) 0) (columns_twice k l) in
    let low = s.most c lc in
    let high = s.most (by_columns (k - 1)) (columns_lt (k - 1) (omega arith)) in
    omega arith
