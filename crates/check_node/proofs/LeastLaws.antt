-- From the steps of a check node to its entries.
use Rattle.std.proofs.Common.{◌≡◌, ℕ, zero, suc, ◌+◌, ◌-◌, ◌*◌, ◌/◌, ◌%◌, ◌<◌, ◌≤◌, Bool, ◌&&◌, T, eqb, ltb, List, get_or, sym, refl, ap, ◌∙◌, subst, ap₂, le_of_suc-le-suc, arith, eqb→eq, ltb→lt}
use Rattle.vector.specs.Vector.{tabulate, least_to}
use Rattle.vector.proofs.Laws.{tabulate_ext, least_to_le, least_to_at}
use Rattle.gf64.specs.Field.{◌⊕◌}
use Rattle.gf64.proofs.SumLaws.{sum_lt, sum_zero}
use Rattle.vector.proofs.All.{and_left, and_right, all, all_at}
use Rattle.scms.specs.Nodes.{sum_at, check_from}
use Rattle.reorder.specs.Order.{Small}
use Rattle.check_node.specs.Steps.{by_columns, source_of, first_value, step, four_steps, steps_at, column_to, differences, least_sum, AreCopies}
use Rattle.check_node.proofs.CopyLaws.{copies_at}
use Rattle.check_node.proofs.DifferenceLaws.{columns_lt, columns_twice, difference_at}
use Rattle.check_node.proofs.StepLaws.{step_least}

-- where the copies are read for value b at step 4 q + j
abbrev source : (q j b : ℕ) → ℕ
source q j b = source_of q j (b / 8) + b % 8

-- the test of one of them: it is within the copies, and there stands the entry at b ⊕ c, c being the value of the step
source_ok : (q j b : ℕ) → Bool
source_ok q j b = ltb (source q j b) 512 && eqb ((source q j b % 64) ⊕ (source q j b / 64)) (b ⊕ by_columns (4 * q + j))

-- the tests of the 64 values at one step, and of four steps
step_ok : (q j : ℕ) → Bool
unfolding all source_ok
step_ok q j = all (source_ok q j) 64

four_ok : ℕ → Bool
unfolding all step_ok
four_ok q = all (step_ok q) 4

-- the one check over all steps and values
every_source : T (all four_ok 16)
unfolding all four_ok step_ok source_ok source_of by_columns ◌⊕◌
every_source = tt

-- what the check says of one
record Source (q j b : ℕ) : Type 0 where
  within : source q j b < 512
  entry : (source q j b % 64) ⊕ (source q j b / 64) ≡ b ⊕ by_columns (4 * q + j)

-- the check at one step and value
source_is_at : (q j b : ℕ) → q < 16 → j < 4 → b < 64 → Source q j b
unfolding four_ok step_ok source_ok
source_is_at q j b hq hj hb =
    let first = ltb (source q j b) 512 in
    let second = eqb ((source q j b % 64) ⊕ (source q j b / 64)) (b ⊕ by_columns (4 * q + j)) in
    let t = all_at (source_ok q j) 64 (all_at (step_ok q) 4 (all_at four_ok 16 every_source q hq) j hj) b hb in
    record {
      within = ltb→lt (source q j b) 512 (and_left first second t);
      entry = eqb→eq _ _ (and_right first second t);
    }

-- a least sum is at most 16,382
least_most : (theta ordered : List ℕ) (b p : ℕ) → Small theta → Small ordered → b < 64 → least_sum theta ordered b p ≤ 16382
unfolding by_columns
least_most theta ordered b p st sx l =
    let m = least_to_le p (λ k. sum_at theta ordered b (by_columns k)) 0 (omega arith) in
    let t = st.most (b ⊕ by_columns 0) (sum_lt b 0 l (omega arith)) in
    let s = sx.most 0 (omega arith) in
    omega arith

-- what is held for value b after k steps: the least sum so far less the penalty of the last step, in 16 bits; before the first step, as after it
pub record Holds (theta ordered : List ℕ) (b k held : ℕ) : Type 0 where
  pub least : (held + get_or ordered (by_columns (k - 1)) 0) % 65536 ≡ least_sum theta ordered b (k - 1)

-- the value of a step, from that of the first of its four
value_of : (q j : ℕ) → j < 4 → by_columns (4 * q + j) ≡ first_value q + 8 * j
unfolding by_columns
value_of q j l =
    let d : (4 * q + j) / 8 ≡ q / 2 = omega arith in
    omega arith

-- the same number of steps
pub at_step : {theta ordered : List ℕ} {b k n held : ℕ} → k ≡ n → Holds theta ordered b k held → Holds theta ordered b n held
at_step {theta} {ordered} {b} {k} {n} {held} e = subst (λ (m : ℕ). Holds theta ordered b m held) e

module _ {ordered w d : List ℕ} (theta : List ℕ) (b : ℕ) (h : AreCopies 8 theta w) (e : d ≡ differences ordered) (st : Small theta) (sx : Small ordered) (lb : b < 64) where
  -- one step more: i is the step's value, v what it is compared with
  step_holds : (k i v held : ℕ) → k < 64 → i ≡ by_columns k → v ≡ get_or theta (b ⊕ by_columns k) 0 → Holds theta ordered b k held → Holds theta ordered b (k + 1) (step held (get_or d i 0) v)
  step_holds k i v held l n f a =
      let c = by_columns k in
      let lc = columns_lt k l in
      let t = ap₂ (λ (xs : List ℕ) (j : ℕ). get_or xs j 0) e n in
      let same : k + 1 - 1 ≡ k = omega arith in
      let z : v ≤ 8191 = (let m = st.most (b ⊕ c) (sum_lt b c lb lc) in omega arith) in
      let made = step_least held (get_or ordered (by_columns (k - 1)) 0) (get_or d i 0) (get_or ordered c 0) v k (λ j. sum_at theta ordered b (by_columns j)) a.least
      (ap (λ (m : ℕ). (m + get_or ordered c 0) % 65536) t ∙ difference_at ordered sx k l) (least_most theta ordered b (k - 1) st sx lb) (sx.most c lc) z (ap (λ (m : ℕ). m + get_or ordered c 0) (sym f)) in
      record { least = ap (λ (m : ℕ). (step held (get_or d i 0) v + get_or ordered (by_columns m) 0) % 65536) same ∙ made ∙ ap (least_sum theta ordered b) (sym same) }

  -- what value b is compared with at step 4 q + j
  compared : (q j : ℕ) → q < 16 → j < 4 → get_or w (source q j b) 0 ≡ get_or theta (b ⊕ by_columns (4 * q + j)) 0
  compared q j lq l =
      let s = source_is_at q j b lq l lb in
      copies_at h (source q j b) s.within ∙ ap (λ (k : ℕ). get_or theta k 0) s.entry

  -- four steps more
  four_hold : (q held : ℕ) → q < 16 → Holds theta ordered b (4 * q) held → Holds theta ordered b (4 * q + 4) (steps_at w d q b held)
  unfolding steps_at four_steps
  four_hold q held l a0 =
      let value : (j i : ℕ) → j < 4 → i ≡ first_value q + 8 * j → i ≡ by_columns (4 * q + j) = λ j i m n. n ∙ sym (value_of q j m) in
      let a1 = step_holds (4 * q + 0) (first_value q) _ held (omega arith) (value 0 _ (omega arith) (omega arith)) (compared q 0 l (omega arith)) (at_step (omega arith) a0) in
      let a2 = step_holds (4 * q + 1) (first_value q + 8) _ _ (omega arith) (value 1 _ (omega arith) refl) (compared q 1 l (omega arith)) (at_step (omega arith) a1) in
      let a3 = step_holds (4 * q + 2) (first_value q + 16) _ _ (omega arith) (value 2 _ (omega arith) refl) (compared q 2 l (omega arith)) (at_step (omega arith) a2) in
      at_step (omega arith) (step_holds (4 * q + 3) (first_value q + 24) _ _ (omega arith) (value 3 _ (omega arith) refl) (compared q 3 l (omega arith)) (at_step (omega arith) a3))

  -- the steps of a column, the first 4 j of them
  pub column_holds : (column held : ℕ) → column < 8 → Holds theta ordered b (8 * column) held → (j : ℕ) → j ≤ 2 → Holds theta ordered b (8 * column + 4 * j) (column_to w d column j b held)
  unfolding column_to
  column_holds column held l a zero m = at_step (omega arith) a
  column_holds column held l a (suc j) m =
      at_step (omega arith) (four_hold (2 * column + j) (column_to w d column j b held) (omega arith) (at_step (omega arith) (column_holds column held l a j (omega arith))))

-- before the first step
pub none_hold : (theta ordered : List ℕ) (b : ℕ) → Small theta → Small ordered → b < 64 → Holds theta ordered b 0 (get_or theta b 0)
unfolding by_columns least_to
none_hold theta ordered b st sx l =
    let s = ap (λ (k : ℕ). get_or theta k 0) (sum_zero b) in
    let t = st.most b l in
    let u = sx.most 0 (omega arith) in
    record { least = omega arith }

-- after the last step what is held, plus the last penalty, is the least sum
pub all_hold : {theta ordered : List ℕ} {b k held : ℕ} → Holds theta ordered b k held → k ≡ 64 → (held + get_or ordered 63 0) % 65536 ≡ least_sum theta ordered b 63
unfolding by_columns
all_hold {theta} {ordered} {b} {k} {held} h e = (at_step e h).least

-- the least is the same in the order of columns
least_by_columns : (f : ℕ → ℕ) → least_to 63 (λ k. f (by_columns k)) ≡ least_to 63 f
least_by_columns f =
    let p = least_to_at 63 f in
    let q = least_to_at 63 (λ k. f (by_columns k)) in
    let lp : p.0 < 64 = (let l = p.1 in omega arith) in
    let lq : q.0 < 64 = (let l = q.1 in omega arith) in
    let back = ap f (columns_twice p.0 lp) in
    let up = least_to_le 63 (λ k. f (by_columns k)) (by_columns p.0) (le_of_suc-le-suc (columns_lt p.0 lp)) in
    let down = least_to_le 63 f (by_columns q.0) (le_of_suc-le-suc (columns_lt q.0 lq)) in
    let e = p.2 in
    let s = q.2 in
    omega arith

-- the least sums over all steps are the entries of the check node
pub sums_are_node : (theta ordered : List ℕ) → tabulate 64 (λ b. least_sum theta ordered b 63) ≡ check_from theta ordered
unfolding check_from
sums_are_node theta ordered = tabulate_ext 64 _ _ (λ b l. least_by_columns (sum_at theta ordered b))
