-- `threshold`: half of what is left is taken off in a turn, below or above.
use Rattle.std.proofs.Common.{◌≡◌, ℕ, ◌+◌, ◌-◌, ◌/◌, ◌≤◌, sym, subst, arith}
use Rattle.scms.specs.Tried.{count_below}
use Rattle.short_check_node.proofs.SetLaws.{count_none, count_all, count_mono}
use Rattle.short_check_node.proofs.counts.threshold.Goals as goal
use Rattle.short_check_node.proofs.counts.threshold.Goals.{then-count_below-m, else-count_below-m}

pub loop-n-init : goal.loop-n-init
loop-n-init c =
    let v = c.args.v.now in
    let top = c.largest_of-n.result in
    let none = count_none v in
    let all = count_all v top c.largest_of-n.ensures.0 in
    let e : top + 1 ≡ 0 + (top + 1) = omega arith in
    (omega arith, omega arith, omega arith, subst (λ (k : ℕ). c.args.m ≤ count_below v k) e (omega arith))

pub loop-n-preserved : goal.loop-n-preserved
loop-n-preserved c =
    let v = c.args.v.now in
    let m = c.args.m in
    let t = c.loop-n.t in
    let n = c.loop-n.n in
    let inv = c.loop-n.invariant in
    let counted = c.count_below.ensures in
    elim c.if-count_below-m.branch [
      | then-count_below-m w ↦
          let l = w.if-count_below-m.true in
          let same : t + n ≡ c.if-count_below-m.t + (n - n / 2) = (let e = w.t-is in omega arith) in (
            (let e = w.t-is in omega arith),
            omega arith,
            subst (λ (k : ℕ). count_below v k ≤ m) (sym w.t-is) (omega arith),
            subst (λ (k : ℕ). m ≤ count_below v k) same inv.3,
          )
      | else-count_below-m w ↦
          let l = w.if-count_below-m.false in
          let e = w.t-is in
          let more = count_mono v (t + n / 2) (c.if-count_below-m.t + (n - n / 2)) (omega arith) in
          (omega arith, omega arith, subst (λ (k : ℕ). count_below v k ≤ m) (sym w.t-is) inv.2, omega arith)
    ]
