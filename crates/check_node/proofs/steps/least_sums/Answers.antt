-- `least_sums`: eight steps more in a turn; after all of them what is held, plus the last penalty, is the least sum.
use Rattle.std.proofs.Common.{◌≡◌, ◌+◌, ◌*◌, ◌<◌, ◌∙◌, sym, subst, arith, rules}
use Rattle.vector.proofs.Laws.{tabulate_ext}
use Rattle.check_node.specs.Steps.{differences, summed}
use Rattle.check_node.proofs.LeastLaws.{Holds, at_step, none_hold, column_holds, all_hold, sums_are_node}
use Rattle.check_node.proofs.steps.least_sums.Goals as goal

pub loop-column-init : goal.loop-column-init
loop-column-init c = λ b l. none_hold c.args.theta.now c.args.ordered.now b c.requires.0 c.requires.1 l

pub loop-column-preserved : goal.loop-column-preserved
loop-column-preserved c = λ b s.
    let theta = c.args.theta.now in
    let ordered = c.args.ordered.now in
    let column = c.loop-column.column in
    let l : column < 8 = omega arith in
    let n : 8 * column + 4 * 2 ≡ 8 * (column + 1) = omega arith in
    let d : c.differences-d.result ≡ differences ordered = search rules in
    subst (Holds theta ordered b (8 * (column + 1))) (sym (c.column_steps.ensures.done b (omega arith) s))
    (at_step n (column_holds theta b c.copies-copied.ensures d c.requires.0 c.requires.1 s column _ l (c.loop-column.invariant b s) 2 (omega arith)))

pub returns : goal.returns
unfolding summed
returns c =
    let n : 8 * c.loop-column.column ≡ 64 = omega arith in
    c.summed.ensures
    ∙ tabulate_ext 64 _ _ (λ b l. all_hold (c.loop-column.invariant b l) n)
    ∙ sums_are_node c.args.theta.now c.args.ordered.now
