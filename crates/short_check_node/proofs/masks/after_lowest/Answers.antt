-- `after_lowest`: the smallest value that is left is taken in a turn.
use Rattle.std.proofs.Common.{◌≡◌, ℕ, subst, arith, rules}
use Rattle.short_check_node.specs.Masks.{Cut}
use Rattle.short_check_node.proofs.CutLaws.{cut_none, cut_more_left, cut_more}
use Rattle.short_check_node.proofs.masks.after_lowest.Goals as goal

pub loop-init : goal.loop-init
loop-init c = λ f h e l. let none : Cut f 0 c.args.mask = cut_none f c.args.mask e in search rules

pub overflow_sub-rest : goal.overflow_sub-rest
overflow_sub-rest c =
    let s = c.requires in
    let l = s.enough in
    cut_more_left s.flags (c.loop.invariant s.set s.flags s.is_mask l) (omega arith)

pub loop-preserved : goal.loop-preserved
loop-preserved c = λ f h e l. cut_more h (c.loop.invariant f h e l) (omega arith)

pub returns : goal.returns
returns c =
    let all : c.loop.counter ≡ c.args.n = omega arith in
    record { cut = λ f h q l. subst (λ (k : ℕ). Cut f k c.loop.rest) all (c.loop.invariant f h q l) }
