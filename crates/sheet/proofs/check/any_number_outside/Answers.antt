-- A number outside, one that is not, and none.
use Rattle.std.proofs.Common.{◌≡◌, true, false, sym, ap, ◌∙◌, arith, rules}
use borrow.Author.Count.{below_more}
use Rattle.refusal.specs.Tests.{outside}
use Rattle.sheet.proofs.SheetLaws.{number_outside, numbers_inside}
use Rattle.sheet.proofs.check.any_number_outside.Goals as goal

pub returns-then-not-contains : goal.returns-then-not-contains
unfolding outside
returns-then-not-contains c =
    let number = c.number_on.ensures in
    let tested : outside c.args.low c.args.high c.number_on.result ≡ true = search rules in
    sym (number_outside c.args.low c.args.high c.args.first c.args.count c.args.bytes.now c.loop-i.i (omega arith) (ap (outside c.args.low c.args.high) (sym number) ∙ tested))

pub loop-i-preserved : goal.loop-i-preserved
unfolding outside
loop-i-preserved c =
    let tested : outside c.args.low c.args.high c.number_on.result ≡ false = search rules in
    below_more _ c.loop-i.i c.loop-i.invariant (ap (outside c.args.low c.args.high) (sym c.number_on.ensures) ∙ tested)

pub returns : goal.returns
returns c = sym (numbers_inside c.args.low c.args.high c.args.first c.args.count c.args.bytes.now (λ j l. c.loop-i.invariant j (omega arith)))
