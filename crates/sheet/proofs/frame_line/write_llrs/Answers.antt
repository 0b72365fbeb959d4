-- One number more, of a line that has 257 bytes, and all of them.
use Rattle.std.proofs.Common.{ap, ◌∙◌}
use native.Mathlib.Omega.{arith}
use native.Mathlib.Nat.{le_of_eq}
use lib.Seq.{take_all}
use Rattle.vector.proofs.Laws.{fill_more, fill_all}
use Rattle.columns.specs.Reading.{spelled, numbers}
use Rattle.columns.proofs.LineLaws.{line_long, line_small}
use Rattle.sheet.proofs.frame_line.write_llrs.Goals as goal

pub part-requires : goal.part-requires
part-requires c = let long = line_long 4 64 c.args.line.now c.requires.of_line_form in omega arith

pub overflow_cast-llrs : goal.overflow_cast-llrs
overflow_cast-llrs c =
    let small = line_small 4 64 c.args.line.now c.requires.of_line_form c.loop-i.i (omega arith) in
    let number = c.spelled_number.ensures ∙ ap spelled (take_all 4 _ (le_of_eq c.part.ensures.long) ∙ c.part.ensures.part) in
    omega arith

pub loop-i-preserved : goal.loop-i-preserved
loop-i-preserved c =
    fill_more c.loop-i.invariant (omega arith)
    (c.spelled_number.ensures ∙ ap spelled (take_all 4 _ (le_of_eq c.part.ensures.long) ∙ c.part.ensures.part))

pub returns : goal.returns
unfolding numbers
returns c = fill_all c.loop-i.invariant c.loop-i-test.false
