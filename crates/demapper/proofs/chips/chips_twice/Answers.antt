-- One chip more, and all of them.
use Rattle.std.proofs.Common.{refl}
use native.Mathlib.Omega.{arith}
use Rattle.vector.proofs.Laws.{fill_more, fill_all}
use Rattle.ccsk.specs.Chips.{chip}
use Rattle.demapper.specs.Parts.{chips_twice}
use Rattle.demapper.proofs.chips.chips_twice.Goals as goal

pub loop-j-preserved : goal.loop-j-preserved
unfolding chip
loop-j-preserved c = fill_more c.loop-j.invariant (omega arith) refl

pub returns : goal.returns
unfolding chips_twice
returns c = fill_all c.loop-j.invariant c.loop-j-test.false
