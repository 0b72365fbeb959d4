-- The chips before j are filled.
use Rattle.std.proofs.Common.{◌%◌}
use Rattle.vector.proofs.Laws.{Filled}
use Rattle.ccsk.specs.Chips.{chip}
use Rattle.demapper.proofs.chips.chips_twice.Given as goal

abbrev pub invariant-loop-j : goal.invariant-loop-j
invariant-loop-j l = Filled 128 (λ i. chip l.base (i % 64)) l.chips l.j
