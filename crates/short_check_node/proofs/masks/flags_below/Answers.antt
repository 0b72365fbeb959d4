-- `flags_below`: all 64 entries are filled.
use Rattle.std.proofs.Common.{arith}
use Rattle.vector.proofs.Laws.{fill_all}
use Rattle.short_check_node.proofs.masks.flags_below.Goals as goal

pub returns : goal.returns
returns c = fill_all c.loop-c.invariant (omega arith)
