-- `gathered`: all 64 entries are filled.
use Rattle.std.proofs.Common.{arith}
use Rattle.vector.proofs.Laws.{fill_all}
use Rattle.phi_order.proofs.gathered.Goals as goal

pub returns : goal.returns
returns c = fill_all c.loop-q.invariant (omega arith)
