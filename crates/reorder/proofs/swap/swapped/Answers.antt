-- `swapped`: every block is written.
use Rattle.std.proofs.Common.{arith}
use Rattle.reorder.proofs.SwapLaws.{swapped_by}
use Rattle.reorder.proofs.swap.swapped.Goals as goal

pub returns : goal.returns
returns c = swapped_by c.args.v.now _ _ _ _ c.loop-block.invariant (omega arith)
