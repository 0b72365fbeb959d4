-- `read_full` ends: what is left of the buffer gets shorter.
use Rattle.std.proofs.Common.{◌≤◌, length}
use Rattle.files.proofs.read.read_full.Given as goal

abbrev pub invariant-loop-file : goal.invariant-loop-file
invariant-loop-file g l = length l.rest ≤ l.size

abbrev pub decreases-loop-file : goal.decreases-loop-file
decreases-loop-file g l = length l.rest
