-- `copies`: the copies before k are stored.
use Rattle.check_node.specs.Steps.{AreCopies}
use Rattle.check_node.proofs.copying.copies.Given as goal

abbrev pub invariant-loop-k : goal.invariant-loop-k
invariant-loop-k l = AreCopies l.k l.v l.w
