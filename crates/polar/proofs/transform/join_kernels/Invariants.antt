-- The kernels before t have been at their two places, the others not.
use Rattle.gf64.specs.ProductTable.{entry_of}
use Rattle.polar.proofs.JoinLaws.{JoinedTo}
use Rattle.polar.proofs.transform.join_kernels.Given as goal

abbrev pub invariant-loop-t : goal.invariant-loop-t
invariant-loop-t l = JoinedTo (entry_of l.table) l.half l.start l.coefs l.initial.word l.word l.t
