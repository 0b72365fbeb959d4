-- `write_number`: what is left to write before column k, and what is written from it on, make up the number in columns.
use Rattle.std.proofs.Common.{◌≡◌, ◌++◌, length, drop}
use Rattle.columns.specs.Columns.{before, field}
use Rattle.columns.proofs.write.write_number.Given as goal

abbrev pub invariant-loop-k : goal.invariant-loop-k
invariant-loop-k l = before l.k l.left ++ drop l.k l.out ≡ field (length l.fn.out) l.v
