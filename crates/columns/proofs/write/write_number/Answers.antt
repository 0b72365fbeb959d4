-- `write_number` meets its contract: one column more is written.
use Rattle.std.proofs.Common.{◌∙◌, ℕ, arith}
use Rattle.std.proofs.Math.ListN.{length-set}
use Rattle.columns.proofs.WriteLaws.{more_columns}
use Rattle.columns.proofs.write.write_number.Goals as goal

pub loop-k-preserved : goal.loop-k-preserved
loop-k-preserved c =
    let at = c.loop-k in
    more_columns at.k at.left at.out c.column.result (omega arith) (omega (arith, length-set {A = ℕ})) c.column.ensures ∙ at.invariant
