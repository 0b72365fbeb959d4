-- `column_steps`: the values have made the first 4 j steps of the column.
use Rattle.reorder.specs.Order.{Mapped}
use Rattle.check_node.specs.Steps.{column_to}
use Rattle.check_node.proofs.steps.column_steps.Given as goal

abbrev pub invariant-loop-j : goal.invariant-loop-j
invariant-loop-j l = Mapped (column_to l.copies l.d l.column l.j) 0 64 l.fn.held l.held
