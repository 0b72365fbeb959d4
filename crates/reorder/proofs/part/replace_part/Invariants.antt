-- `replace_part`: the first i of the entries are replaced.
use Rattle.std.proofs.Common.{◌+◌, ◌-◌, ◌%◌, get_or}
use Rattle.gf64.specs.Field.{◌⊕◌}
use Rattle.reorder.specs.Order.{Mapped}
use Rattle.reorder.proofs.part.replace_part.Given as goal

abbrev pub invariant-loop-i : goal.invariant-loop-i
invariant-loop-i l = Mapped (λ c _. get_or l.v ((l.from + (c - l.first)) ⊕ (l.fn.run % 64)) 0) l.first (l.first + l.i) l.fn.to l.to
