-- `row_from`: the closure reads an entry of the row, and changes nothing.
use Rattle.std.proofs.Common.{arith, rules, ◌<◌}
use Rattle.vector.proofs.Arrays.{callable_each, made_of}
use Rattle.gf64.specs.Field.{low_six}
use Rattle.gf64.specs.ProductTable.{row_of, symbols_of}
use Rattle.gf64.proofs.product_table.row_from.Goals as goal

pub from_fn-requires : goal.from_fn-requires
from_fn-requires c = (omega arith, callable_each _ _ (λ x q e. search rules) _ _ (λ x l. let within : x < 64 = l in search rules))

pub returns : goal.returns
unfolding symbols_of row_of low_six
returns c = made_of _ _ _ _ 0 64 c.from_fn.ensures.items (λ j y q l e. search rules)
