-- `products`: each of the 4,096 numbers that the code has is the product of its row and its column. That is the one
-- computed check of the table; ProductTableLaws turns it into the rule at each entry.
use Rattle.std.proofs.Common.{refl}
use Rattle.vector.specs.Vector.{tabulate}
use Rattle.gf64.specs.Field.{◌⊕◌, ◌⊙◌, times_a, product_bits, low_six}
use Rattle.gf64.specs.ProductTable.{product_row, product_table}
use Rattle.gf64.proofs.product_table.products.Goals as goal

pub returns : goal.returns
unfolding product_table product_row tabulate ◌⊙◌ product_bits times_a low_six ◌⊕◌
returns c = refl
