-- `worked_out_product`: it is the definition of the product, bit by bit from the highest one on.
use Rattle.std.proofs.Common.{◌%◌, arith, refl, rules}
use Rattle.gf64.specs.Field.{product_bits}
use Rattle.gf64.proofs.ProductLaws.{bits_next, bits_all}
use Rattle.gf64.proofs.worked_out.worked_out_product.Goals as goal

pub loop-i-init : goal.loop-i-init
unfolding product_bits
loop-i-init c = (refl, omega arith)

pub loop-i-preserved : goal.loop-i-preserved
loop-i-preserved c = (bits_next (c.args.x % 64) (c.args.y % 64) c.loop-i.i c.loop-i.above _ (search rules) (search rules) (search rules), search rules)

pub returns : goal.returns
returns c = record { equal = search (rules, bits_all); symbol = search rules }
