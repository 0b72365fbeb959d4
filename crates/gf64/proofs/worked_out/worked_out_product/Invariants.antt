-- `worked_out_product`: what the highest i of the six bits gave.
use Rattle.std.proofs.Common.{◌≡◌, ◌-◌, ◌/◌, ◌^◌, ◌<◌}
use Rattle.gf64.specs.Field.{product_bits}
use Rattle.gf64.proofs.worked_out.worked_out_product.Given as goal

abbrev pub invariant-loop-i : goal.invariant-loop-i
invariant-loop-i l = (l.above ≡ product_bits l.i (l.x0 / 2 ^ (6 - l.i)) l.y0) × (l.above < 64)
