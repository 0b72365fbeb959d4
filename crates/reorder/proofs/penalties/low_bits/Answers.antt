-- `low_bits`: the closure reads an entry, and changes nothing.
use Rattle.std.proofs.Common.{arith, rules, ◌<◌}
use Rattle.vector.proofs.Arrays.{callable_each, made_of}
use Rattle.reorder.specs.Order.{low_bits}
use Rattle.reorder.proofs.penalties.low_bits.Goals as goal

pub from_fn-requires : goal.from_fn-requires
from_fn-requires c = (omega arith, callable_each _ _ (λ x q e. search rules) _ _ (λ x l. let within : x < 64 = l in search rules))

pub returns : goal.returns
unfolding low_bits
returns c = made_of _ _ _ _ 0 64 c.from_fn.ensures.items (λ j y q l e. search rules)
