-- `subtract_least`: the closure reads an entry, of which none is less than the least, and changes nothing.
use Rattle.std.proofs.Common.{arith, rules, ℕ, ◌≤◌, ◌<◌, get_or}
use Rattle.vector.specs.Vector.{less_least}
use Rattle.vector.proofs.Laws.{least_le}
use Rattle.vector.proofs.Arrays.{callable_each, made_of}
use Rattle.vector.proofs.subtract_least.Goals as goal

pub from_fn-rest-requires : goal.from_fn-rest-requires
from_fn-rest-requires c = (
  omega arith,
  callable_each _ _ (λ x q e. search rules) _ _ (λ x l.
      let within : x < 64 = l in
      let bound : (b : ℕ) → b < 64 → c.least_of-taken.result ≤ get_or c.args.v.now b 0 = (λ b k. omega (arith, least_le c.args.v.now b k)) in
      search rules),
)

pub returns : goal.returns
unfolding less_least
returns c = (made_of _ _ _ _ 0 64 c.from_fn-rest.ensures.items (λ j y q l e. search rules), search rules)
