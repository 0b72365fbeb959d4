-- `summed`: the closure adds to an entry, and changes nothing.
use Rattle.std.proofs.Common.{rules}
use Rattle.vector.proofs.Arrays.{made_of}
use Rattle.check_node.specs.Steps.{summed}
use Rattle.check_node.proofs.steps.summed.Goals as goal

pub returns : goal.returns
unfolding summed
returns c = made_of _ _ _ _ 0 64 c.from_fn.ensures.items (λ j y q l e. search rules)
