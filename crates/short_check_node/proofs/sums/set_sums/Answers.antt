-- `set_sums`: the sums of the smallest value that is left are made in a turn.
use Rattle.std.proofs.Common.{refl, arith, rules}
use Rattle.vector.proofs.All.{all}
use Rattle.short_check_node.proofs.SumLaws.{none_yet, all_summed, one_more}
use Rattle.short_check_node.proofs.sums.set_sums.Goals as goal

pub loop-rest-init : goal.loop-rest-init
unfolding all
loop-rest-init c = (refl, λ f theta h e k st sx. none_yet h e tt)

pub loop-rest-preserved : goal.loop-rest-preserved
loop-rest-preserved c = (
  c.value_sums.ensures.long,
  λ f theta h e k st sx. one_more k st sx (c.loop-rest.invariant.1 f theta h e k st sx) (omega arith) c.value_sums.ensures,
)

pub returns : goal.returns
returns c = record { least = λ f theta h e k st sx. all_summed c.loop-rest.invariant.0 (search rules) (c.loop-rest.invariant.1 f theta h e k st sx) }
