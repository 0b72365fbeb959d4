-- `drop_rest` ends: what is left to drop gets less.
use Rattle.recorded_calls.proofs.input.Input.drop_rest.Given as goal

abbrev pub decreases-loop-got : goal.decreases-loop-got
decreases-loop-got g l = l.left
