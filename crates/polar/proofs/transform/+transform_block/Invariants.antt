-- `transform_block` ends: the number of layers falls.
use Rattle.polar.proofs.transform.+transform_block.Given as goal

abbrev pub decreases-transform_block : goal.decreases-transform_block
decreases-transform_block l = l.layers
