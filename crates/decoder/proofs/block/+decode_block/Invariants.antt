-- `decode_block` ends: the number of layers falls.
use Rattle.decoder.proofs.block.+decode_block.Given as goal

abbrev pub decreases-decode_block : goal.decreases-decode_block
decreases-decode_block l = l.block.layers
