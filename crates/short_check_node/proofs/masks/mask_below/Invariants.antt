-- `mask_below`: the bits of the blocks before this one are there.
use Rattle.std.proofs.Common.{◌≡◌, ◌*◌, ◌<◌, ◌^◌}
use Rattle.short_check_node.specs.Masks.{below_at, mask_of}
use Rattle.short_check_node.proofs.masks.mask_below.Given as goal

abbrev pub invariant-loop-block : goal.invariant-loop-block
invariant-loop-block l = (l.mask ≡ mask_of (8 * l.block) (below_at l.v l.t)) × (l.mask < 2 ^ (8 * l.block))
