-- The ones of the exclusive or are the chips that differ (DistanceLaws).
use Rattle.std.proofs.Common.{ℕ, ap, ◌∙◌}
use lib.Bits.{bit_xor}
use lib.Count.{ones}
use Rattle.distances.proofs.DistanceLaws.{ones_distance}
use Rattle.distances.proofs.distance.chips_apart.Goals as goal

pub returns : goal.returns
returns c = ap (λ (x : ℕ). ones (bit_xor c.args.base x)) c.turned.ensures ∙ ones_distance c.args.base c.args.s c.ranges.base.fits
