-- A rotation to the right is what `turned` is: two shifts, joined (ChipLaws).
use Rattle.std.proofs.Common.{◌≡◌, ◌%◌, ◌∙◌}
use native.Mathlib.Omega.{arith}
use Rattle.ccsk.proofs.ChipLaws.{shifted}
use Rattle.ccsk.proofs.chips.turned.Goals as goal

pub returns : goal.returns
returns c =
    let same : c.args.s % 64 % 64 ≡ c.args.s % 64 = omega arith in
    let turns = shifted c.args.base c.args.s c.ranges.base.fits in
    c.rotate_right.ensures ∙ (rw same turns)
