-- The smaller of the quotient and the cap.
use Rattle.std.proofs.Common.{ℕ, ◌*◌, ◌/◌, ◌∙◌, ap, ap₂, min}
use native.Mathlib.Omega.{arith}
use Rattle.vector.proofs.FrameLaws.{largest_is}
use Rattle.demapper.specs.Samples.{quantised}
use Rattle.demapper.proofs.samples.quantised.Goals as goal

pub returns : goal.returns
unfolding quantised
returns c =
    let few = c.requires.precision.most in
    let cap = c.largest-cap.ensures ∙ largest_is c.args.qc (omega arith) in
    c.min.ensures ∙ ap₂ min (c.rounded_down-scaled.ensures ∙ ap (λ (x : ℕ). x * c.args.gain.top / c.args.gain.bottom) c.from.ensures) (c.from-2.ensures ∙ cap)
