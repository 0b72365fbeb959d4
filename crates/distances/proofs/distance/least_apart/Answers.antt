-- The first shift, one more, and all.
use Rattle.std.proofs.Common.{◌≡◌, ℕ, ◌+◌, ◌-◌, ◌∙◌, ap}
use native.Mathlib.Omega.{arith}
use Rattle.vector.specs.Vector.{least_to}
use Rattle.vector.proofs.Laws.{least_next}
use Rattle.distances.specs.Distance.{shift_distance, least_distance}
use Rattle.distances.proofs.distance.least_apart.Goals as goal

pub loop-i-init : goal.loop-i-init
unfolding least_to
loop-i-init c = c.chips_apart-least.ensures

pub loop-i-preserved : goal.loop-i-preserved
loop-i-preserved c =
    let more = least_next c.loop-i.i c.loop-i.least (λ i. shift_distance c.args.base (i + 1)) c.loop-i.invariant in
    let distance = c.chips_apart.ensures in
    grind (arith, distance, c.min-least.ensures, more.0, more.1)

pub returns : goal.returns
unfolding least_distance
returns c =
    let all : c.loop-i.i - 1 ≡ 62 = omega arith in
    c.loop-i.invariant ∙ ap (λ (k : ℕ). least_to k (λ i. shift_distance c.args.base (i + 1))) all
