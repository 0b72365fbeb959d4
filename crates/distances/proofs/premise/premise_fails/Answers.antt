-- No product wraps: they are at most 127 × 255, and that times 64.
use Rattle.std.proofs.Common.{◌*◌, ◌≤◌}
use native.Mathlib.Nat.{mul-le-mul}
use native.Mathlib.Omega.{arith}
use Rattle.distances.proofs.DistanceLaws.{least_few}
use Rattle.distances.proofs.premise.premise_fails.Goals as goal

pub overflow_mul-result-2 : goal.overflow_mul-result-2
overflow_mul-result-2 c =
    let few : c.args.amplitude ≤ 127 = (let t = c.if-not-contains.false in grind (arith, c.contains.ensures.cases, c.if-not-contains.ensures.cases)) in
    let top = c.requires.most in
    let least = least_few c.args.base in
    let is = c.least_apart.ensures in
    let small : c.args.amplitude * c.args.gain.top ≤ 127 * 255 = mul-le-mul {n₁ = c.args.amplitude} {m₁ = c.args.gain.top} {n₂ = 127} {m₂ = 255} few top in
    let product = mul-le-mul {n₁ = c.args.amplitude * c.args.gain.top} {m₁ = c.least_apart.result} {n₂ = 127 * 255} {m₂ = 64} small (omega arith) in
    omega arith
