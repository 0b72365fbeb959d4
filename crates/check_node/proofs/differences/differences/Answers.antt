-- `differences`: the closure takes an entry's difference, and changes nothing.
use Rattle.std.proofs.Common.{◌≡◌, ℕ, ◌+◌, ◌-◌, ◌%◌, ◌<◌, get_or, ap, arith, rules}
use Rattle.vector.proofs.Arrays.{made_of}
use Rattle.check_node.specs.Steps.{penalties_before, differences}
use Rattle.check_node.proofs.differences.differences.Goals as goal

pub returns : goal.returns
unfolding differences
returns c =
    let x = c.args.ordered.now in
    let same : c.penalties_before-before.result ≡ penalties_before x = search rules in
    let less : (k : ℕ) → k < 64 → (get_or c.penalties_before-before.result k 0 + (65536 - get_or x k 0)) % 65536 ≡ (get_or (penalties_before x) k 0 + 65536 - get_or x k 0) % 65536 =
    (λ k l. let f = c.fits-ordered k in let e = ap (λ v. get_or v k 0) same in omega arith) in
    made_of _ _ _ _ 0 64 c.from_fn.ensures.items (λ j y q l e. search rules)
