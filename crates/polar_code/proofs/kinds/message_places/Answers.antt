-- `message_places`: a byte adds 1 where its place is a message place, and else 0.
use Rattle.std.proofs.Common.{rules, ◌≡◌, ℕ, ◌+◌, ◌<◌, ◌≤◌, ◌==◌, cond, ap, sym, refl, arith, length, drop, get_or}
use lib.ListN.{drop_of_length-le}
use native.Mathlib.Numerals.{add-one}
use Rattle.polar_code.specs.Code.{kind_of, message_count, message_places}
use Rattle.polar_code.specs.declared.kinds.Kind.{Kind}
use Rattle.polar_code.specs.declared.kinds.Kind.TheVariants.{Message as message, Frozen as frozen}
use Rattle.polar_code.proofs.MapLaws.{places_from}
use Rattle.polar_code.proofs.kinds.message_places.Goals as goal

-- what a kind counts for, by the test on it
counted : (k : Kind) → message_count k ≡ cond (message_count k == 1) 1 0
unfolding message_count
counted message = refl
counted (frozen s) = refl

pub loop-byte-preserved : goal.loop-byte-preserved
loop-byte-preserved c =
    let map = c.args.map.now in
    let i = c.loop-byte.byte-index in
    let l : i < length map = omega arith in
    let p = places_from map i l (sym c.from.ensures) in
    let q = ap (λ (x : ℕ). message_places (drop x map)) (add-one i) in
    let one : c.from-count.result ≡ cond (message_count c.from.result == 1) 1 0 = search rules in
    let same = counted c.from.result in
    let few : cond (message_count c.from.result == 1) 1 0 ≤ 1 = search rules in
    (omega arith, omega arith)

pub returns : goal.returns
unfolding message_places
returns c =
    let e = ap message_places (drop_of_length-le c.args.map.now c.loop-byte-test.false) in
    omega arith
