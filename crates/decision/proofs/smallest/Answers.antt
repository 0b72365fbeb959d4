-- `smallest`: the search finds the first at which the least is, or it is the last.
use Rattle.std.proofs.Common.{arith, rules, ◌≡◌, ◌∙◌, get_or}
use Rattle.std.proofs.lemmas.Iterator.{first_from_Range}
use Rattle.decision.proofs.Laws.{smallest_search}
use Rattle.decision.proofs.smallest.Goals as goal

pub returns : goal.returns
returns c =
    let v = c.args.v.now in
    let m = c.least_of-least.result in
    c.unwrap_or.ensures
    ∙ smallest_search v _ _ (omega arith) c.least_of-least.ensures
    (first_from_Range _ _ _ _ (λ b. get_or v b 0 ≡ m) (λ b. get_or v b 0 ≡ m → ⊥) c.find.ensures.ran (λ x q e. search rules) (λ x q e. search rules))
