-- `least_other` meets its contract: what is taken is the least of those held for the other values, by their index.
use Rattle.std.proofs.Common.{ℕ, Option, rules, sym, ap, refl, ◌∙◌}
use Rattle.std.specs.Option.{unwrap_or}
use Rattle.std.proofs.lemmas.Iterator.Adapters.{option_map_id}
use Rattle.std.proofs.lemmas.Iterator.{YieldsList-from_range, YieldsList-from_map}
use Rattle.std.proofs.lemmas.Iterator.Consumers.{min_from_yields_List}
use Rattle.listing.specs.Listing.{held_for, other_value, least_other}
use Rattle.listing.proofs.LeastLaws.{least_reduced}
use Rattle.listing.proofs.held.least_other.Goals as goal

pub returns : goal.returns
unfolding least_other
returns c =
    let held : ℕ → ℕ = λ j. held_for (other_value c.args.symbol j) c.args.llrs.now in
    let least = sym (option_map_id _) ∙ min_from_yields_List _ _ c.min.ensures.ran
    (YieldsList-from_map _ held (YieldsList-from_range 0 63 63 c.map.ensures.source refl) c.map.ensures.closure (λ x r q k. search rules))
    ∙ least_reduced 62 held in
    c.unwrap_or.ensures ∙ ap (λ (r : Option ℕ). unwrap_or r 0) least
