-- `place_llrs`: in each of its cases the part is the one that the definition names (PartLaws).
use Rattle.std.proofs.Common.{rules}
use Rattle.vector.proofs.PartLaws.{ragged_handed, beyond_handed, part_handed}
use Rattle.vector.proofs.part.place_llrs.Goals as goal

pub returns-then-llrs-ne0 : goal.returns-then-llrs-ne0
returns-then-llrs-ne0 c = search (rules, ragged_handed)

pub returns-then-llrs-place : goal.returns-then-llrs-place
returns-then-llrs-place c = search (rules, beyond_handed)

pub returns : goal.returns
returns c = search (rules, part_handed)
