-- The bytes are compared with what is written for the number that they spell.
use Rattle.std.proofs.Common.{ap, ◌∙◌}
use native.Mathlib.Nat.{le_of_eq}
use lib.Seq.{take_all}
use Rattle.columns.specs.Columns.{field}
use Rattle.columns.specs.Reading.{spelled, same, is_field}
use Rattle.sheet.proofs.number.is_number.Goals as goal

pub returns : goal.returns
unfolding is_field
returns c =
    let text = c.args.text.now in
    c.is_same.ensures
    ∙ ap (same text) (c.write_number.ensures ∙ ap (field 4) (c.spelled_number.ensures ∙ ap spelled (take_all 4 text (le_of_eq c.requires))))
