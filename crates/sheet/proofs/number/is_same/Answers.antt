-- `is_same`: all pairs of bytes are equal, and none is left over.
use Rattle.std.proofs.Common.{rules, ◌≡◌, ◌∙◌, ℕ, eqb, length}
use Rattle.std.specs.List.{zip, list_all}
use Rattle.std.proofs.lemmas.Iterator.{YieldsList-from_slice, YieldsList-from_zip}
use Rattle.std.proofs.lemmas.Iterator.Search.{all_from_yields_List}
use borrow.Author.Tests.{ne_eqb}
use Rattle.sheet.proofs.NumberLaws.{same_pointwise, pairs_pointwise, other_length}
use Rattle.sheet.proofs.number.is_same.Goals as goal

pub returns-then-text-form : goal.returns-then-text-form
returns-then-text-form c =
    let text = c.args.text.now in
    let form = c.args.form.now in
    let e : c.all.result ≡ list_all (λ (p : ℕ × ℕ). eqb p.0 p.1) (zip text form) =
    all_from_yields_List (λ (p : ℕ × ℕ). eqb p.0 p.1) c.all.new.self _ c.all.result c.all.ensures.ran
    (YieldsList-from_zip (YieldsList-from_slice text (search rules)) (YieldsList-from_slice form (search rules))) (λ x b q k. search rules) in
    e ∙ pairs_pointwise text form c.if-text-form.true ∙ same_pointwise text form

pub returns-else-text-form : goal.returns-else-text-form
returns-else-text-form c =
    let text = c.args.text.now in
    let form = c.args.form.now in
    ne_eqb (length text) (length form) c.if-text-form.false ∙ other_length text form c.if-text-form.false ∙ same_pointwise text form
