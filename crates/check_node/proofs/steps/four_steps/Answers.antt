-- `four_steps`: the fold over the pairs is four steps, one after the other.
use Rattle.std.proofs.Common.{◌≡◌, ◌∙◌, rules}
use Rattle.std.specs.List.{fold, zip}
use Rattle.std.proofs.lemmas.Iterator.{YieldsList-from_slice, YieldsList-from_zip}
use Rattle.std.proofs.lemmas.Iterator.Consumers.{fold_from_yields_List}
use Rattle.check_node.specs.Steps.{step}
use Rattle.check_node.proofs.StepLaws.{fold_four}
use Rattle.check_node.proofs.steps.four_steps.Goals as goal

pub returns : goal.returns
returns c =
    let e : c.fold.result ≡ fold (λ h p. step h p.0 p.1) c.args.held (zip c.args.d.now c.args.w.now) =
    fold_from_yields_List _ (λ h p. step h p.0 p.1) c.args.held c.fold.result c.fold.ensures.ran (YieldsList-from_zip (YieldsList-from_slice c.args.d.now (search rules)) (YieldsList-from_slice c.args.w.now (search rules))) (λ a x b q e. search rules) in
    e ∙ fold_four c.args.d.now c.args.w.now c.args.held c.told-d c.told-w
