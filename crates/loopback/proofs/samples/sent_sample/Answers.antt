-- An amplitude of at most 127 and what it gives taken off 0 are signed bytes (SampleLaws). The chip is stated here and
-- found by the search: so a wrong test fails by the fact that it lacks.
use Rattle.std.proofs.Common.{◌≡◌, rules, sym, ap, ◌∙◌}
use mathlib.Core.Bool.{Bool, cond}
use borrow.Author.Tests.{eq-eqb, ne_eqb}
use lib.IntN.{pos, neg_ℤ, ◌-ℤ◌}
use mir.Syntax.{w8}
use mir.Val.{to_z}
use mir.ValLaws.{to_z-of_z}
use Rattle.ccsk.specs.Chips.{chip}
use Rattle.demapper.specs.Noiseless.{sent_sample}
use Rattle.loopback.proofs.SampleLaws.{plain, negated, negated_fits}
use Rattle.loopback.proofs.samples.sent_sample.Goals as goal

pub returns-then-number-k-eq0 : goal.returns-then-number-k-eq0
unfolding sent_sample chip
returns-then-number-k-eq0 c =
    let a = c.args in
    let zero : chip a.number a.k ≡ 0 = search rules in
    plain a.amplitude c.requires.1
    ∙ ap (λ (b : Bool). cond b (pos a.amplitude) (neg_ℤ (pos a.amplitude))) (sym (eq-eqb (chip a.number a.k) 0 zero))

pub returns-else-number-k-eq0 : goal.returns-else-number-k-eq0
unfolding sent_sample chip
returns-else-number-k-eq0 c =
    let a = c.args in
    let one : (chip a.number a.k ≡ 0 → ⊥) = search rules in
    to_z-of_z w8 (pos 0 -ℤ to_z w8 a.amplitude) (negated_fits a.amplitude c.requires.1)
    ∙ negated a.amplitude c.requires.1
    ∙ ap (λ (b : Bool). cond b (pos a.amplitude) (neg_ℤ (pos a.amplitude))) (sym (ne_eqb (chip a.number a.k) 0 one))
