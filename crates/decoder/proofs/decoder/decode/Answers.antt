-- A refusal, or the whole word decoded as one block (DecodeLaws).
use Rattle.std.proofs.Common.{◌≡◌, ℕ, ◌≤◌, List, sym, ap, ◌∙◌, subst, rules, Result}
use native.Mathlib.Nat.{le_trans, le_of_eq}
use native.Mathlib.Omega.{arith}
use lib.ListN.{length, take, replicate}
use lib.Pow.{pow_mono}
use lib.Seq.{length-take-le}
use Rattle.vector.proofs.FrameLaws.{largest_is, largest_most}
use Rattle.refusal.specs.declared.kinds.Refusal.{Refusal}
use Rattle.refusal.proofs.KindLaws.{exit_is}
use Rattle.polar_code.specs.Code.{Code, code_of}
use Rattle.scms.specs.Mode.{cap_of}
use Rattle.decoder_refusal.specs.Refusals.{Settings, Lent, Decodable, lent_now, decode_refusal}
use Rattle.decoder_refusal.proofs.RefusalLaws.{accepted}
use Rattle.decoder.specs.Decode.{Decoded}
use Rattle.decoder.proofs.DecodeLaws.{whole_given, symbols_decoded, count_decoded, report_decoded, totals_decoded, promise_refused, promise_accepted}
use Rattle.decoder.proofs.decoder.decode.Goals as goal

-- a code that no row of the table refuses has at most 256 places
few : {code : Code} {settings : Settings} {frame : List ℕ} {lent : Lent} → Decodable code settings frame lent → length code.map ≤ 256
few {code} t =
    let size = pow_mono {i = code.n} {j = 8} t.is_code.layers.most in
    let e = t.is_code.map_long in
    omega arith

-- the cap is 2^Qm − 1
cap_is : {code : Code} {settings : Settings} {frame : List ℕ} {lent : Lent} {cap : ℕ} → Decodable code settings frame lent
    → cap ≡ Rattle.vector.specs.Frame.largest settings.qm → cap ≡ cap_of settings.qm
unfolding cap_of
cap_is {settings = settings} t e = e ∙ largest_is settings.qm t.internal_precision.most

-- the promise for a code, by its fields
at_code : {a b : Code} {settings : Settings} {frame : List ℕ} {lent after : Lent} {r : Result ℕ Refusal} → a ≡ b
    → Decoded a settings frame lent after r → Decoded b settings frame lent after r
at_code {settings = settings} {frame} {lent} {after} {r} e = subst (λ (code : Code). Decoded code settings frame lent after r) e

pub returns-in_err-check : goal.returns-in_err-check
returns-in_err-check c =
    subst (λ r. Decoded c.args.code.now c.args.settings c.args.frame.now (lent_now c.args.lent) (lent_now c.args.lent) r) (sym (exit_is _ _ c.from_residual.ensures.1))
    (promise_refused _ _ _ _ _ c.in_err-check.ensures)

pub slice_bounds-word-end : goal.slice_bounds-word-end
slice_bounds-word-end c =
    few (subst (λ (code : Code). Decodable code c.args.settings c.args.frame.now (lent_now c.args.lent)) (sym c.code.view_is) (accepted _ _ _ _ (sym c.in_ok-check.ensures)))

pub slice_bounds-decode_block-end : goal.slice_bounds-decode_block-end
slice_bounds-decode_block-end c =
    let t = subst (λ (code : Code). Decodable code c.args.settings c.args.frame.now (lent_now c.args.lent)) (sym c.code.view_is) (accepted _ _ _ _ (sym c.in_ok-check.ensures)) in
    sym (length-take-le (length c.code.inside.map.now) (replicate 256 0) (few t))

pub decode_block-count-requires : goal.decode_block-count-requires
decode_block-count-requires c =
    let t = subst (λ (code : Code). Decodable code c.args.settings c.args.frame.now (lent_now c.args.lent)) (sym c.code.view_is) (accepted _ _ _ _ (sym c.in_ok-check.ensures)) in (
      whole_given _ _ _ _ t (length-take-le (length c.code.inside.map.now) (replicate 256 0) (few t) ∙ t.is_code.map_long) (cap_is t c.largest.ensures)
          (le_trans (le_of_eq c.largest.ensures) (largest_most c.args.settings.qm)),
      c.products-table.ensures,
    )

pub returns : goal.returns
returns c =
    let none = subst (λ (code : Code). 0 ≡ decode_refusal code c.args.settings c.args.frame.now (lent_now c.args.lent)) (sym c.code.view_is) c.in_ok-check.ensures in
    let t = accepted _ _ _ _ (sym none) in
    let long = c.decode_block-count.auto.report ∙ t.buffers.report_long in
    let by = c.decode_block-count.ensures.decoded in
    let cap = cap_is t c.largest.ensures in
    let cleared : c.fill.new.self ≡ replicate (length c.decode_block-count.new.work) 0 = search rules in
    at_code c.code.view_is
    (promise_accepted _ _ _ _ (sym none)
    (count_decoded _ _ _ _ t cap long by)
    (symbols_decoded _ _ _ _ t cap long by)
    (report_decoded _ _ _ _ t cap long by)
    (totals_decoded _ _ _ _ t cap long by)
    (cleared ∙ ap (λ (k : ℕ). replicate k 0) (c.decode_block-count.auto.work ∙ t.buffers.work_long)))
