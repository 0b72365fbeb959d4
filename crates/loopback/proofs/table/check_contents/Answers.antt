-- The table in three parts.
use Rattle.std.proofs.Common.{ℕ, ◌≡◌, ◌++◌, ◌∙◌, subst}
use Rattle.refusal.specs.Table.{refusal_of}
use Rattle.refusal.proofs.KindLaws.{exit_number, part_refused, part_passed}
use Rattle.polar_code.specs.Code.{code_table}
use Rattle.decoder_refusal.specs.Refusals.{settings_rows}
use Rattle.link.specs.Noiseless.{Transmission}
use Rattle.loopback.specs.Refusals.{sent_rows}
use Rattle.loopback.proofs.table.check_contents.Goals as goal

-- what `check_bytes` answers, said of an equal transmission
for_sent : {s s' : Transmission} {k : ℕ} → s ≡ s' → k ≡ refusal_of (code_table s.code.map s.code.coefs)
    → k ≡ refusal_of (code_table s'.code.map s'.code.coefs)
for_sent {k = k} e = subst (λ (s : Transmission). k ≡ refusal_of (code_table s.code.map s.code.coefs)) e

pub returns-in_err-check : goal.returns-in_err-check
returns-in_err-check c =
    let s = c.args.s.now in
    exit_number _ _ c.from_residual.ensures.1
    ∙ part_refused (settings_rows c.args.r.settings) (code_table s.code.map s.code.coefs ++ sent_rows s _ _) _ c.in_err-check.ensures

pub returns-in_err-check_bytes : goal.returns-in_err-check_bytes
returns-in_err-check_bytes c =
    let s = c.args.s.now in
    exit_number _ _ c.from_residual-in_err-check_bytes.ensures.1
    ∙ part_passed (settings_rows c.args.r.settings) (code_table s.code.map s.code.coefs ++ sent_rows s _ _) tt c.in_ok-check.ensures
    (part_refused (code_table s.code.map s.code.coefs) (sent_rows s _ _) _ (for_sent c.s.view_is c.in_err-check_bytes.ensures))

pub returns : goal.returns
returns c =
    let s = c.args.s.now in
    part_passed (settings_rows c.args.r.settings) (code_table s.code.map s.code.coefs ++ sent_rows s _ _) tt c.in_ok-check.ensures
    (part_passed (code_table s.code.map s.code.coefs) (sent_rows s _ _) tt (for_sent c.s.view_is c.in_ok-check_bytes.ensures) c.check_sent.ensures)
