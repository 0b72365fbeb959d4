-- The table in two parts.
use Rattle.std.proofs.Common.{◌∙◌, sym}
use Rattle.refusal.proofs.KindLaws.{exit_number, number_nonzero}
use Rattle.loopback.proofs.RefusalLaws.{size_refused, size_accepted}
use Rattle.loopback.proofs.table.check.Goals as goal

pub returns-in_err-check_sizes : goal.returns-in_err-check_sizes
returns-in_err-check_sizes c = exit_number _ _ c.from_residual.ensures.1 ∙ size_refused _ _ _ _ c.in_err-check_sizes.ensures (number_nonzero _)

pub returns : goal.returns
returns c = size_accepted _ _ _ _ (sym c.in_ok-check_sizes.ensures) c.check_contents.ensures
