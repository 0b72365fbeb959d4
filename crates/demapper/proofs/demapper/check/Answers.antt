-- The table in two parts.
use Rattle.std.proofs.Common.{◌∙◌}
use Rattle.refusal.proofs.KindLaws.{exit_number, part_refused, part_passed}
use Rattle.demapper.specs.Demap.{length_rows, setting_rows, demap_refusal}
use Rattle.demapper.proofs.demapper.check.Goals as goal

pub returns-in_err-check_lengths : goal.returns-in_err-check_lengths
unfolding demap_refusal
returns-in_err-check_lengths c =
    exit_number _ _ c.from_residual.ensures.1 ∙ part_refused (length_rows _ _) (setting_rows _ _ _ _) _ c.in_err-check_lengths.ensures

pub returns : goal.returns
unfolding demap_refusal
returns c = part_passed (length_rows _ _) (setting_rows _ _ _ _) tt c.in_ok-check_lengths.ensures c.check_settings.ensures
