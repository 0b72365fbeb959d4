-- The table in three parts.
use Rattle.std.proofs.Common.{◌++◌, ◌∙◌}
use Rattle.refusal.proofs.KindLaws.{exit_number, part_refused, part_passed}
use Rattle.polar_code.specs.Code.{code_table}
use Rattle.decoder_refusal.specs.Refusals.{penalty_table}
use Rattle.program_listing.specs.Listing.{listing_sizes, listing_refusal}
use Rattle.program_listing.proofs.table.check.Goals as goal

pub returns-in_err-check_sizes : goal.returns-in_err-check_sizes
unfolding listing_refusal
returns-in_err-check_sizes c =
    let code = c.args.code.now in
    exit_number _ _ c.from_residual.ensures.1
    ∙ part_refused (listing_sizes code _ _) (code_table code.map code.coefs ++ penalty_table 31 c.args.frame.now) _ c.in_err-check_sizes.ensures

pub returns-in_err-check_bytes : goal.returns-in_err-check_bytes
unfolding listing_refusal
returns-in_err-check_bytes c =
    let code = c.args.code.now in
    exit_number _ _ c.from_residual-in_err-check_bytes.ensures.1
    ∙ part_passed (listing_sizes code _ _) (code_table code.map code.coefs ++ penalty_table 31 c.args.frame.now) tt c.in_ok-check_sizes.ensures
    (part_refused (code_table code.map code.coefs) (penalty_table 31 c.args.frame.now) _ c.in_err-check_bytes.ensures)

pub returns : goal.returns
unfolding listing_refusal
returns c =
    let code = c.args.code.now in
    part_passed (listing_sizes code _ _) (code_table code.map code.coefs ++ penalty_table 31 c.args.frame.now) tt c.in_ok-check_sizes.ensures
    (part_passed (code_table code.map code.coefs) (penalty_table 31 c.args.frame.now) tt c.in_ok-check_bytes.ensures c.check_frame.ensures)
