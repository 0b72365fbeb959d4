-- The sizes that `place_count` and `kernel_count` give are the sheet's (SheetLaws).
use Rattle.std.proofs.Common.{ℕ, ap₂, ◌∙◌}
use Rattle.refusal.specs.Table.{refusal_of}
use Rattle.sheet.specs.Parts.{tried_content}
use Rattle.sheet.proofs.SheetLaws.{map_tried, coefs_tried, content_tried}
use Rattle.sheet.proofs.check.check_contents.Goals as goal

pub check_numbers-requires : goal.check_numbers-requires
check_numbers-requires c =
    (map_tried _ c.requires c.place_count.ensures.value, coefs_tried _ c.requires c.place_count.ensures.value c.kernel_count.ensures.value)

pub returns : goal.returns
returns c =
    content_tried c.args.bytes.now c.args.map.now c.args.coefs.now c.args.n c.requires
    (c.check_numbers.ensures
    ∙ ap₂ (λ (places kernels : ℕ). refusal_of (tried_content places kernels c.args.bytes.now c.args.map.now c.args.coefs.now)) c.place_count.ensures.value c.kernel_count.ensures.value)
