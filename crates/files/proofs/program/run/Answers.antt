-- The parts of the two buffers that are lent are the code that was read.
use Rattle.std.proofs.Common.{ℕ, ◌^◌, rules, sym, ◌∙◌, subst, take}
use Rattle.polar_code.specs.Code.{code_of, IsCode}
use Rattle.polar_code.proofs.SizeLaws.{places_are, kernels_are}
use Rattle.sheet.specs.CodeSheet.{SheetRead}
use Rattle.sheet.proofs.SheetLaws.{code_read}
use Rattle.files.proofs.PrintedLaws.{sheet_printed}
use Rattle.files.proofs.program.run.Goals as goal

pub returns-in_default : goal.returns-in_default
returns-in_default g c =
    sheet_printed c.read_sheet-answer.ensures (search rules) (search rules) c.print_refusal.result (c.print_refusal.ensures ∙ c.refused_by.ensures)

pub run_frame-requires : goal.run_frame-requires
run_frame-requires g c =
    let n = c.in-Ok.n in
    let map = c.read_sheet-answer.new.map in
    let coefs = c.read_sheet-answer.new.coefs in
    let code = code_read (subst (SheetRead _ _ _ map coefs) c.in-Ok.is c.read_sheet-answer.ensures) in
    let size = c.place_count.ensures.value ∙ places_are n code.layers.most in
    let count = c.kernel_count.ensures.value ∙ kernels_are n code.layers.most in
    subst (λ (k : ℕ). IsCode (code_of n (take k map) (take c.kernel_count.result coefs))) (sym size)
    (subst (λ (k : ℕ). IsCode (code_of n (take (2 ^ n) map) (take k coefs))) (sym count) code)
