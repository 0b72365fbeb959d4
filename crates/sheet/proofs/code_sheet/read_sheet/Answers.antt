-- A refusal by the form or by the contents, or the numbers of the sheet at the start of the two buffers (SheetLaws).
use Rattle.std.proofs.Common.{◌≡◌, ℕ, ◌+◌, ◌*◌, ◌/◌, ◌^◌, ◌≤◌, List, ◌++◌, length, take, drop, sym, ap, ap₂, ◌∙◌, subst, Result}
use native.Mathlib.Omega.{arith}
use lib.Seq.{length-take-le}
use Rattle.refusal.specs.Kinds.{number_of}
use Rattle.refusal.specs.declared.kinds.Refusal.{Refusal}
use Rattle.refusal.proofs.KindLaws.{exit_is, part_refused, part_passed}
use Rattle.polar_code.proofs.SizeLaws.{places_are, kernels_are}
use Rattle.sheet.specs.CodeSheet.{numbers_on, sheet_layers, sheet_places, sheet_kernels, sheet_map, sheet_coefs, form_table, content_table, sheet_refusal, SheetRead}
use Rattle.sheet.specs.Parts.{Formed, NumbersGiven}
use Rattle.sheet.proofs.SheetLaws.{formed, map_room, coefs_room, map_given, coefs_given, sheet_refused, sheet_accepted}
use Rattle.sheet.proofs.code_sheet.read_sheet.Goals as goal

-- a refusal at the exit of a `?`
at_exit : {bytes map coefs : List ℕ} {answer : Result ℕ Refusal} {r : Refusal} → answer ≡ Rattle.std.proofs.Common.Err r
    → number_of r ≡ sheet_refusal bytes map coefs → SheetRead bytes map coefs map coefs answer
at_exit {bytes} {map} {coefs} e n = subst (λ (a : Result ℕ Refusal). SheetRead bytes map coefs map coefs a) (sym e) (sheet_refused bytes map coefs _ n)

-- what is known past both parts of the table: that the sheet is accepted, and the sizes that `place_count` and
-- `kernel_count` gave
record Sized (bytes map coefs : List ℕ) (n size count : ℕ) : Type 0 where
  accepted : sheet_refusal bytes map coefs ≡ 0
  layers : n ≡ sheet_layers bytes
  places : size ≡ sheet_places bytes
  kernels : count ≡ sheet_kernels bytes

sized : {bytes map coefs : List ℕ} {n size count : ℕ} → 0 ≡ Rattle.refusal.specs.Table.refusal_of (form_table bytes)
    → 0 ≡ Rattle.refusal.specs.Table.refusal_of (content_table bytes map coefs) → n ≡ sheet_layers bytes
    → size ≡ Rattle.polar_code.specs.Sizes.places_of n → count ≡ Rattle.polar_code.specs.Sizes.kernels_of n → Sized bytes map coefs n size count
unfolding sheet_refusal
sized {bytes} {map} {coefs} {n} f k is s q =
    let few = (formed bytes (sym f)).layers.most in
    let small : n ≤ 8 = omega arith in
    record {
      accepted = sym (part_passed (form_table bytes) (content_table bytes map coefs) tt f k);
      layers = is;
      places = s ∙ places_are n small ∙ ap (λ (k : ℕ). 2 ^ k) is;
      kernels = q ∙ kernels_are n small ∙ ap (λ (k : ℕ). k * (2 ^ k / 2)) is;
    }

module _ {bytes map coefs : List ℕ} {n size count : ℕ} (z : Sized bytes map coefs n size count) where
  -- the buffers have room
  map_fits : size ≤ length map
  map_fits = let e = z.places in let l = map_room _ _ _ z.accepted in omega arith

  coefs_fit : count ≤ length coefs
  coefs_fit = let e = z.kernels in let l = coefs_room _ _ _ z.accepted in omega arith

  -- how long the two parts are
  map_part : length (take size map) ≡ size
  map_part = length-take-le size map map_fits

  coefs_part : length (take count coefs) ≡ count
  coefs_part = length-take-le count coefs coefs_fit

  -- what `write_numbers` is given for the coefficients
  coefs_lines : NumbersGiven (1 + size) bytes (take count coefs)
  coefs_lines = subst (λ (k : ℕ). NumbersGiven (1 + k) bytes (take count coefs)) (sym z.places) (coefs_given _ _ _ z.accepted _ (coefs_part ∙ z.kernels))

pub returns-in_err-n : goal.returns-in_err-n
unfolding sheet_refusal
returns-in_err-n c = at_exit (exit_is _ _ c.from_residual.ensures.1) (part_refused (form_table _) (content_table _ _ _) _ c.in_err-n.ensures.refusal)

pub check_contents-requires : goal.check_contents-requires
check_contents-requires c =
    let is = c.in_ok-n.ensures.layers in
    subst (λ (k : ℕ). Formed k c.args.bytes.now) (sym is) (formed _ (sym c.in_ok-n.ensures.refusal))

pub returns-in_err-check_contents : goal.returns-in_err-check_contents
unfolding sheet_refusal
returns-in_err-check_contents c =
    at_exit (exit_is _ _ c.from_residual-in_err-check_contents.ensures.1)
    (part_passed (form_table _) (content_table _ _ _) tt c.in_ok-n.ensures.refusal c.in_err-check_contents.ensures)

pub slice_bounds-write_numbers-end : goal.slice_bounds-write_numbers-end
slice_bounds-write_numbers-end c =
    map_fits (sized c.in_ok-n.ensures.refusal c.in_ok-check_contents.ensures c.in_ok-n.ensures.layers c.place_count-size.ensures.value c.kernel_count-count.ensures.value)

pub slice_bounds-write_numbers-end-2 : goal.slice_bounds-write_numbers-end-2
slice_bounds-write_numbers-end-2 c =
    sym (map_part (sized c.in_ok-n.ensures.refusal c.in_ok-check_contents.ensures c.in_ok-n.ensures.layers c.place_count-size.ensures.value c.kernel_count-count.ensures.value))

pub write_numbers-requires : goal.write_numbers-requires
write_numbers-requires c =
    let z = sized c.in_ok-n.ensures.refusal c.in_ok-check_contents.ensures c.in_ok-n.ensures.layers c.place_count-size.ensures.value c.kernel_count-count.ensures.value in
    map_given _ _ _ z.accepted _ (map_part z ∙ z.places)

pub slice_bounds-write_numbers-end-3 : goal.slice_bounds-write_numbers-end-3
slice_bounds-write_numbers-end-3 c =
    coefs_fit (sized c.in_ok-n.ensures.refusal c.in_ok-check_contents.ensures c.in_ok-n.ensures.layers c.place_count-size.ensures.value c.kernel_count-count.ensures.value)

pub slice_bounds-write_numbers-end-4 : goal.slice_bounds-write_numbers-end-4
slice_bounds-write_numbers-end-4 c =
    sym (coefs_part (sized c.in_ok-n.ensures.refusal c.in_ok-check_contents.ensures c.in_ok-n.ensures.layers c.place_count-size.ensures.value c.kernel_count-count.ensures.value))

pub write_numbers-requires-2 : goal.write_numbers-requires-2
write_numbers-requires-2 c =
    coefs_lines (sized c.in_ok-n.ensures.refusal c.in_ok-check_contents.ensures c.in_ok-n.ensures.layers c.place_count-size.ensures.value c.kernel_count-count.ensures.value)

pub returns : goal.returns
unfolding sheet_map sheet_coefs
returns c =
    let z = sized c.in_ok-n.ensures.refusal c.in_ok-check_contents.ensures c.in_ok-n.ensures.layers c.place_count-size.ensures.value c.kernel_count-count.ensures.value in
    let bytes = c.args.bytes.now in
    let map_written = c.write_numbers.ensures ∙ ap (λ (k : ℕ). numbers_on 1 k bytes) (map_part z ∙ z.places) in
    let coefs_written = c.write_numbers-2.ensures ∙ ap₂ (λ (a b : ℕ). numbers_on (1 + a) b bytes) z.places (coefs_part z ∙ z.kernels) in
    sheet_accepted _ _ _ z.accepted z.layers
    (ap₂ (λ (xs : List ℕ) (k : ℕ). xs ++ drop k c.args.map.now) map_written z.places)
    (ap₂ (λ (xs : List ℕ) (k : ℕ). xs ++ drop k c.args.coefs.now) coefs_written z.kernels)
