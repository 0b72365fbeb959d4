-- A line more, and the last one with the count.
use Rattle.std.proofs.Common.{◌≡◌, ℕ, ◌+◌, ◌*◌, sym, ap, ◌∙◌, arith, List, ◌++◌, length, get_or}
use native.Mathlib.Nat.{le_of_eq}
use Rattle.vector.specs.Vector.{joined}
use Rattle.vector.proofs.JoinedLaws.{part_long, put_none, put_more, put_all, last_put}
use Rattle.vector.proofs.PartLaws.{there, place_part}
use Rattle.listing.specs.Listing.{place_line}
use Rattle.program_listing.specs.Parts.{listing_of}
use Rattle.program_listing.proofs.lines.write_listing.Invariants.{line_of}
use Rattle.program_listing.proofs.lines.write_listing.Goals as goal

pub loop-place-init : goal.loop-place-init
loop-place-init c = let long = c.requires.output_long in (c.requires, put_none (omega arith))

pub loop-place-preserved : goal.loop-place-preserved
loop-place-preserved c =
    let a = c.args in
    let at = c.loop-place in
    let below = c.loop-place-test.true in
    let long = at.invariant.0.report_long in
    let held = c.place_llrs-llrs.ensures.llrs ∙ place_part a.report.now at.place (there a.report.now at.place (omega arith) (omega arith)) in (
      at.invariant.0,
      put_more at.invariant.1 below c.copy_from_slice.new.self c.copy_from_slice.auto.self
          (c.copy_from_slice.ensures.after ∙ c.place_line-line.ensures ∙ ap (place_line at.place (get_or a.symbols.now at.place 0)) held),
    )

pub returns : goal.returns
unfolding listing_of
returns c =
    let a = c.args in
    let at = c.loop-place in
    let places = length a.symbols.now in
    let put = at.invariant.1 in
    let long : length at.output ≡ 21 * places + 6 = put.long ∙ at.invariant.0.output_long in
    let part = part_long (21 * places) 6 at.output (le_of_eq (sym long)) in
    last_put (21 * places) 6 at.output (joined places (line_of a.symbols.now a.report.now)) c.copy_from_slice-2.new.self long
    (put_all put c.loop-place-test.false)
    (c.copy_from_slice-2.auto.self ∙ part)
    ∙ ap (λ (xs : List ℕ). joined places (line_of a.symbols.now a.report.now) ++ xs)
    (c.copy_from_slice-2.ensures.after ∙ c.number_line.ensures)
