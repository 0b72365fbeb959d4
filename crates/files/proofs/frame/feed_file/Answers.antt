-- A vector more, and all of them.
use Rattle.std.proofs.Common.{◌+◌, ◌-◌, ◌*◌, arith, sym, ◌∙◌, subst}
use borrow.Rule.Slice.PartMut.{same_len_mid}
use Rattle.files.specs.Printed.{FrameNumber}
use Rattle.frame_file.proofs.FrameLaws.{fed_number, end_number, fed_penalties, end_zero}
use Rattle.files.proofs.PartLaws.{place_long, penalties_more}
use Rattle.files.proofs.frame.feed_file.Goals as goal

pub loop-place-preserved : goal.loop-place-preserved
loop-place-preserved g c =
    let at = c.loop-place in
    let fed = c.feed_line-verdict in
    let below = c.loop-place-test.true in
    let whole = at.invariant.0 in
    let kept = c.read_some-got.auto.buf in
    let part = place_long at.place at.frame (omega arith) in (
      same_len_mid (64 * at.place) (64 * at.place + 64 - 64 * at.place) at.frame fed.new.llrs fed.auto.llrs ∙ whole,
      kept ∙ at.invariant.1,
      fed_number fed.ensures part at.invariant.2,
      λ z.
          let good = fed_penalties fed.ensures part at.invariant.2 z in
          penalties_more at.place at.frame fed.new.llrs (omega arith) good.1 (at.invariant.3 good.0) good.2 good.3,
    )

pub returns-clause-frame_number : goal.returns-clause-frame_number
returns-clause-frame_number g c =
    subst FrameNumber (sym c.end_frame.ensures) (end_number c.loop-place.verdict _ c.loop-place.invariant.2)

pub returns-clause-penalties : goal.returns-clause-penalties
returns-clause-penalties g c =
    let at = c.loop-place in
    let whole = at.invariant.0 in
    let over = c.loop-place-test.false in
    λ z i l. at.invariant.3 (end_zero at.verdict _ at.invariant.2 (sym c.end_frame.ensures ∙ z)) i (omega arith)
