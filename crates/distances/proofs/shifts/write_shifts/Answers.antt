-- `write_shifts` meets its contract: the first i bytes are written (ShiftLaws). That each byte lies in the buffer is
-- found by the search.
use Rattle.std.proofs.Common.{arith}
use Rattle.distances.proofs.ShiftLaws.{written_none, written_left, written_kept, written_all}
use Rattle.distances.proofs.shifts.write_shifts.Goals as goal
use Rattle.distances.proofs.shifts.write_shifts.Goals.{then-chips_apart-d, else-chips_apart-d}

pub loop-i-init : goal.loop-i-init
loop-i-init c = written_none _ _ _ c.requires

pub loop-i-preserved : goal.loop-i-preserved
loop-i-preserved c =
    let at = c.loop-i in
    let distance = c.chips_apart.ensures in
    elim c.if-chips_apart-d.branch [
      | then-chips_apart-d w ↦ let near = w.if-chips_apart-d.true in
          rw (w.shifts-is, w.count-is) (written_kept _ _ _ _ _ at.invariant (omega arith) (omega arith))
      | else-chips_apart-d w ↦ let far = w.if-chips_apart-d.false in
          rw (w.shifts-is, w.count-is) (written_left _ _ _ _ _ at.invariant (omega arith) (omega arith))
    ]

pub returns : goal.returns
returns c = written_all _ _ _ _ _ c.loop-i.invariant c.loop-i-test.false
