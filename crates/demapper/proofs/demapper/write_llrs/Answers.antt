-- One symbol more, and all of them.
use Rattle.std.proofs.Common.{◌≡◌, ◌+◌, ◌*◌, ◌-◌}
use native.Mathlib.Omega.{arith}
use Rattle.demapper.proofs.FrameLaws.{written_more, written_all}
use Rattle.demapper.proofs.demapper.write_llrs.Goals as goal

pub loop-i-preserved : goal.loop-i-preserved
loop-i-preserved c =
    let size : 64 * c.loop-i.i + 64 - 64 * c.loop-i.i ≡ 64 = omega arith in
    written_more _ _ _ _ _ _ _ c.loop-i.invariant c.loop-i-test.true _ _ _ size
    c.chips_twice-chips.ensures c.symbol_llrs-v.ensures _ c.store.ensures

pub returns : goal.returns
returns c = written_all _ _ _ _ _ _ _ c.loop-i.invariant c.requires.whole c.loop-i-test.false
