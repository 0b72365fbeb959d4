-- The frame is written up to symbol i.
use Rattle.demapper.proofs.FrameLaws.{Written}
use Rattle.demapper.proofs.demapper.write_llrs.Given as goal

abbrev pub invariant-loop-i : goal.invariant-loop-i
invariant-loop-i l = Written l.base l.gain.top l.gain.bottom l.qc l.samples l.llrs l.i
