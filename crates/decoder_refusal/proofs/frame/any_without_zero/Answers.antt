-- A vector with a 0, a vector with none, and all with one.
use Rattle.std.proofs.Common.{sym}
use native.Mathlib.Omega.{arith}
use Rattle.decoder_refusal.proofs.RefusalLaws.{scan_found, scan_over, scan_all}
use Rattle.decoder_refusal.proofs.frame.any_without_zero.Goals as goal

pub vectors-preserved : goal.vectors-preserved
vectors-preserved c = scan_found _ _ _ c.loop-b.invariant (omega arith) c.if-frame-i-eq0.true

pub returns-in-vectors : goal.returns-in-vectors
returns-in-vectors c = sym (scan_over _ _ _ c.loop-b.invariant (omega arith))

pub returns : goal.returns
returns c = sym (scan_all _ _ c.vectors.invariant (omega arith))
