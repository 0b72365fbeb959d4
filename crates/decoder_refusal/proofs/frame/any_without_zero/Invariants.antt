-- Each vector before i has a 0, and in vector i no entry before b is 0.
use Rattle.decoder_refusal.proofs.RefusalLaws.{Scanned, Scanning}
use Rattle.decoder_refusal.proofs.frame.any_without_zero.Given as goal

abbrev pub invariant-vectors : goal.invariant-vectors
invariant-vectors l = Scanned l.frame l.i

abbrev pub invariant-loop-b : goal.invariant-loop-b
invariant-loop-b l = Scanning l.frame l.i l.b
