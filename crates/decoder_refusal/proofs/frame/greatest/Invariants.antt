-- The greatest so far with the numbers from x on gives the greatest of all.
use Rattle.decoder_refusal.proofs.RefusalLaws.{Kept}
use Rattle.decoder_refusal.proofs.frame.greatest.Given as goal

abbrev pub invariant-loop-x : goal.invariant-loop-x
invariant-loop-x l = Kept l.frame l.most l.x-index
