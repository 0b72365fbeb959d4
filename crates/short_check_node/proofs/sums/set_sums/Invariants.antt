-- `set_sums`: the sums of the values that are no longer left are made.
use Rattle.std.proofs.Common.{◌≡◌, ℕ, List, length}
use Rattle.reorder.specs.Order.{Small}
use Rattle.scms.specs.Nodes.{sum_at}
use Rattle.check_node.specs.Steps.{AreCopies}
use Rattle.short_check_node.specs.Masks.{Flags, mask_of}
use Rattle.short_check_node.proofs.SumLaws.{Progress}
use Rattle.short_check_node.proofs.sums.set_sums.Given as goal

abbrev pub invariant-loop-rest : goal.invariant-loop-rest
invariant-loop-rest l = (length l.r ≡ 64) × ((f : ℕ → ℕ) (theta : List ℕ) → Flags f → l.mask ≡ mask_of 64 f → AreCopies 8 theta l.copies → Small theta → Small l.ordered
    → Progress f (sum_at theta l.ordered) l.r l.rest)

abbrev pub decreases-loop-rest : goal.decreases-loop-rest
decreases-loop-rest l = l.rest
