-- `after_lowest`: as many values are taken as turns were made.
use Rattle.std.proofs.Common.{◌≡◌, ℕ, ◌≤◌}
use Rattle.vector.specs.Vector.{sum_to}
use Rattle.short_check_node.specs.Masks.{Flags, mask_of, Cut}
use Rattle.short_check_node.proofs.masks.after_lowest.Given as goal

abbrev pub invariant-loop : goal.invariant-loop
invariant-loop l = (f : ℕ → ℕ) → Flags f → l.mask ≡ mask_of 64 f → l.n ≤ sum_to 64 f → Cut f l.counter l.rest
