-- `clip_llrs`: the entries before this one are clipped, and the count is that of those that exceeded the cap.
use Rattle.std.proofs.Common.{◌≡◌, ◌≤◌, cond, ltb, min, get_or}
use Rattle.vector.specs.Vector.{sum_to}
use Rattle.reorder.specs.Order.{Mapped}
use Rattle.variable_node.proofs.variable.clip_llrs.Given as goal

abbrev pub invariant-loop-x : goal.invariant-loop-x
invariant-loop-x l =
    (l.count ≡ sum_to l.x-index (λ k. cond (ltb l.cap (get_or l.v k 0)) 1 0)) × (l.count ≤ l.x-index) × Mapped (λ _ z. min l.cap z) 0 l.x-index l.v l.x-items
