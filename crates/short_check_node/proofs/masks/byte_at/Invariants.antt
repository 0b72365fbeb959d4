-- `byte_at`: the lowest i bits are there.
use Rattle.std.proofs.Common.{◌≡◌, ◌+◌, ◌<◌, ◌^◌, slice_index}
use Rattle.short_check_node.specs.Masks.{mask_of}
use Rattle.short_check_node.proofs.masks.byte_at.Given as goal

abbrev pub invariant-loop-i : goal.invariant-loop-i
invariant-loop-i l = (l.byte ≡ mask_of l.i (λ i. slice_index l.f (l.at + i))) × (l.byte < 2 ^ l.i)
