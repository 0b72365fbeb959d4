-- The verdict so far is not 2, and where it is 0 the vectors before `place` are penalties.
use Rattle.std.proofs.Common.{◌≡◌, ℕ, ◌<◌, length}
use Rattle.vector.specs.Vector.{vector_at, AtMost, HasZero}
use Rattle.files.specs.Printed.{FrameNumber}
use Rattle.files.proofs.frame.feed_file.Given as goal

abbrev pub invariant-loop-place : goal.invariant-loop-place
invariant-loop-place g l =
    (length l.frame ≡ length l.initial.frame) × (length l.line ≡ 257)
    × FrameNumber l.verdict × (l.verdict ≡ 0 → (i : ℕ) → i < l.place → AtMost 31 (vector_at l.frame i) × HasZero (vector_at l.frame i))
