-- The lines of the places before `place` stand at the start of the buffer.
use Rattle.std.proofs.Common.{ℕ, List, length, get_or}
use Rattle.vector.specs.Vector.{vector_at}
use Rattle.vector.proofs.JoinedLaws.{PutTo}
use Rattle.listing.specs.Listing.{place_line}
use Rattle.program_listing.specs.Parts.{Listing}
use Rattle.program_listing.proofs.lines.write_listing.Given as goal

-- the line of place i
abbrev pub line_of : (symbols report : List ℕ) (i : ℕ) → List ℕ
line_of symbols report i = place_line i (get_or symbols i 0) (vector_at report i)

abbrev pub invariant-loop-place : goal.invariant-loop-place
invariant-loop-place l =
    Listing l.symbols l.report l.initial.output
    × PutTo 21 (length l.symbols) (line_of l.symbols l.report) l.initial.output l.output l.place
