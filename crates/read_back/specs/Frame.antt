-- A line of a frame file written and then read, and read and then written; and the lines of a whole frame. The premises
-- are what the calls promise.
use Rattle.std.specs.Prelude.{ℕ, ◌*◌, ◌<◌, ◌≡◌, List, length, get_or}
use Rattle.vector.specs.Vector.{vector_at, joined, AtMost, HasZero}
use Rattle.vector.specs.Frame.{IsFrame}
use Rattle.sheet.specs.FrameLine.{LineRead}
use Rattle.writer.specs.FrameLine.{LineWritten}
use Rattle.frame_file.specs.FrameFile.{frame_llrs, frame_verdict}

-- what `write_frame_line` left for penalties that it accepted is accepted by `read_frame_line`, for any output of 64
-- numbers, and gives the same 64 numbers
abbrev pub LineReadBack : (llrs out bytes before after : List ℕ) (r : ℕ) → Type 0
LineReadBack llrs out bytes before after r =
    LineWritten llrs out bytes 0 → length before ≡ 64 → LineRead bytes before after r → (r ≡ 0) × (after ≡ llrs)

-- a line that `read_frame_line` accepted and that holds no number above 31 and a 0: `write_frame_line`, given its
-- numbers and an output of 257 bytes, accepts them and leaves the same bytes
abbrev pub LineWrittenBack : (bytes before llrs out after : List ℕ) (r : ℕ) → Type 0
LineWrittenBack bytes before llrs out after r =
    LineRead bytes before llrs 0 → AtMost 31 llrs → HasZero llrs → length out ≡ 257 → LineWritten llrs out after r
    → (r ≡ 0) × (after ≡ bytes)

-- one that holds a number above 31 can be read but not written: it is refused by 8, and the output is as it came
abbrev pub LineNotWritten : (bytes before llrs out after : List ℕ) (value r : ℕ) → Type 0
LineNotWritten bytes before llrs out after value r =
    LineRead bytes before llrs 0 → value < 64 → 31 < get_or llrs value 0 → length out ≡ 257
    → LineWritten llrs out after r → (r ≡ 8) × (after ≡ out)

-- `write_frame_line` was called once for each of the N places of a frame, with its 64 penalties: the outputs before and
-- after the call for place i, and its answer
abbrev pub FrameWritten : (places : ℕ) (frame : List ℕ) (before after : ℕ → List ℕ) (r : ℕ → ℕ) → Type 0
FrameWritten places frame before after r =
    (i : ℕ) → i < places → LineWritten (vector_at frame i) (before i) (after i) (r i)

-- all of these calls accepted their input
abbrev pub AllAccepted : (places : ℕ) (r : ℕ → ℕ) → Type 0
AllAccepted places r = (i : ℕ) → i < places → r i ≡ 0

-- each was given an output of 257 bytes
abbrev pub LinesLent : (places : ℕ) (before : ℕ → List ℕ) → Type 0
LinesLent places before = (i : ℕ) → i < places → length (before i) ≡ 257

-- the lines written for a frame, one after the other, are a frame file: its verdict is 0, 'accepted', and its numbers
-- are the frame's
pub record FrameRead (places : ℕ) (frame : List ℕ) (lines : ℕ → List ℕ) : Type 0 where
  pub verdict : frame_verdict places (joined places lines) ≡ 0
  pub numbers : frame_llrs places (joined places lines) ≡ frame

-- so it is where all calls accepted their input; and those for a frame at Qc = 5 do
pub record FrameLines (places : ℕ) (frame : List ℕ) (before after : ℕ → List ℕ) (r : ℕ → ℕ) : Type 0 where
  pub accepted : IsFrame 5 frame → LinesLent places before → AllAccepted places r
  pub read : AllAccepted places r → FrameRead places frame after

-- this holds for every number of places and any penalties, 64 for each place
abbrev pub FrameReadBack : (places : ℕ) (frame : List ℕ) (before after : ℕ → List ℕ) (r : ℕ → ℕ) → Type 0
FrameReadBack places frame before after r =
    length frame ≡ 64 * places → FrameWritten places frame before after r → FrameLines places frame before after r

-- a frame file that is accepted: its numbers, written line by line, are accepted and give the same bytes
abbrev pub FrameWrittenBack : (places : ℕ) (bytes : List ℕ) (before after : ℕ → List ℕ) (r : ℕ → ℕ) → Type 0
FrameWrittenBack places bytes before after r =
    frame_verdict places bytes ≡ 0 → LinesLent places before
    → FrameWritten places (frame_llrs places bytes) before after r → AllAccepted places r × (joined places after ≡ bytes)
