-- What the decoder goes by, beside the code and the frame.
use Rattle.std.specs.Prelude.{ℕ, ◌-◌, ◌^◌, ◌≤◌, ◌≡◌}

-- the cap of a precision Qm
unfoldable pub cap_of : ℕ → ℕ
cap_of qm = 2 ^ qm - 1

-- what the nodes go by: the cap of the variable nodes, and how many values a check node tries (the papers' m)
pub record Mode : Type 0 where
  pub cap : ℕ
  pub candidates : ℕ

-- the mode of a precision Qm and a number m
abbrev pub mode_of : (qm candidates : ℕ) → Mode
mode_of qm candidates = record { cap = cap_of qm; candidates = candidates }

-- the number m of the full check nodes, which try all values
abbrev pub all_candidates : ℕ
all_candidates = 64

-- the check nodes are the full ones
abbrev pub Full : Mode → Type 0
Full mode = mode.candidates ≡ all_candidates

-- they try a value at least
abbrev pub TriesOne : Mode → Type 0
TriesOne mode = 1 ≤ mode.candidates
