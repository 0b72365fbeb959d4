-- The count is 0 exactly where the frame is unclipped; and at Qm = 13 every frame is.
use mathlib.Core.Path.{◌≡◌, subst}
use mathlib.Core.List.{List}
use Prim.Native.Nat.{ℕ, zero, suc, ◌*◌, ◌/◌, ◌^◌, ◌≤◌}
use native.Mathlib.Nat.{le_trans, le_refl, mul-le-mul}
use native.Mathlib.Omega.{arith}
use lib.Arith.{le-zero}
use lib.Dec.{lit≤}
use lib.Pow.{pow_mono}
use Rattle.vector.specs.Vector.{sum_to}
use Rattle.vector.proofs.Laws.{sum_none, term_le}
use Rattle.polar_code.specs.Code.{Code, Coefficients}
use Rattle.scms.specs.Mode.{Mode, cap_of, mode_of, TriesOne}
use Rattle.scms.specs.Decoder.{lowered_at, clipped_at, clip_count, symbols, count}
use Rattle.scms.specs.Totals.{EachZero, EachAtMost, Unclipped}
use Rattle.scms.specs.Claims.{CountZero, NeverClipped}
use Rattle.scms.proofs.NodeLaws.{exceeding_none, none_exceeding}
use Rattle.scms.proofs.Bounds.{never_exceeds}
use Rattle.scms.proofs.AnswerLaws.{symbols_word}

module _ (code : Code) (mode : Mode) (frame : List ℕ) where
  -- the number of layers
  abbrev n : ℕ
  n = code.n

  -- the cap of its variable nodes
  abbrev cap : ℕ
  cap = mode.cap

  -- the coefficients
  abbrev cs : List ℕ
  cs = code.coefs

  -- the frozen map
  abbrev map : List ℕ
  map = code.map

  -- the symbols answered
  abbrev s : List ℕ
  s = symbols code mode frame

  -- the clipped entries of one layer
  in_layer : ℕ → ℕ
  in_layer d = sum_to (2 ^ n / 2) (clipped_at code mode frame s (suc d))

  -- a count of 0 has no clipped entry
  count_unclipped : count code mode frame ≡ 0 → Unclipped code mode frame
  unfolding count clip_count in_layer clipped_at
  count_unclipped e zero t c lw lt lc = absurd (let a = lw.least in omega arith)
  count_unclipped e (suc d) t c lw lt lc =
      let a = term_le n in_layer d lw.most in
      let b = term_le (2 ^ n / 2) (clipped_at code mode frame s (suc d)) t lt in
      exceeding_none cap (lowered_at code mode frame s (suc d) t).rest (le-zero (subst (λ (x : ℕ). clipped_at code mode frame s (suc d) t ≤ x) e (le_trans b a))) c lc

  -- and where no entry is clipped the count is 0
  unclipped_zero : Unclipped code mode frame → count code mode frame ≡ 0
  unfolding count clip_count in_layer clipped_at
  unclipped_zero u = sum_none n in_layer (λ d ld.
      sum_none (2 ^ n / 2) (clipped_at code mode frame s (suc d)) (λ t lt.
      none_exceeding cap (lowered_at code mode frame s (suc d) t).rest (λ c lc. u (suc d) t c (record { least = omega arith; most = ld }) lt lc)))

  -- so the count is 0 exactly where the frame is unclipped
  pub count_zero : CountZero code mode frame
  count_zero = record { zero_unclipped = count_unclipped; unclipped_zero = unclipped_zero }

  -- where 2^n times the largest penalty of the frame is within the cap, nothing is clipped
  pub unclipped_by : (most : ℕ) → TriesOne mode → Coefficients cs → EachZero n frame → EachAtMost n most frame → most * 2 ^ n ≤ cap → Unclipped code mode frame
  unclipped_by most one g z m hc = never_exceeds code mode frame s one g z most (symbols_word code mode frame) m hc

-- at Qm = 13 nothing is clipped
pub never_clipped : (code : Code) (candidates : ℕ) (frame : List ℕ) → NeverClipped code candidates frame
unfolding cap_of
never_clipped code candidates frame one hn g z m =
    unclipped_by code (mode_of 13 candidates) frame 31 one g z m (le_trans (mul-le-mul (le_refl 31) (pow_mono {i = code.n} {j = 8} hn)) (lit≤ tt))
