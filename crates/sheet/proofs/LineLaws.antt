-- The laws of one line of a frame file.
use mathlib.Core.Path.{◌≡◌, sym, ◌∙◌}
use mathlib.Core.List.{List}
use Prim.Native.Nat.{ℕ}
use lib.Dec.{lit<}
use lib.ListN.{length}
use Rattle.refusal.specs.Table.{refusal_of, Numbered}
use Rattle.refusal.proofs.Laws.{when_accepted, when_refused}
use Rattle.vector.proofs.Laws.{length_tabulate}
use Rattle.columns.specs.Reading.{spelled, part, numbers}
use Rattle.sheet.specs.FrameLine.{line_llrs, line_table, line_refusal, line_output, LineRead}

module _ (bytes llrs : List ℕ) where
  -- no row has the number 0
  pub line_numbered : Numbered (line_table bytes llrs)
  line_numbered = (lit< tt, (lit< tt, tt))

  -- a line that is refused
  pub line_refused : {r : ℕ} → refusal_of (line_table bytes llrs) ≡ r → (r ≡ 0 → ⊥) → LineRead bytes llrs llrs r
  unfolding line_refusal line_output
  line_refused e h =
      record { answer = sym e; llrs_are = sym (when_refused (line_refusal bytes llrs) (line_llrs bytes) llrs (λ q. h (sym e ∙ q))) }

  -- a line that is accepted
  pub line_accepted : {after : List ℕ} → refusal_of (line_table bytes llrs) ≡ 0 → after ≡ line_llrs bytes → LineRead bytes llrs after 0
  unfolding line_refusal line_output
  line_accepted e q =
      record { answer = sym e; llrs_are = q ∙ sym (when_accepted (line_refusal bytes llrs) (line_llrs bytes) llrs e) }

  -- what is left of it then
  pub output_accepted : line_refusal bytes llrs ≡ 0 → line_output bytes llrs ≡ line_llrs bytes
  unfolding line_output
  output_accepted e = when_accepted (line_refusal bytes llrs) (line_llrs bytes) llrs e

  -- it has 64 numbers
  pub length_llrs : length (line_llrs bytes) ≡ 64
  unfolding line_llrs numbers
  length_llrs = length_tabulate 64 (λ i. spelled (part 4 i bytes))
