-- What it means that `write_frame_line` accepts penalties.
use mathlib.Core.Path.{◌≡◌, sym, ap, ◌∙◌}
use mathlib.Core.List.{List, [], ◌∷◌}
use Prim.Native.Nat.{ℕ, ◌/◌}
use lib.ListN.{length}
use Rattle.refusal.specs.Table.{refusal_of, NoneFits}
use Rattle.refusal.specs.Rows.{length_row}
use Rattle.refusal.proofs.Laws.{accepted_none, when_accepted, when_refused}
use Rattle.refusal.proofs.Laws.{numbered, same_after}
use Rattle.refusal.proofs.Within.{false_equal}
use Rattle.columns.specs.Columns.{line}
use Rattle.decoder_refusal.specs.Refusals.{above_row, zeros_row, penalty_table}
use Rattle.writer.specs.FrameLine.{line_write_table, line_write_refusal, line_buffer, LineWritten}
use Rattle.writer.specs.Parts.{LineRoom}

module _ (llrs out : List ℕ) where
  -- the rows as `line_refusal` tries them: with as many vectors as the penalties have
  pub line_tried : {r : ℕ}
      → r ≡ refusal_of (length_row (length llrs) 64 ∷ length_row (length out) 257 ∷ penalty_table 31 llrs)
      → r ≡ line_write_refusal llrs out
  unfolding line_write_refusal
  line_tried e =
      e ∙ same_after (length_row (length llrs) 64 ∷ length_row (length out) 257 ∷ []) (penalty_table 31 llrs)
      (above_row 31 llrs ∷ zeros_row 1 llrs ∷ []) (λ none.
      let long = false_equal (length llrs) 64 none.0 in
      ap (λ (k : ℕ). refusal_of (above_row 31 llrs ∷ zeros_row (k / 64) llrs ∷ [])) long)

  -- none of them fits what is accepted
  pub none_fits : line_write_refusal llrs out ≡ 0 → NoneFits (line_write_table llrs out)
  unfolding line_write_refusal
  none_fits e = accepted_none (line_write_table llrs out) (numbered (line_write_table llrs out) tt) e

  -- so there are 64 penalties, and room for just their line
  pub accepted : line_write_refusal llrs out ≡ 0 → LineRoom llrs out
  accepted e =
      let rows = none_fits e in
      record {
        llrs_long = false_equal (length llrs) 64 rows.0;
        out_long = false_equal (length out) 257 rows.1.0;
      }

  -- what a call that was refused leaves, and one that was accepted
  pub line_refused : {r : ℕ} → r ≡ line_write_refusal llrs out → (r ≡ 0 → ⊥) → LineWritten llrs out out r
  unfolding line_buffer
  line_refused e h = record { answer = e; bytes_are = sym (when_refused _ (line 4 llrs) out (λ z. h (e ∙ z))) }

  pub line_accepted : {after : List ℕ} → line_write_refusal llrs out ≡ 0 → after ≡ line 4 llrs
      → LineWritten llrs out after 0
  unfolding line_buffer
  line_accepted e is = record { answer = sym e; bytes_are = is ∙ sym (when_accepted _ (line 4 llrs) out e) }

  -- what an accepted call wrote
  pub line_left : {after : List ℕ} {r : ℕ} → LineWritten llrs out after r → line_write_refusal llrs out ≡ 0
      → after ≡ line 4 llrs
  unfolding line_buffer
  line_left done e = done.bytes_are ∙ when_accepted _ (line 4 llrs) out e
