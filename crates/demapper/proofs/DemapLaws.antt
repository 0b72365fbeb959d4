-- What it means that `demap` accepts its input, and what it then hands its part.
use mathlib.Core.Path.{◌≡◌}
use mathlib.Core.List.{List}
use Prim.Native.Nat.{ℕ, ◌/◌, ◌%◌}
use borrow.Author.Tests.{ne_eqb, eqb-false}
use lib.Dec.{lit<}
use lib.IntN.{ℤ}
use lib.ListN.{length}
use Rattle.refusal.specs.Table.{Numbered}
use Rattle.refusal.proofs.Laws.{accepted_none, none_accepted}
use Rattle.refusal.proofs.Within.{inside_within, within_inside, false_equal, equal_false}
use Rattle.ccsk.specs.Chips.{turned}
use Rattle.demapper.specs.Demap.{demap_table, demap_refusal, Demappable}
use Rattle.demapper.specs.Parts.{Symbols}

module _ (base top bottom qc : ℕ) (samples : List ℤ) (buffer : List ℕ) where
  -- no row has the number 0
  numbered : Numbered (demap_table base top bottom qc (length samples) buffer)
  numbered = (lit< tt, (lit< tt, (lit< tt, (lit< tt, (lit< tt, (lit< tt, (lit< tt, tt)))))))

  -- accepted exactly when no row fits
  pub accepted : demap_refusal base top bottom qc samples buffer ≡ 0 → Demappable base top bottom qc samples buffer
  unfolding demap_refusal
  accepted e =
      let f = accepted_none (demap_table base top bottom qc (length samples) buffer) numbered e in
      let g = f.1.1.1 in
      record {
        whole = false_equal (length samples % 64) 0 f.0;
        count = inside_within 1 256 (length samples / 64) f.1.0;
        buffer_long = false_equal (length buffer) (length samples) f.1.1.0;
        precision = inside_within 1 5 qc g.0;
        base_turns = eqb-false (turned base 32) base g.1.0;
        gain_top = inside_within 1 255 top g.1.1.0;
        gain_bottom = inside_within 1 255 bottom g.1.1.1.0;
      }

  -- and the other way round
  pub accepts : Demappable base top bottom qc samples buffer → demap_refusal base top bottom qc samples buffer ≡ 0
  unfolding demap_refusal
  accepts t =
      none_accepted (demap_table base top bottom qc (length samples) buffer) (
        equal_false (length samples % 64) 0 t.whole,
        (
          within_inside 1 256 (length samples / 64) t.count,
          (
            equal_false (length buffer) (length samples) t.buffer_long,
            (
              within_inside 1 5 qc t.precision,
              (
                ne_eqb (turned base 32) base t.base_turns,
                (within_inside 1 255 top t.gain_top, (within_inside 1 255 bottom t.gain_bottom, tt)),
              ),
            ),
          ),
        ),
      )

  -- what `write_llrs` is then given
  pub symbols : Demappable base top bottom qc samples buffer → Symbols top bottom qc samples buffer
  symbols t = record {
    whole = t.whole;
    room = t.buffer_long;
    scale = record { gain_top = t.gain_top; gain_bottom = t.gain_bottom; precision = t.precision };
  }
