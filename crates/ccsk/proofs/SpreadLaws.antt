-- What it means that `spread` accepts its input.
use mathlib.Core.Path.{◌≡◌}
use mathlib.Core.List.{List}
use Prim.Native.Nat.{ℕ}
use borrow.Author.Tests.{ne_eqb, eqb-false}
use lib.Dec.{lit<}
use lib.ListN.{length}
use Rattle.refusal.specs.Table.{Numbered}
use Rattle.refusal.proofs.Laws.{accepted_none, none_accepted}
use Rattle.refusal.proofs.Within.{inside_within, within_inside, none_within, within_none, false_equal, equal_false}
use Rattle.ccsk.specs.Chips.{turned}
use Rattle.ccsk.specs.Spread.{spread_table, spread_refusal, Spreadable}

module _ (base : ℕ) (symbols buffer : List ℕ) where
  -- no row has the number 0
  numbered : Numbered (spread_table base symbols buffer)
  numbered = (lit< tt, (lit< tt, (lit< tt, (lit< tt, tt))))

  -- accepted exactly when no row fits
  pub accepted : spread_refusal base symbols buffer ≡ 0 → Spreadable base symbols buffer
  unfolding spread_refusal
  accepted e =
      let f = accepted_none (spread_table base symbols buffer) numbered e in
      record {
        count = inside_within 1 256 (length symbols) f.0;
        buffer_long = false_equal (length buffer) (length symbols) f.1.0;
        symbols_small = none_within 0 63 0 symbols f.1.1.0;
        base_turns = eqb-false (turned base 32) base f.1.1.1.0;
      }

  -- and the other way round
  pub accepts : Spreadable base symbols buffer → spread_refusal base symbols buffer ≡ 0
  unfolding spread_refusal
  accepts t =
      none_accepted (spread_table base symbols buffer) (
        within_inside 1 256 (length symbols) t.count,
        (
          equal_false (length buffer) (length symbols) t.buffer_long,
          (within_none 0 63 0 symbols t.symbols_small, (ne_eqb (turned base 32) base t.base_turns, tt)),
        ),
      )
