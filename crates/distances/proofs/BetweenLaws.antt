-- The distance between two symbols, on the numbers that `spread` writes for them.
use mathlib.Core.Path.{◌≡◌, sym, ap, ap₂, ◌∙◌}
use mathlib.Core.List.{List}
use Prim.Native.Nat.{ℕ, ◌<◌}
use native.Mathlib.Omega.{arith}
use lib.ListN.{length, get_or}
use Rattle.refusal.proofs.Laws.{when_accepted}
use Rattle.vector.proofs.Laws.{tabulate_map, get_d_tabulate}
use Rattle.ccsk.specs.Chips.{turned, shift}
use Rattle.ccsk.specs.Spread.{numbers_of, spread_buffer, Spread}
use Rattle.ccsk.proofs.SpreadLaws.{accepted}
use Rattle.ccsk.proofs.DistanceLaws.{by_shift}
use Rattle.distances.specs.Distance.{shift_distance}
use Rattle.distances.specs.Between.{chips_apart, apart, difference, BetweenSymbols}
use Rattle.distances.proofs.DistanceLaws.{turned_apart, distance_below}

module _ (base : ℕ) (symbols before numbers : List ℕ) (written : Spread base symbols before numbers 0) where
  -- number i is the base turned by symbol i
  number : (i : ℕ) → i < length symbols → get_or numbers i 0 ≡ turned base (get_or symbols i 0)
  unfolding spread_buffer numbers_of
  number i l =
      let numbers_are = written.numbers ∙ when_accepted _ _ _ (sym written.answer) in
      ap (λ (ns : List ℕ). get_or ns i 0) (numbers_are ∙ sym (tabulate_map 0 (turned base) symbols))
      ∙ get_d_tabulate 0 (length symbols) (λ j. turned base (get_or symbols j 0)) i l

  -- symbol i is below 64
  symbol : (i : ℕ) → i < length symbols → get_or symbols i 0 < 64
  symbol i l = let m = ((accepted base symbols before (sym written.answer)).symbols_small i l).most in omega arith

  -- two numbers differ in as many chips as the difference of their symbols has for its distance
  by_difference : (i j : ℕ) → i < length symbols → j < length symbols
      → apart base symbols before numbers i j ≡ shift_distance base (difference base symbols before numbers i j)
  unfolding shift
  by_difference i j li lj =
      let s = get_or symbols i 0 in
      let t = get_or symbols j 0 in
      ap₂ chips_apart (number i li) (number j lj) ∙ turned_apart base s t
      ∙ by_shift base s t (symbol i li) (symbol j lj) ∙ sym (distance_below base (shift s t) (omega arith))

-- the distance between any two symbols depends only on their difference mod 64
pub between : (base : ℕ) (symbols before numbers : List ℕ) → BetweenSymbols base symbols before numbers
between base symbols before numbers = record {
  by_difference = by_difference base symbols before numbers;
  same_difference = λ w i j k l li lj lk ll e.
      by_difference base symbols before numbers w i j li lj ∙ ap (shift_distance base) e
      ∙ sym (by_difference base symbols before numbers w k l lk ll);
}
