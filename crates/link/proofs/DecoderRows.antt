-- The worked rows on what the decoder gives hold. They have m = 64, so each is computed from the answer by halves with
-- full check nodes.
use mathlib.Core.Path.{◌≡◌, refl, ap₂, ◌∙◌}
use mathlib.Core.List.{List, [], ◌∷◌, ◌++◌, map}
use Prim.Native.Nat.{ℕ}
use lib.Dec.{lit<}
use lib.ListN.{get_or, set, replicate}
use Rattle.vector.specs.Vector.{tabulate, vector_at, joined, sum_to, least_to, least, less_least}
use Rattle.refusal.specs.Table.{refusal_of}
use Rattle.refusal.specs.Tests.{outside, any_outside, any_to, unequal}
use Rattle.gf64.specs.Field.{◌⊕◌, ◌⊙◌, times_a, product_bits, low_six}
use Rattle.polar_code.specs.Code.{kind_of, message_count, message_places}
use Rattle.polar.specs.Tree.{tree_of, leaves, map1, map2, map3, map4, tree_sum}
use Rattle.polar.specs.Halves.{join, coefs_at}
use Rattle.scms.specs.Mode.{Mode, cap_of, mode_of, all_candidates, Full}
use Rattle.scms.specs.Nodes.{ordered, check_from, check_node, sums_from, sums, less_from, subtract_least, clipped, exceeding, lowered, variable_node, clipped_entries}
use Rattle.scms.specs.Decision.{smallest_to, smallest, decision}
use Rattle.scms.specs.Decoder.{held, symbols, report, totals, count}
use Rattle.scms.specs.Halves.{BlockAnswer, check_nodes_by, variable_nodes, clipped_nodes, taken_nodes, decode_tree_by, frame_tree}
use Rattle.scms.proofs.FullNodes.{full_halves, full_symbols, full_held, full_report, full_totals, full_count}
use Rattle.columns.specs.Columns.{digit, column, before, field, fields, line, lines}
use Rattle.columns.specs.Reading.{spelled_from, spelled, same, part, numbers, is_line}
use Rattle.sheet.specs.CodeSheet.{bad_line, number_on, numbers_on, sheet_layers, sheet_map, sheet_coefs, sheet_refusal}
use Rattle.writer.specs.CodeSheet.{sheet_of}
use Rattle.listing.specs.Listing.{held_for, other_value, least_other, place_line, number_line}
use Rattle.link.specs.Rows.{Row, zero_at, worked_code, decoder_rows, four_code, four_frame, sheet_rows, worked_sheet, listing_rows}

-- the two sides of each row are the same
pub record Hold (rows : List Row) : Type 0 where
  pub same : map (λ (r : Row). r.given) rows ≡ map (λ (r : Row). r.expected) rows

-- ---- what the answers with full check nodes are, computed

-- those of N = 2
module _ (coef cap : ℕ) (frame : List ℕ) where
  -- the answer
  abbrev answer : BlockAnswer 1
  answer = full_halves (worked_code coef) cap frame

  -- what a row needs of it: the symbols, the two vectors held, the totals and the count
  pub record Gives (ss first second ts : List ℕ) (clips : ℕ) : Type 0 where
    pub symbols_are : leaves 1 answer.symbols ≡ ss
    pub first_is : get_or (leaves 1 answer.held) 0 [] ≡ first
    pub second_is : get_or (leaves 1 answer.held) 1 [] ≡ second
    pub totals_are : leaves 1 answer.taken ≡ ts
    pub count_is : answer.count ≡ clips

-- what is held at place 1 in the first of the frames below
abbrev at_four_and_five : List ℕ
at_four_and_five = set (set (replicate 64 1) 4 0) 5 0

-- the frame of the rows on coefficient 1
abbrev one_frame : List ℕ
one_frame = zero_at 5 1 ++ zero_at 4 1

-- at Qm = 1
one_low : Gives 1 (cap_of 1) one_frame (0 ∷ 4 ∷ []) (zero_at 1 1) at_four_and_five (0 ∷ 1 ∷ []) 0
unfolding ◌⊕◌ ◌⊙◌ times_a product_bits low_six tabulate sum_to least_to least less_least vector_at kind_of ordered check_from check_node sums_from sums less_from subtract_least clipped exceeding lowered variable_node clipped_entries smallest_to smallest decision cap_of full_halves decode_tree_by frame_tree tree_of leaves map1 map2 map3 map4 tree_sum check_nodes_by variable_nodes clipped_nodes taken_nodes coefs_at join
one_low = record { symbols_are = refl; first_is = refl; second_is = refl; totals_are = refl; count_is = refl }

-- and at Qm = 13
one_high : Gives 1 (cap_of 13) one_frame (0 ∷ 4 ∷ []) (zero_at 1 1) at_four_and_five (0 ∷ 1 ∷ []) 0
unfolding ◌⊕◌ ◌⊙◌ times_a product_bits low_six tabulate sum_to least_to least less_least vector_at kind_of ordered check_from check_node sums_from sums less_from subtract_least clipped exceeding lowered variable_node clipped_entries smallest_to smallest decision cap_of full_halves decode_tree_by frame_tree tree_of leaves map1 map2 map3 map4 tree_sum check_nodes_by variable_nodes clipped_nodes taken_nodes coefs_at join
one_high = record { symbols_are = refl; first_is = refl; second_is = refl; totals_are = refl; count_is = refl }

-- the frame of the sheet's rows
abbrev sheet_frame : List ℕ
sheet_frame = zero_at 33 3 ++ zero_at 1 3

-- at Qm = 13
sheet_high : Gives 2 (cap_of 13) sheet_frame (0 ∷ 33 ∷ []) (zero_at 0 3) (zero_at 33 6) (0 ∷ 0 ∷ []) 0
unfolding ◌⊕◌ ◌⊙◌ times_a product_bits low_six tabulate sum_to least_to least less_least vector_at kind_of ordered check_from check_node sums_from sums less_from subtract_least clipped exceeding lowered variable_node clipped_entries smallest_to smallest decision cap_of full_halves decode_tree_by frame_tree tree_of leaves map1 map2 map3 map4 tree_sum check_nodes_by variable_nodes clipped_nodes taken_nodes coefs_at join
sheet_high = record { symbols_are = refl; first_is = refl; second_is = refl; totals_are = refl; count_is = refl }

-- and at Qm = 2
sheet_low : Gives 2 (cap_of 2) sheet_frame (0 ∷ 33 ∷ []) (zero_at 0 3) (zero_at 33 3) (0 ∷ 0 ∷ []) 63
unfolding ◌⊕◌ ◌⊙◌ times_a product_bits low_six tabulate sum_to least_to least less_least vector_at kind_of ordered check_from check_node sums_from sums less_from subtract_least clipped exceeding lowered variable_node clipped_entries smallest_to smallest decision cap_of full_halves decode_tree_by frame_tree tree_of leaves map1 map2 map3 map4 tree_sum check_nodes_by variable_nodes clipped_nodes taken_nodes coefs_at join
sheet_low = record { symbols_are = refl; first_is = refl; second_is = refl; totals_are = refl; count_is = refl }

-- ---- so the decoder's definitions give the same
module _ {coef : ℕ} {mode : Mode} {frame ss first second ts : List ℕ} {clips : ℕ} (full : Full mode)
    (g : Gives coef mode.cap frame ss first second ts clips) where
  -- the symbols
  symbols_so : symbols (worked_code coef) mode frame ≡ ss
  symbols_so = full_symbols (worked_code coef) mode frame full ∙ g.symbols_are

  -- what is held at place 0
  first_so : held (worked_code coef) mode frame 0 ≡ first
  first_so = full_held (worked_code coef) mode frame full 0 (lit< tt) ∙ g.first_is

  -- what is held at place 1
  second_so : held (worked_code coef) mode frame 1 ≡ second
  second_so = full_held (worked_code coef) mode frame full 1 (lit< tt) ∙ g.second_is

  -- the report
  report_so : report (worked_code coef) mode frame ≡ first ++ second
  unfolding joined
  report_so = full_report (worked_code coef) mode frame full ∙ ap₂ (λ (v w : List ℕ). v ++ w) g.first_is g.second_is

  -- the totals
  totals_so : totals (worked_code coef) mode frame ≡ ts
  totals_so = full_totals (worked_code coef) mode frame full ∙ g.totals_are

  -- the count
  count_so : count (worked_code coef) mode frame ≡ clips
  count_so = full_count (worked_code coef) mode frame full ∙ g.count_is

-- the rows on coefficient 1, with what they need computed
decoder_by : (mode : Mode) → Full mode → Gives 1 mode.cap one_frame (0 ∷ 4 ∷ []) (zero_at 1 1) at_four_and_five (0 ∷ 1 ∷ []) 0 → Hold (decoder_rows mode)
unfolding tabulate
decoder_by mode full g = record {
  same = λ i.
      symbols_so full g i ∷ (get_or (first_so full g i) (get_or (symbols_so full g i) 0 0) 0 ∷ []) ∷ second_so full g i ∷ totals_so full g i ∷ [];
}

-- at Qm = 1
pub decoder_low : Hold (decoder_rows (mode_of 1 all_candidates))
decoder_low = decoder_by (mode_of 1 all_candidates) refl one_low

-- and at Qm = 13
pub decoder_high : Hold (decoder_rows (mode_of 13 all_candidates))
decoder_high = decoder_by (mode_of 13 all_candidates) refl one_high

-- the modes of the sheet's rows
abbrev high : Mode
high = mode_of 13 all_candidates

abbrev low : Mode
low = mode_of 2 all_candidates

-- the rows of the sheet
pub sheet_hold : Hold sheet_rows
sheet_hold = record {
  same = λ i.
      symbols_so {mode = high} refl sheet_high i ∷ report_so {mode = high} refl sheet_high i ∷ totals_so {mode = high} refl sheet_high i
      ∷ (count_so {mode = high} refl sheet_high i ∷ [])
      ∷ symbols_so {mode = low} refl sheet_low i ∷ report_so {mode = low} refl sheet_low i ∷ totals_so {mode = low} refl sheet_low i
      ∷ (count_so {mode = low} refl sheet_low i ∷ []) ∷ [];
}

-- the left sides of the rows on the program's output, from what is held and counted
abbrev listed : (first second : List ℕ) (clips : ℕ) → List (List ℕ)
listed first second clips =
    (sheet_refusal worked_sheet (0 ∷ 0 ∷ []) (0 ∷ []) ∷ sheet_layers worked_sheet ∷ []) ∷ sheet_map worked_sheet ∷ sheet_coefs worked_sheet
    ∷ place_line 0 0 first ∷ place_line 1 33 second ∷ number_line clips ∷ []

-- with the numbers known they are computed
listing_computed : listed (zero_at 0 3) (zero_at 33 6) 0 ≡ map (λ (r : Row). r.expected) listing_rows
unfolding refusal_of outside any_outside unequal tabulate sum_to least_to sheet_refusal sheet_map sheet_coefs bad_line number_on numbers_on part is_line same line fields field before column digit numbers spelled spelled_from message_count message_places place_line number_line held_for other_value least_other lines sheet_of kind_of joined any_to
listing_computed = refl

-- the rows on the program's output
pub listing_hold : Hold listing_rows
listing_hold = record {
  same =
      (λ i. listed (first_so {mode = high} refl sheet_high i) (second_so {mode = high} refl sheet_high i) (count_so {mode = high} refl sheet_high i))
      ∙ listing_computed;
}

-- ---- N = 4: the totals
pub totals_of_four : totals four_code (mode_of 13 all_candidates) four_frame ≡ 0 ∷ 1 ∷ 3 ∷ 6 ∷ []
unfolding ◌⊕◌ ◌⊙◌ times_a product_bits low_six tabulate sum_to least_to least less_least vector_at kind_of ordered check_from check_node sums_from sums less_from subtract_least clipped exceeding lowered variable_node clipped_entries smallest_to smallest decision cap_of full_halves decode_tree_by frame_tree tree_of leaves map1 map2 map3 map4 tree_sum check_nodes_by variable_nodes clipped_nodes taken_nodes coefs_at join
totals_of_four = full_totals four_code (mode_of 13 all_candidates) four_frame refl ∙ computed
  where
    computed : leaves 2 (full_halves four_code (cap_of 13) four_frame).taken ≡ 0 ∷ 1 ∷ 3 ∷ 6 ∷ []
    computed = refl
