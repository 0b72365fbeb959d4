-- The table of worked rows holds, by computing every row from the definitions; the two claims on the premise come from the corollary.
use Rattle.std.proofs.Common.{Result, Ok, Bool, true}
use mathlib.Core.Path.{◌≡◌, refl, sym, ap₂, ◌∙◌}
use mathlib.Core.Bool.{false}
use mathlib.Core.List.{List, ◌++◌, map-append}
use Prim.Native.Nat.{ℕ}
use native.Mathlib.Omega.{arith}
use borrow.Author.Tests.{le-ltb}
use lib.Dec.{lit<, ltb}
use lib.ListN.{length, length-append}
use Rattle.refusal.specs.Table.{refusal_of}
use Rattle.refusal.specs.Tests.{outside, any_outside, any_to, unequal}
use Rattle.refusal.proofs.Laws.{row_fits, row_passed}
use Rattle.vector.specs.Vector.{tabulate, vector_at, joined, sum_to, least_to, least, less_least}
use Rattle.gf64.specs.Field.{◌⊕◌, ◌⊙◌, times_a, product_bits, low_six}
use Rattle.polar_code.specs.Code.{Code, kind_of, message_count, message_places}
use Rattle.polar.specs.Transform.{theta, phi, coefficient, at_kernel, at_kernels, at_layer, layer, layers, transform}
use Rattle.polar.specs.Encode.{symbol_at, rest_after, word_before, codeword_of}
use Rattle.polar.specs.Message.{with_place, message_of}
use Rattle.ccsk.specs.Chips.{chip, symbol_chip, turned, differing}
use Rattle.ccsk.specs.Spread.{numbers_of, spread_refusal}
use Rattle.demapper.specs.Samples.{hard_chip, is_lost, magnitude, added, raw, raw_llrs, quantised, quantised_llrs, llrs}
use Rattle.demapper.specs.Demap.{frame_of, demap_refusal}
use Rattle.demapper.specs.Noiseless.{sent_sample, sent_symbol, number_samples}
use Rattle.refusal.specs.declared.kinds.Refusal.{Refusal}
use Rattle.distances.specs.Distance.{shift_distance, least_distance, answered, base_refusal, distance_answer, least_answer}
use Rattle.distances.specs.Shifts.{near_shift, near_to, with_zeros, shifts_refusal, shifts_answer, shifts_buffer}
use Rattle.distances.specs.Premise.{premise_refusal, premise_fails, premise_answer, PremiseAnswered}
use Rattle.distances.proofs.PremiseLaws.{accepted_yes, accepted_no}
use Rattle.columns.specs.Columns.{digit, column, before, field, fields, line, lines}
use Rattle.columns.specs.Reading.{spelled_from, spelled, same, part, numbers, is_line}
use Rattle.sheet.specs.CodeSheet.{bad_line, number_on, numbers_on, sheet_refusal}
use Rattle.decoder_refusal.specs.Refusals.{no_zero}
use Rattle.writer.specs.CodeSheet.{sheet_of, sheet_write_refusal, sheet_buffer}
use Rattle.writer.specs.FrameLine.{line_write_refusal, line_buffer}
use Rattle.link.specs.Noiseless.{message_samples, message_frame, ChainInput, NoiselessPremise}
use Rattle.link.specs.Rows.{Row, product_rows, transform_rows, base_rows, gain_rows, lost_rows, distance_rows, link_rows, line_rows, written_rows, rows, first_line, sent_by, received_by, Worked}
use Rattle.link.proofs.DecoderRows.{Hold, decoder_low, decoder_high, sheet_hold, listing_hold, totals_of_four}
use Rattle.link.proofs.Noiseless.{corollary}

-- shift 1 of base 1 differs from shift 0 in two chips
two_chips : differing 1 0 1 ≡ 2
unfolding chip symbol_chip differing sum_to
two_chips = refl

-- so with amplitude 10 a gain of 1/40 is too small
fails : (code : Code) (message : List ℕ) (qm : ℕ) → ChainInput (sent_by code message) (received_by 40 qm)
    → NoiselessPremise (sent_by code message) (received_by 40 qm) → ⊥
fails code message qm h p =
    let far = (corollary (sent_by code message) (received_by 40 qm) h).holds_apart p 1 (record { least = omega arith; most = omega arith }) in
    let e = two_chips in
    absurd (omega arith)

-- and one of 1/20 is enough, as for every base
holds : (code : Code) (message : List ℕ) (qm : ℕ) → ChainInput (sent_by code message) (received_by 20 qm)
    → NoiselessPremise (sent_by code message) (received_by 20 qm)
holds code message qm h = (corollary (sent_by code message) (received_by 20 qm) h).any_base (lit< tt) (omega arith)

-- so `premise_holds` answers no for the one
answers_no : (answer : Result Bool Refusal) → PremiseAnswered 1 10 1 40 answer → answer ≡ Ok false
unfolding refusal_of outside least_to sum_to chip symbol_chip turned differing shift_distance least_distance premise_refusal premise_fails
answers_no answer p = accepted_no 1 10 1 40 answer p.answer_is refl refl

-- and yes for the other
answers_yes : (answer : Result Bool Refusal) → PremiseAnswered 1 10 1 20 answer → answer ≡ Ok true
unfolding refusal_of outside least_to sum_to chip symbol_chip turned differing shift_distance least_distance premise_refusal premise_fails
answers_yes answer p = accepted_yes 1 10 1 20 answer p.answer_is refl refl

-- five bytes and more
five : (line rest : List ℕ) → length line ≡ 5 → ltb (length (line ++ rest)) 5 ≡ false
five line rest e = le-ltb (length (line ++ rest)) 5 (let l = length-append line rest in omega arith)

-- a first line `   9`
nine : (rest frozen cs : List ℕ) → sheet_refusal (first_line 32 57 ++ rest) frozen cs ≡ 1
unfolding sheet_refusal bad_line number_on part is_line same line fields field before column digit numbers tabulate spelled spelled_from outside
nine rest frozen cs = row_passed 12 _ (five (first_line 32 57) rest refl) ∙ row_passed 12 _ refl ∙ row_fits 1 _ refl

-- a first line `  08`
zero_eight : (rest frozen cs : List ℕ) → sheet_refusal (first_line 48 56 ++ rest) frozen cs ≡ 12
unfolding sheet_refusal bad_line part is_line same line fields field before column digit numbers tabulate spelled spelled_from
zero_eight rest frozen cs = row_passed 12 _ (five (first_line 48 56) rest refl) ∙ row_fits 12 _ refl

-- two lists of rows, one after the other
join_hold : {xs ys : List Row} → Hold xs → Hold ys → Hold (xs ++ ys)
join_hold {xs} {ys} p q = record {
  same =
      map-append (λ (r : Row). r.given) xs ys ∙ ap₂ (λ (a b : List (List ℕ)). a ++ b) p.same q.same
      ∙ sym (map-append (λ (r : Row). r.expected) xs ys);
}

-- the rows on products, the transform, bases, gains and lost samples
first_hold : Hold product_rows × Hold transform_rows × Hold base_rows × Hold gain_rows × Hold lost_rows
unfolding ◌⊕◌ ◌⊙◌ times_a product_bits low_six theta phi coefficient at_kernel at_kernels at_layer layer layers transform refusal_of outside any_outside unequal tabulate joined sum_to least_to least less_least chip symbol_chip turned spread_refusal hard_chip is_lost magnitude added raw raw_llrs quantised quantised_llrs llrs vector_at frame_of demap_refusal
first_hold = (record { same = refl }, record { same = refl }, record { same = refl }, record { same = refl }, record { same = refl })

-- those on distances
distance_hold : Hold distance_rows
unfolding refusal_of outside unequal tabulate joined sum_to least_to chip symbol_chip turned differing shift_distance least_distance answered base_refusal distance_answer least_answer near_shift near_to with_zeros shifts_refusal shifts_answer shifts_buffer premise_refusal premise_fails premise_answer
distance_hold = record { same = refl }

-- those from end to end, on first lines and on what is written
last_hold : Hold link_rows × Hold line_rows × Hold written_rows
unfolding ◌⊕◌ ◌⊙◌ times_a product_bits low_six theta phi coefficient at_kernel at_kernels at_layer layer layers transform refusal_of outside any_outside unequal tabulate joined sum_to least_to least less_least chip symbol_chip turned hard_chip is_lost magnitude added raw raw_llrs quantised quantised_llrs llrs vector_at frame_of sent_sample sent_symbol kind_of symbol_at rest_after word_before codeword_of numbers_of with_place message_of number_samples message_samples message_frame bad_line number_on numbers_on part is_line same line fields field before column digit numbers spelled spelled_from any_to message_count message_places no_zero lines sheet_of sheet_write_refusal sheet_buffer line_write_refusal line_buffer
last_hold = (record { same = refl }, record { same = refl }, record { same = refl })

-- all rows
rows_hold : Hold rows
rows_hold =
    let f = first_hold in
    let l = last_hold in
    join_hold f.0 (join_hold f.1 (join_hold f.2 (join_hold f.3 (join_hold f.4
    (join_hold decoder_low (join_hold decoder_high (join_hold sheet_hold
    (join_hold l.0 (join_hold l.1 (join_hold l.2 listing_hold))))))))))

-- every row holds
pub worked : Worked
unfolding sent_sample sent_symbol tabulate chip symbol_chip
worked = record { rows_hold = rows_hold.same; distance_rows_hold = distance_hold.same; samples_sent = refl; premise_fails = fails; premise_holds = holds; answers_no = answers_no; answers_yes = answers_yes; nine_gives_1 = nine; zero_eight_gives_12 = zero_eight; totals_of_four = totals_of_four }
