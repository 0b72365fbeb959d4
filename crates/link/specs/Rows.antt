-- Document 01, 'Frames worked by hand': the rows that are proved, each as what the definitions give and what the paper
-- says.
use Rattle.std.specs.Prelude.{Result, Ok, Bool, true, false, ℕ, ◌+◌, ◌-◌, ◌^◌, ◌≡◌, List, [], ◌∷◌, ◌++◌, map, ℤ, pos, neg_ℤ, get_or, take, set, replicate}
use Rattle.refusal.specs.Table.{refusal_of}
use Rattle.refusal.specs.Returned.{Returned}
use Rattle.vector.specs.Vector.{tabulate, joined}
use Rattle.gf64.specs.Field.{◌⊙◌}
use Rattle.polar_code.specs.Code.{Code, code_of}
use Rattle.polar.specs.Transform.{transform}
use Rattle.polar.specs.Encode.{codeword_of}
use Rattle.polar.specs.Message.{message_of}
use Rattle.ccsk.specs.Chips.{symbol_chip, turned}
use Rattle.ccsk.specs.Spread.{spread_refusal}
use Rattle.demapper.specs.Samples.{lost}
use Rattle.demapper.specs.Demap.{frame_of, demap_refusal}
use Rattle.demapper.specs.Noiseless.{sent_symbol}
use Rattle.refusal.specs.declared.kinds.Refusal.{Refusal}
use Rattle.distances.specs.Distance.{shift_distance, distance_answer, least_answer}
use Rattle.distances.specs.Shifts.{shifts_answer, shifts_buffer}
use Rattle.distances.specs.Premise.{premise_answer, PremiseAnswered}
use Rattle.scms.specs.Mode.{Mode, mode_of, all_candidates}
use Rattle.scms.specs.Decoder.{held, symbols, report, totals, count}
use Rattle.decoder_refusal.specs.Refusals.{settings_of}
use Rattle.sheet.specs.CodeSheet.{sheet_layers, sheet_map, sheet_coefs, form_table, sheet_refusal}
use Rattle.writer.specs.CodeSheet.{sheet_of, sheet_buffer}
use Rattle.writer.specs.FrameLine.{line_buffer}
use Rattle.listing.specs.Listing.{place_line, number_line}
use Rattle.link.specs.Noiseless.{Transmission, Reception, message_frame, ChainInput, NoiselessPremise}

-- samples +10 except chip 0 at −10
abbrev pub worked_samples : List ℤ
worked_samples = neg_ℤ (pos 10) ∷ replicate 63 (pos 10)

-- a worked row
pub record Row : Type 0 where
  pub given : List ℕ
  pub expected : List ℕ

-- 2 ⊙ 32 = 3, 2 ⊙ 33 = 1, 32 ⊙ 32 = 48, 63 ⊙ 63 = 42
abbrev pub product_rows : List Row
product_rows =
    record { given = 2 ⊙ 32 ∷ []; expected = 3 ∷ [] }
    ∷ record { given = 2 ⊙ 33 ∷ []; expected = 1 ∷ [] }
    ∷ record { given = 32 ⊙ 32 ∷ []; expected = 48 ∷ [] }
    ∷ record { given = 63 ⊙ 63 ∷ []; expected = 42 ∷ [] }
    ∷ []

-- N = 4, all coefficients 1: (0, 1, 2, 3) becomes (0, 2, 1, 3); layer 1 coefficients 2, 1, layer 2 both 1: (0, 0, 0, 7)
-- becomes (7, 7, 14, 7)
abbrev pub transform_rows : List Row
transform_rows =
    record { given = transform 2 (1 ∷ 1 ∷ 1 ∷ 1 ∷ []) (0 ∷ 1 ∷ 2 ∷ 3 ∷ []); expected = 0 ∷ 2 ∷ 1 ∷ 3 ∷ [] }
    ∷ record { given = transform 2 (2 ∷ 1 ∷ 1 ∷ 1 ∷ []) (0 ∷ 0 ∷ 0 ∷ 7 ∷ []); expected = 7 ∷ 7 ∷ 14 ∷ 7 ∷ [] }
    ∷ []

-- base 1: symbol 1 has only chip 63 set; base 2^32 + 1 is refused by 10, by `spread` and by `demap`
abbrev pub base_rows : List Row
base_rows =
    record { given = tabulate 64 (symbol_chip 1 1); expected = replicate 63 0 ++ (1 ∷ []) }
    ∷ record { given = turned 1 1 ∷ []; expected = 2 ^ 63 ∷ [] }
    ∷ record { given = spread_refusal (2 ^ 32 + 1) (1 ∷ []) (0 ∷ []) ∷ []; expected = 10 ∷ [] }
    ∷ record { given = demap_refusal (2 ^ 32 + 1) 1 4 3 worked_samples (replicate 64 0) ∷ []; expected = 10 ∷ [] }
    ∷ []

-- base 1, samples +10 except chip 0 at −10, Qc 3: gain 1/4 gives 0 for symbol 0 and 5 for all others; 1/40 gives 0 for
-- all; 1/20 gives 1
abbrev pub gain_rows : List Row
gain_rows =
    record { given = frame_of 1 1 4 3 worked_samples; expected = 0 ∷ replicate 63 5 }
    ∷ record { given = frame_of 1 1 40 3 worked_samples; expected = replicate 64 0 }
    ∷ record { given = frame_of 1 1 20 3 worked_samples; expected = 0 ∷ replicate 63 1 }
    ∷ []

-- the same samples with chip 0 lost: gain 1/4 gives 0 for symbol 0 and 2 for all others; all 64 samples lost: 0 for all
abbrev pub lost_rows : List Row
lost_rows =
    record { given = frame_of 1 1 4 3 (lost ∷ replicate 63 (pos 10)); expected = 0 ∷ replicate 63 2 }
    ∷ record { given = frame_of 1 1 4 3 (replicate 64 lost); expected = replicate 64 0 }
    ∷ []

-- an answer as a list: its number, and its values
abbrev pub number_and_values : Returned → List ℕ
number_and_values r = r.number ∷ r.values

-- a base whose upper 32 chips are the complement of its lower ones, which are all 1
abbrev pub complement_base : ℕ
complement_base = 2 ^ 32 - 1

-- base 1: every distance is 2, so none is within 1 chip. The other base: distance 64 at shift 32 and so at shift 96, 0
-- at shift 64; the least is 2; within 4 chips are 1, 2, 62 and 63. Base 2^32 + 1 is refused by 10. With base 1 and
-- amplitude 10 the premise holds for gain 1/20 and fails for 1/40; with amplitude 128 the answer is no, whatever the
-- gain
abbrev pub distance_rows : List Row
distance_rows =
    record { given = tabulate 63 (λ i. shift_distance 1 (i + 1)); expected = replicate 63 2 }
    ∷ record { given = number_and_values (least_answer 1); expected = 0 ∷ 2 ∷ [] }
    ∷ record { given = number_and_values (shifts_answer 1 (replicate 63 255) 1); expected = 0 ∷ 0 ∷ [] }
    ∷ record { given = shifts_buffer 1 (replicate 63 255) 1; expected = replicate 63 0 }
    ∷ record {
      given = map (shift_distance complement_base) (31 ∷ 32 ∷ 33 ∷ 64 ∷ 96 ∷ []);
      expected = 62 ∷ 64 ∷ 62 ∷ 0 ∷ 64 ∷ [];
    }
    ∷ record { given = number_and_values (distance_answer complement_base 32); expected = 0 ∷ 64 ∷ [] }
    ∷ record { given = number_and_values (least_answer complement_base); expected = 0 ∷ 2 ∷ [] }
    ∷ record { given = number_and_values (shifts_answer complement_base (replicate 63 255) 4); expected = 0 ∷ 4 ∷ [] }
    ∷ record {
      given = shifts_buffer complement_base (replicate 63 255) 4;
      expected = 1 ∷ 2 ∷ 62 ∷ 63 ∷ replicate 59 0;
    }
    ∷ record { given = number_and_values (distance_answer (2 ^ 32 + 1) 1); expected = 10 ∷ [] }
    ∷ record { given = number_and_values (premise_answer 1 10 1 40); expected = 0 ∷ 0 ∷ [] }
    ∷ record { given = number_and_values (premise_answer 1 10 1 20); expected = 0 ∷ 1 ∷ [] }
    ∷ record { given = number_and_values (premise_answer 1 128 255 1); expected = 0 ∷ 0 ∷ [] }
    ∷ []

-- a vector that is 0 at s and has this penalty at every other value
abbrev pub zero_at : (s llr : ℕ) → List ℕ
zero_at s llr = set (replicate 64 llr) s 0

-- the penalty held for the symbol that place i gets
abbrev pub held_for : Code → Mode → (frame : List ℕ) → ℕ → ℕ
held_for code mode frame i = get_or (held code mode frame i) (get_or (symbols code mode frame) i 0) 0

-- the code of the rows below: N = 2, place 0 frozen, and this coefficient
abbrev pub worked_code : (coef : ℕ) → Code
worked_code coef = code_of 1 (1 ∷ 0 ∷ []) (coef ∷ [])

-- N = 2, coefficient 1, place 0 frozen; first vector 0 at 5, else 1; second 0 at 4, else 1 (the caps of Qm = 1 and of
-- Qm = 13). Place 0 is 0 with penalty 1 held; place 1 has 0 at 4 and 5, 1 elsewhere, and is 4. No word with 0 in place
-- 0 has a total below 1
abbrev pub decoder_rows : Mode → List Row
decoder_rows mode =
    let frame = zero_at 5 1 ++ zero_at 4 1 in
    record { given = symbols (worked_code 1) mode frame; expected = 0 ∷ 4 ∷ [] }
    ∷ record { given = held_for (worked_code 1) mode frame 0 ∷ []; expected = 1 ∷ [] }
    ∷ record { given = held (worked_code 1) mode frame 1; expected = set (set (replicate 64 1) 4 0) 5 0 }
    ∷ record { given = totals (worked_code 1) mode frame; expected = 0 ∷ 1 ∷ [] }
    ∷ []

-- N = 4, all coefficients 1, places 0 to 2 frozen
abbrev pub four_code : Code
four_code = code_of 2 (1 ∷ 1 ∷ 1 ∷ 0 ∷ []) (1 ∷ 1 ∷ 1 ∷ 1 ∷ [])

-- four vectors that are 0 at 1, 2, 4 and 8, else 1, 2, 3 and 4
abbrev pub four_frame : List ℕ
four_frame = zero_at 1 1 ++ (zero_at 2 2 ++ (zero_at 4 3 ++ zero_at 8 4))

-- the sheet 1, 1, 0, 2 (n = 1, place 0 frozen, coefficient 2); first vector 0 at 33, else 3; second 0 at 1, else 3. The
-- symbols are 0 and 33. At Qm = 13, for each place the penalty held for its symbol and that held for every other value
-- are 0 and 3, 0 and 6, and the count is 0. With Qc = Qm = 2 the 6 becomes 3 and the count is 63. Nothing is taken off
abbrev pub sheet_rows : List Row
sheet_rows =
    let frame = zero_at 33 3 ++ zero_at 1 3 in
    record { given = symbols (worked_code 2) (mode_of 13 all_candidates) frame; expected = 0 ∷ 33 ∷ [] }
    ∷ record { given = report (worked_code 2) (mode_of 13 all_candidates) frame; expected = zero_at 0 3 ++ zero_at 33 6 }
    ∷ record { given = totals (worked_code 2) (mode_of 13 all_candidates) frame; expected = 0 ∷ 0 ∷ [] }
    ∷ record { given = count (worked_code 2) (mode_of 13 all_candidates) frame ∷ []; expected = 0 ∷ [] }
    ∷ record { given = symbols (worked_code 2) (mode_of 2 all_candidates) frame; expected = 0 ∷ 33 ∷ [] }
    ∷ record { given = report (worked_code 2) (mode_of 2 all_candidates) frame; expected = zero_at 0 3 ++ zero_at 33 3 }
    ∷ record { given = totals (worked_code 2) (mode_of 2 all_candidates) frame; expected = 0 ∷ 0 ∷ [] }
    ∷ record { given = count (worked_code 2) (mode_of 2 all_candidates) frame ∷ []; expected = 63 ∷ [] }
    ∷ []

-- what is sent for the message 33 by that code with base 1 and amplitude 10
abbrev pub worked_transmission : Transmission
worked_transmission = record { code = worked_code 2; message = 33 ∷ []; base = 1; amplitude = 10 }

-- it is received with gain 3/20 at these precisions
abbrev pub worked_reception : (qc qm : ℕ) → Reception
worked_reception qc qm = record { top = 3; bottom = 20; settings = settings_of qc qm all_candidates }

-- from end to end: the frame of that sheet is weighed from what is sent, at Qc = 5 and at Qc = 2, and the message is
-- read from the symbols decided, 0 and 33
abbrev pub link_rows : List Row
link_rows =
    record { given = codeword_of (worked_code 2) (33 ∷ []); expected = 33 ∷ 1 ∷ [] }
    ∷ record { given = message_frame worked_transmission (worked_reception 5 13); expected = zero_at 33 3 ++ zero_at 1 3 }
    ∷ record { given = message_frame worked_transmission (worked_reception 2 2); expected = zero_at 33 3 ++ zero_at 1 3 }
    ∷ record { given = message_of (1 ∷ 0 ∷ []) (0 ∷ 33 ∷ []); expected = 33 ∷ [] }
    ∷ []

-- the bytes of a first sheet line whose four columns end in these two: `   8`, `   9`, `  08`
abbrev pub first_line : (third fourth : ℕ) → List ℕ
first_line third fourth = 32 ∷ 32 ∷ third ∷ fourth ∷ 10 ∷ []

-- the rows of the sheet reader on the first line: fewer than 5 bytes, a bad line, n outside 1 to 8
abbrev pub first_refusal : List ℕ → ℕ
first_refusal bytes = refusal_of (take 3 (form_table bytes))

-- a first sheet line `   8` is accepted, `   9` gives 1, `  08` gives 12
abbrev pub line_rows : List Row
line_rows =
    record { given = first_refusal (first_line 32 56) ∷ sheet_layers (first_line 32 56) ∷ []; expected = 0 ∷ 8 ∷ [] }
    ∷ record { given = first_refusal (first_line 32 57) ∷ []; expected = 1 ∷ [] }
    ∷ record { given = first_refusal (first_line 48 56) ∷ []; expected = 12 ∷ [] }
    ∷ []

-- the sheet `   1`, `   1`, `   0`, `   2` as it is written for that code
abbrev pub worked_sheet : List ℕ
worked_sheet = sheet_of (worked_code 2)

-- a digit in four columns, by its byte
abbrev pub digit_field : ℕ → List ℕ
digit_field byte = 32 ∷ 32 ∷ 32 ∷ byte ∷ []

-- the bytes of a line of 64 penalties: so many times 3, one 0, and so many times 3
abbrev pub threes : (front rest : ℕ) → List ℕ
threes front rest =
    joined front (λ i. digit_field 51) ++ (digit_field 48 ++ (joined rest (λ i. digit_field 51) ++ (10 ∷ [])))

-- the sheet and the two lines of the frame above, as the writers leave them in buffers that held other bytes
abbrev pub written_rows : List Row
written_rows =
    record {
      given = sheet_buffer (worked_code 2) (replicate 20 255);
      expected = first_line 32 49 ++ (first_line 32 49 ++ (first_line 32 48 ++ first_line 32 50));
    }
    ∷ record { given = line_buffer (zero_at 33 3) (replicate 257 255); expected = threes 33 30 }
    ∷ record { given = line_buffer (zero_at 1 3) (replicate 257 255); expected = threes 1 62 }
    ∷ []

-- what is read from that sheet, and each line that the program prints for it and that frame: for each place four
-- fields of five columns, and the clip count
abbrev pub listing_rows : List Row
listing_rows =
    let frame = zero_at 33 3 ++ zero_at 1 3 in
    let llrs = held (worked_code 2) (mode_of 13 all_candidates) frame in
    let blanks : List ℕ = 32 ∷ 32 ∷ 32 ∷ 32 ∷ [] in
    record {
      given = sheet_refusal worked_sheet (0 ∷ 0 ∷ []) (0 ∷ []) ∷ sheet_layers worked_sheet ∷ [];
      expected = 0 ∷ 1 ∷ [];
    }
    ∷ record { given = sheet_map worked_sheet; expected = 1 ∷ 0 ∷ [] }
    ∷ record { given = sheet_coefs worked_sheet; expected = 2 ∷ [] }
    ∷ record {
      given = place_line 0 0 (llrs 0);
      expected = blanks ++ (48 ∷ blanks ++ (48 ∷ blanks ++ (48 ∷ blanks ++ (51 ∷ 10 ∷ []))));
    }
    ∷ record {
      given = place_line 1 33 (llrs 1);
      expected = blanks ++ (49 ∷ 32 ∷ 32 ∷ 32 ∷ 51 ∷ 51 ∷ blanks ++ (48 ∷ blanks ++ (54 ∷ 10 ∷ [])));
    }
    ∷ record {
      given = number_line (count (worked_code 2) (mode_of 13 all_candidates) frame);
      expected = blanks ++ (48 ∷ 10 ∷ []);
    }
    ∷ []

-- all rows but those on distances
abbrev pub rows : List Row
rows =
    product_rows ++ (transform_rows ++ (base_rows ++ (gain_rows ++ (lost_rows ++ (decoder_rows (mode_of 1 all_candidates)
    ++ (decoder_rows (mode_of 13 all_candidates)
    ++ (sheet_rows ++ (link_rows ++ (line_rows ++ (written_rows ++ listing_rows))))))))))

-- a code and a message sent with base 1 and amplitude 10
abbrev pub sent_by : Code → (message : List ℕ) → Transmission
sent_by code message = record { code = code; message = message; base = 1; amplitude = 10 }

-- received with gain 1 over `bottom` at Qc = 3
abbrev pub received_by : (bottom qm : ℕ) → Reception
received_by bottom qm = record { top = 1; bottom = bottom; settings = settings_of 3 qm all_candidates }

-- the claim over the whole table: every row's two sides are the same, those on distances too; those samples are what is
-- sent for symbol 0 with amplitude 10; and with base 1, amplitude 10 and Qc 3 the noiseless statement's premise fails
-- for gain 1/40 and holds for gain 1/20, whatever code and message are sent, and `premise_holds` answers no and yes;
-- whatever comes after the first line of a sheet and whatever buffers are lent, `   9` gives 1 and `  08` gives 12; and
-- the totals of the frame of N = 4 above: layer 2 takes off 1 at place 1, the two kernels of layer 1 take off 1 and 2,
-- both for places 2 and 3, and layer 2 takes off 3 at place 3
pub record Worked : Type 0 where
  pub rows_hold : map (λ (r : Row). r.given) rows ≡ map (λ (r : Row). r.expected) rows
  pub distance_rows_hold : map (λ (r : Row). r.given) distance_rows ≡ map (λ (r : Row). r.expected) distance_rows
  pub samples_sent : sent_symbol 1 10 0 ≡ worked_samples
  pub premise_fails : (code : Code) (message : List ℕ) (qm : ℕ) → ChainInput (sent_by code message) (received_by 40 qm)
      → NoiselessPremise (sent_by code message) (received_by 40 qm) → ⊥
  pub premise_holds : (code : Code) (message : List ℕ) (qm : ℕ) → ChainInput (sent_by code message) (received_by 20 qm)
      → NoiselessPremise (sent_by code message) (received_by 20 qm)
  pub answers_no : (answer : Result Bool Refusal) → PremiseAnswered 1 10 1 40 answer → answer ≡ Ok false
  pub answers_yes : (answer : Result Bool Refusal) → PremiseAnswered 1 10 1 20 answer → answer ≡ Ok true
  pub nine_gives_1 : (rest frozen cs : List ℕ) → sheet_refusal (first_line 32 57 ++ rest) frozen cs ≡ 1
  pub zero_eight_gives_12 : (rest frozen cs : List ℕ) → sheet_refusal (first_line 48 56 ++ rest) frozen cs ≡ 12
  pub totals_of_four : totals four_code (mode_of 13 all_candidates) four_frame ≡ 0 ∷ 1 ∷ 3 ∷ 6 ∷ []
