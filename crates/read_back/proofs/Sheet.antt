-- A sheet written and then read gives the code back, and a sheet read and then written gives the same bytes.
use mathlib.Core.Path.{◌≡◌, sym, ap, ap₂, ◌∙◌, subst}
use mathlib.Core.Bool.{Bool, false, not}
use mathlib.Core.List.{List, [], ◌∷◌, ◌++◌}
use Prim.Native.Nat.{ℕ, zero, suc, ◌+◌, ◌-◌, ◌*◌, ◌/◌, ◌^◌, ◌≤◌, ◌<◌}
use native.Mathlib.Decide.{dec_lt}
use native.Mathlib.Omega.{arith}
use borrow.Author.Tests.{le-ltb, not-false}
use lib.Dec.{eqb}
use lib.ListN.{length, get_or, take, drop, length-append, get_or-append}
use lib.Seq.{get_or-append-add}
use Rattle.std.proofs.Common.{Result, Ok, Err}
use Rattle.refusal.specs.Returned.{Returned}
use Rattle.refusal.specs.Table.{NoneFits}
use Rattle.refusal.specs.Tests.{outside, any_outside}
use Rattle.refusal.proofs.AnyTo.{none_there, each_not}
use Rattle.refusal.proofs.Laws.{when_accepted}
use Rattle.refusal.proofs.Within.{within_inside, equal_false}
use Rattle.vector.specs.Vector.{tabulate}
use Rattle.vector.proofs.Entries.{get_d_any}
use Rattle.vector.proofs.Laws.{tabulate_by, tabulate_parts}
use Rattle.columns.specs.Columns.{line, lines}
use Rattle.columns.specs.Reading.{spelled, part, is_line}
use Rattle.columns.proofs.LinesLaws.{one_spelled, one_accepted, length_lines, line_at, lines_written}
use Rattle.polar_code.specs.Code.{Code, code_of, message_places, IsCode}
use Rattle.polar_code.proofs.CodeLaws.{code_bytes}
use Rattle.sheet.specs.CodeSheet.{bad_line, number_on, numbers_on, sheet_layers, sheet_places, sheet_kernels, sheet_lines}
use Rattle.sheet.specs.CodeSheet.{sheet_map, sheet_coefs, form_table, content_table, sheet_refusal}
use Rattle.sheet.specs.CodeSheet.{sheet_answer, map_read, coefs_read}
use Rattle.refusal.specs.declared.kinds.Refusal.{Refusal}
use Rattle.refusal.specs.Kinds.{returned}
use Rattle.sheet.proofs.SheetLaws.{sheet_accepts, rows, layers_are, map_front, coefs_front}
use Rattle.sheet.proofs.SheetLaws.{accepted as sheet_accepted, lines as all_lines}
use Rattle.writer.specs.CodeSheet.{sheet_numbers, sheet_of}
use Rattle.writer.proofs.SheetLaws.{accepted, accepts, sheet_left}
use Rattle.read_back.specs.Sheet.{SheetReadBack, SheetWrittenBack}

-- ---- the sheet of a code, read
module _ (code : Code) (is_code : IsCode code) where
  -- N
  abbrev places : ℕ
  places = 2 ^ code.n

  -- n × N/2
  abbrev kernels : ℕ
  kernels = code.n * (2 ^ code.n / 2)

  -- the numbers that are written, and the bytes
  abbrev numbers : List ℕ
  numbers = sheet_numbers code

  abbrev written : List ℕ
  written = sheet_of code

  -- the numbers after n are those of the map
  map_number : (i : ℕ) → i < places → get_or numbers (1 + i) 0 ≡ get_or code.map i 0
  map_number i l =
      let long = is_code.map_long in
      let next : 1 + i ≡ suc i = omega arith in
      ap (λ (k : ℕ). get_or numbers k 0) next ∙ get_or-append code.map code.coefs 0 i (omega arith)

  -- and those after the map are the coefficients
  coefs_number : (i : ℕ) → get_or numbers (1 + places + i) 0 ≡ get_or code.coefs i 0
  coefs_number i =
      let long = is_code.map_long in
      let next : 1 + places + i ≡ suc (length code.map + i) = omega arith in
      ap (λ (k : ℕ). get_or numbers k 0) next ∙ get_or-append-add code.map code.coefs i 0

  numbers_long : length numbers ≡ 1 + places + kernels
  numbers_long =
      let both = length-append code.map code.coefs in
      let map_long = is_code.map_long in
      let coefs_long = is_code.coefs_long in
      omega arith

  -- each of them has at most four digits
  map_small : (i : ℕ) → i < places → get_or code.map i 0 < 10 ^ 4
  map_small i l = let long = is_code.map_long in let most = (is_code.map_bytes i (omega arith)).most in omega arith

  coefs_small : (i : ℕ) → i < kernels → get_or code.coefs i 0 < 10 ^ 4
  coefs_small i l =
      let long = is_code.coefs_long in
      let most = (is_code.nonzero i (omega arith)).most in
      let same = get_d_any code.coefs i 0 1 (omega arith) in
      omega arith

  small : (i : ℕ) → i < 1 + places + kernels → get_or numbers i 0 < 10 ^ 4
  small zero l = let most = is_code.layers.most in omega arith
  small (suc i) l = go (dec_lt i places)
    where
      go : Dec (i < places) → get_or numbers (suc i) 0 < 10 ^ 4
      go (yes m) =
          let next : suc i ≡ 1 + i = omega arith in
          subst (λ (k : ℕ). k < 10 ^ 4) (sym (ap (λ (k : ℕ). get_or numbers k 0) next ∙ map_number i m)) (map_small i m)
      go (no m) =
          let next : suc i ≡ 1 + places + (i - places) = omega arith in
          subst (λ (k : ℕ). k < 10 ^ 4) (sym (ap (λ (k : ℕ). get_or numbers k 0) next ∙ coefs_number (i - places)))
          (coefs_small (i - places) (omega arith))

  -- how long the sheet is
  written_long : length written ≡ 5 * (1 + places + kernels)
  unfolding sheet_of
  written_long = length_lines 4 numbers ∙ ap (λ (k : ℕ). 5 * k) numbers_long

  module _ (i : ℕ) (l : i < 1 + places + kernels) where
    -- line i of it
    line_is : part 5 i written ≡ line 4 (get_or numbers i 0 ∷ [])
    unfolding sheet_of
    line_is = line_at 4 numbers i (let long = numbers_long in omega arith)

    -- has the right form
    good_line : bad_line i written ≡ false
    unfolding bad_line
    good_line =
        ap (λ (xs : List ℕ). not (is_line 4 1 xs)) line_is ∙ ap not (one_accepted 4 (get_or numbers i 0) (small i l))

    -- and its number
    number_read : number_on i written ≡ get_or numbers i 0
    unfolding number_on
    number_read = ap (λ (xs : List ℕ). spelled (take 4 xs)) line_is ∙ one_spelled 4 (get_or numbers i 0) (small i l)

  -- so n is read
  layers_read : sheet_layers written ≡ code.n
  layers_read = number_read 0 (omega arith)

  -- the map
  map_is_read : sheet_map written ≡ code.map
  unfolding sheet_map numbers_on
  map_is_read =
      ap (λ (k : ℕ). tabulate (2 ^ k) (λ j. number_on (1 + j) written)) layers_read
      ∙ sym (tabulate_by 0 places (λ j. number_on (1 + j) written) code.map is_code.map_long
      (λ i l. sym (number_read (1 + i) (omega arith) ∙ map_number i l)))

  -- and the coefficients
  coefs_are_read : sheet_coefs written ≡ code.coefs
  unfolding sheet_coefs numbers_on
  coefs_are_read =
      ap (λ (k : ℕ). tabulate (k * (2 ^ k / 2)) (λ j. number_on (1 + 2 ^ k + j) written)) layers_read
      ∙ sym (tabulate_by 0 kernels (λ j. number_on (1 + places + j) written) code.coefs is_code.coefs_long
      (λ i l. sym (number_read (1 + places + i) (omega arith) ∙ coefs_number i)))

  module _ (map coefs : List ℕ) (map_room : places ≤ length map) (coefs_room : kernels ≤ length coefs) where
    -- no row on the form fits
    form : NoneFits (form_table written)
    form =
        let count : ℕ → ℕ = λ k. 1 + 2 ^ k + k * (2 ^ k / 2) in
        let same = ap count (sym layers_read) in
        let long = written_long in (
          le-ltb (length written) 5 (omega arith),
          (
            good_line 0 (omega arith),
            (
              ap (outside 1 8) layers_read ∙ within_inside 1 8 code.n is_code.layers,
              (
                equal_false (length written) (5 * sheet_lines written) (long ∙ ap (λ (k : ℕ). 5 * k) same),
                (none_there (λ i. bad_line i written) (sheet_lines written) (λ i l. good_line i (omega arith)), tt),
              ),
            ),
          ),
        )

    -- nor one on the buffers and the numbers
    content : NoneFits (content_table written map coefs)
    content =
        let bytes = code_bytes code is_code in
        let size = ap (λ (k : ℕ). 2 ^ k) layers_read in
        let count = ap (λ (k : ℕ). k * (2 ^ k / 2)) layers_read in (
          le-ltb (length map) (sheet_places written) (omega arith),
          (
            le-ltb (length coefs) (sheet_kernels written) (omega arith),
            (
              ap (any_outside 0 1) map_is_read ∙ bytes.0,
              (
                ap (λ (xs : List ℕ). eqb (message_places xs) 0) map_is_read ∙ bytes.1.0,
                (ap (any_outside 1 63) coefs_are_read ∙ bytes.1.1.0, tt),
              ),
            ),
          ),
        )

    -- so it is accepted
    read_accepts : sheet_refusal written map coefs ≡ 0
    read_accepts = sheet_accepts written map coefs form content

-- an answer with the number 0 and one value is n
answer_is : (a : Result ℕ Refusal) (n : ℕ) → returned a ≡ record { number = 0; values = n ∷ [] } → a ≡ Ok n
answer_is (Ok m) n e = ap Ok (ap (λ (x : Returned). get_or x.values 0 0) e)
answer_is (Err k) n e = absurd (let z = ap (λ (x : Returned). length x.values) e in omega arith)

-- what is written is read back
pub sheet_read_back : (code : Code) (out bytes map coefs new_map new_coefs : List ℕ) (answer : Result ℕ Refusal)
    → SheetReadBack code out bytes map coefs new_map new_coefs answer
unfolding sheet_answer map_read coefs_read
sheet_read_back code out bytes map coefs new_map new_coefs answer done map_room coefs_room read =
    let is_code = (accepted code out (sym done.answer)).is_code in
    let is = sheet_left code out done (sym done.answer) in
    let refusal = sheet_refusal bytes map coefs in
    let takes : refusal ≡ 0 = ap (λ (xs : List ℕ). sheet_refusal xs map coefs) is
    ∙ read_accepts code is_code map coefs map_room coefs_room in
    let layers = ap sheet_layers is ∙ layers_read code is_code in
    record {
      layers = answer_is answer code.n (read.answer
          ∙ ap₂ (λ (k : ℕ) (vs : List ℕ). record { number = k; values = vs }) takes
          (when_accepted refusal (sheet_layers bytes ∷ []) [] takes ∙ ap (λ (k : ℕ). k ∷ []) layers));
      map_is = read.map_is
          ∙ when_accepted refusal (sheet_map bytes ++ drop (sheet_places bytes) map) map takes
          ∙ ap₂ (λ (xs : List ℕ) (k : ℕ). xs ++ drop (2 ^ k) map) (ap sheet_map is ∙ map_is_read code is_code) layers;
      coefs_are = read.coefs_are
          ∙ when_accepted refusal (sheet_coefs bytes ++ drop (sheet_kernels bytes) coefs) coefs takes
          ∙ ap₂ (λ (xs : List ℕ) (k : ℕ). xs ++ drop (k * (2 ^ k / 2)) coefs)
          (ap sheet_coefs is ∙ coefs_are_read code is_code) layers;
    }

-- ---- a sheet that is read, written
module _ (bytes map coefs : List ℕ) (e : sheet_refusal bytes map coefs ≡ 0) where
  -- the code that stands on it
  abbrev read_code : Code
  read_code = code_of (sheet_layers bytes) (sheet_map bytes) (sheet_coefs bytes)

  -- the numbers on its lines are those of the code
  numbers_are : tabulate (sheet_lines bytes) (λ i. number_on i bytes) ≡ sheet_numbers read_code
  unfolding sheet_map sheet_coefs numbers_on tabulate
  numbers_are =
      let N = sheet_places bytes in
      let K = sheet_kernels bytes in
      let on : ℕ → ℕ = λ i. number_on i bytes in
      tabulate_parts (1 + N) K on
      ∙ ap (λ (xs : List ℕ). xs ++ tabulate K (λ j. on (1 + N + j))) (tabulate_parts 1 N on)

  -- so its bytes are the sheet of that code
  same_bytes : sheet_of read_code ≡ bytes
  unfolding sheet_of number_on bad_line
  same_bytes =
      let bad : ℕ → Bool = λ i. bad_line i bytes in
      let none = each_not bad (sheet_lines bytes) (rows bytes map coefs e).0.1.1.1.1.0 in
      ap (lines 4) (sym numbers_are)
      ∙ sym (lines_written 4 (sheet_lines bytes) bytes (all_lines bytes map coefs e).long (λ i l.
      not-false (is_line 4 1 (part 5 i bytes)) (none i l)))

-- what is read is written back
pub sheet_written_back : (bytes map coefs new_map new_coefs : List ℕ) (n : ℕ) (out after : List ℕ) (r : ℕ)
    → SheetWrittenBack bytes map coefs new_map new_coefs n out after r
sheet_written_back bytes map coefs new_map new_coefs n out after r read long done =
    let e = sheet_accepted read in
    let given = code_of n (take (2 ^ n) new_map) (take (n * (2 ^ n / 2)) new_coefs) in
    let front = take (n * (2 ^ n / 2)) new_coefs in
    let is : given ≡ read_code bytes map coefs e =
    ap₂ (λ (m : ℕ) (xs : List ℕ). code_of m xs front) (layers_are read) (map_front read)
    ∙ ap (code_of (sheet_layers bytes) (sheet_map bytes)) (coefs_front read) in
    let size = ap (λ (k : ℕ). 5 * (1 + 2 ^ k + k * (2 ^ k / 2))) (layers_are read) in
    let takes = accepts given out (record {
      is_code = subst IsCode (sym is) (read.code e);
      out_long = long ∙ (all_lines bytes map coefs e).long ∙ sym size;
    }) in
    (done.answer ∙ takes, sheet_left given out done takes ∙ ap sheet_of is ∙ same_bytes bytes map coefs e)
