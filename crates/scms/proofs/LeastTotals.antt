-- Where the frame is unclipped, the totals are the least totals of the symbols decided before each place, and what is held for each value is the
-- least total of these symbols followed by that value, less the least of the 64.
use mathlib.Core.Path.{◌≡◌, sym, ap, ap₂, ◌∙◌, subst}
use mathlib.Core.List.{List, [], ◌∷◌, ◌++◌}
use Prim.Native.Nat.{ℕ, ◌+◌, ◌-◌, ◌/◌, ◌^◌, ◌≤◌, ◌<◌}
use native.Mathlib.Nat.{le_trans, le_of_eq, le_of_suc-le-suc, zero-add}
use native.Mathlib.Numerals.{add-one}
use native.Mathlib.Omega.{arith}
use lib.ListN.{length, get_or, take, length-append}
use lib.Seq.{length-take-le, take-suc, take-take, take-append_seam}
use Rattle.vector.specs.Vector.{least_to}
use Rattle.vector.proofs.Laws.{least_to_le, least_to_at}
use Rattle.polar_code.specs.Code.{Code, Coefficients}
use Rattle.polar.specs.Tree.{Tree, leaves, tree_of, Place, at, number}
use Rattle.polar.specs.Halves.{coefs_at}
use Rattle.polar.proofs.TreeLaws.{place_of, length_leaves, tree_of_at, leaves_at, leaves_number}
use Rattle.polar.proofs.OneToOne.{coefs_nonzero}
use Rattle.scms.specs.Mode.{Mode, Full}
use Rattle.scms.specs.Decoder.{held, symbols, totals}
use Rattle.scms.specs.Totals.{Least, Begins, LeastTotal, EachZero, Unclipped}
use Rattle.scms.specs.Claims.{held_and_total, LeastTotals}
use Rattle.scms.specs.Halves.{BlockAnswer, frame_tree, decode_halves}
use Rattle.scms.proofs.AnswerLaws.{symbols_word}
use Rattle.scms.proofs.Decisions.{held_zero}
use Rattle.scms.proofs.ByHalves.{same_answer, halves_unclipped}
use Rattle.scms.proofs.TreeTotals.{llr_at}
use Rattle.scms.proofs.Exact.{sent_total, Words, BeginsAt, exact}
use Rattle.scms.proofs.TreeLists.{begins_by, begins_there, begins_before, row_by, row_symbols, row_last, word_leaves, tree_word, sent_tree, sent_leaves}

module _ (code : Code) (frame : List ℕ) (s : Tree ℕ code.n) (i b : ℕ) (l : i < 2 ^ code.n) where
  -- place i of the tree
  abbrev p : Place code.n
  p = (place_of code.n i l).0

  -- the symbols of s before place i, then b
  abbrev row : List ℕ
  row = take i (leaves code.n s) ++ (b ∷ [])

  -- place i is one of s
  i_in : i < length (leaves code.n s)
  i_in = subst (λ (x : ℕ). i < x) (sym (length_leaves ℕ code.n s)) l

  -- a word that begins with the row, as a tree
  to_tree : (u : List ℕ) → Begins code.n row u → Words code.n (BeginsAt s p b) (tree_of 0 code.n u)
  to_tree u h =
      let lu = h.word.long ∙ sym (length_leaves ℕ code.n s) in
      let e = (place_of code.n i l).1 in (
        tree_word code.n u h.word,
        begins_by p s (tree_of 0 code.n u) b
            (λ q k. tree_of_at 0 u q ∙ row_symbols (leaves code.n s) i b i_in u lu h.begins (number q) (subst (λ (x : ℕ). number q < x) e k) ∙ leaves_at 0 q s)
            (tree_of_at 0 u p ∙ ap (λ (x : ℕ). get_or u x 0) e ∙ row_last (leaves code.n s) i b i_in u lu h.begins),
      )

  -- and the other way round
  from_tree : (u : Tree ℕ code.n) → Words code.n (BeginsAt s p b) u → Begins code.n row (leaves code.n u)
  from_tree u h =
      let lu = length_leaves ℕ code.n u ∙ sym (length_leaves ℕ code.n s) in
      let e = (place_of code.n i l).1 in
      record {
        word = word_leaves code.n u h.0;
        begins = row_by (leaves code.n s) i b i_in (leaves code.n u) lu
            (λ j k.
            let m : j < 2 ^ code.n = omega arith in
            let q = place_of code.n j m in
            leaves_number 0 code.n j m u
            ∙ begins_before p q.0 s u b h.1 (subst (λ (x : ℕ). number q.0 < x) (sym e) (subst (λ (x : ℕ). x < i) (sym q.1) k))
            ∙ sym (leaves_number 0 code.n j m s))
            (leaves_number 0 code.n i l u ∙ begins_there p s u b h.1);
      }

  -- a least total over trees is one over lists
  least_lists : (t : ℕ) → Least (Words code.n (BeginsAt s p b)) (sent_total code.n (coefs_at code.n 0 (2 ^ code.n / 2) code.coefs) (frame_tree code.n frame)) t → LeastTotal code frame row t
  least_lists t h = record {
    by = leaves code.n h.by;
    meets = from_tree h.by h.meets;
    gives = sent_leaves code.n code.coefs frame h.by ∙ h.gives;
    bound = λ u k. le_trans (h.bound (tree_of 0 code.n u) (to_tree u k)) (le_of_eq (sym (sent_tree code.n code.coefs frame u k.word.long)));
  }

-- 64 numbers, each more by one number than a held one, of which one is 0: the least of them is that number
less_least_by : (v : ℕ → ℕ) (more z : ℕ) → z < 64 → v z ≡ 0 → (b : ℕ) → v b ≡ v b + more - least_to 63 (λ c. v c + more)
less_least_by v more z lz vz b =
    let q = least_to_at 63 (λ c. v c + more) in
    let m = least_to_le 63 (λ c. v c + more) z (le_of_suc-le-suc lz) in
    let f = q.2 in
    omega arith

-- ---- a row, and the same row followed by a value
module _ (code : Code) (frame row : List ℕ) where
  -- a word that begins with the longer one begins with the row
  shorter : (b : ℕ) (u : List ℕ) → Begins code.n (row ++ (b ∷ [])) u → Begins code.n row u
  shorter b u h =
      let long = length-append row (b ∷ []) in
      let fits : length row ≤ length (row ++ (b ∷ [])) = omega arith in
      record {
        word = h.word;
        begins = sym (take-take (length row) (length (row ++ (b ∷ []))) u fits) ∙ ap (take (length row)) h.begins ∙ take-append_seam row (b ∷ []);
      }

  -- and one that begins with the row also with its next symbol
  longer : length row < 2 ^ code.n → (u : List ℕ) → Begins code.n row u → Begins code.n (row ++ (get_or u (length row) 0 ∷ [])) u
  longer short u h =
      let b = get_or u (length row) 0 in
      let long = h.word.long in
      record {
        word = h.word;
        begins = ap (λ (x : ℕ). take x u) (length-append row (b ∷ []) ∙ add-one (length row)) ∙ take-suc u (length row) 0 (omega arith)
            ∙ ap (λ (x : List ℕ). x ++ (b ∷ [])) h.begins;
      }

  -- 64 numbers, of which one is 0, each the least total of the longer row, less one number: that number is the least total of the row
  row_free : (v : ℕ → ℕ) (number z : ℕ) → length row < 2 ^ code.n → z < 64 → v z ≡ 0
      → ((b : ℕ) → b < 64 → LeastTotal code frame (row ++ (b ∷ [])) (v b + number)) → LeastTotal code frame row number
  row_free v number z short lz vz least =
      let l = least z lz in
      record {
        by = l.by;
        meets = shorter z l.by l.meets;
        gives = l.gives ∙ ap (λ (x : ℕ). x + number) vz ∙ zero-add number;
        bound = λ u h.
            let b = get_or u (length row) 0 in
            le_trans (let m : number ≤ v b + number = omega arith in m) ((least b (h.word.symbols (length row) short)).bound u (longer short u h));
      }

module _ (code : Code) (mode : Mode) (frame : List ℕ) (full : Full mode) (g : Coefficients code.coefs)
    (z : EachZero code.n frame) (un : Unclipped code mode frame) where
  -- the number of layers
  abbrev n : ℕ
  n = code.n

  -- the coefficients
  abbrev cs : List ℕ
  cs = code.coefs

  -- the frozen map
  abbrev map : List ℕ
  map = code.map

  -- the answer by halves
  abbrev A : BlockAnswer n
  A = decode_halves code mode frame

  -- what is held for a value at place i, and the place's number in the totals
  abbrev both : (i b : ℕ) → ℕ
  both i b = held_and_total (get_or (totals code mode frame) i 0) (held code mode frame i) b

  -- the least total of a row followed by a value, by the form by halves
  row_least : (i b : ℕ) (l : i < 2 ^ n) → b < 64 → LeastTotal code frame (take i (symbols code mode frame) ++ (b ∷ [])) (both i b)
  unfolding decode_halves
  row_least i b l lb =
      let same = same_answer code mode frame in
      let p = (place_of n i l).0 in
      let t : llr_at (at A.held p) b + at A.taken p ≡ both i b
      = ap₂ (λ (v : List ℕ) (x : ℕ). get_or v b 0 + x) (sym (leaves_number [] n i l A.held) ∙ same.same_held i l)
      (sym (leaves_number 0 n i l A.taken) ∙ ap (λ (x : List ℕ). get_or x i 0) same.same_totals) in
      subst (λ (x : List ℕ). LeastTotal code frame (take i x ++ (b ∷ [])) (both i b)) same.same_symbols
      (subst (LeastTotal code frame (take i (leaves n A.symbols) ++ (b ∷ []))) t
      (least_lists code frame A.symbols i b l (llr_at (at A.held p) b + at A.taken p)
      (exact p mode (coefs_at n 0 (2 ^ n / 2) cs) (tree_of 0 n map) (frame_tree n frame) full (coefs_nonzero n 0 (2 ^ n / 2) cs g) (halves_unclipped code mode frame un) b lb)))

  -- each place: its row, its number in the totals and what is held for it
  pub least_totals : (i : ℕ) → i < 2 ^ n
      → LeastTotals code frame (take i (symbols code mode frame)) (get_or (totals code mode frame) i 0) (held code mode frame i)
  least_totals i l =
      let hz = held_zero code mode frame (omega arith) g z i l in
      let row = take i (symbols code mode frame) in
      let long = (symbols_word code mode frame).long in
      let short : length row < 2 ^ n = (let e = length-take-le i (symbols code mode frame) (omega arith) in omega arith) in
      let v : ℕ → ℕ = λ b. get_or (held code mode frame i) b 0 in
      let number = get_or (totals code mode frame) i 0 in
      record {
        of_row = row_free code frame row v number hz.zero_at short hz.within hz.is_zero (λ b lb. row_least i b l lb);
        with_value = λ b lb. row_least i b l lb;
        less_least = λ b lb. less_least_by v number hz.zero_at hz.within hz.is_zero b;
      }
