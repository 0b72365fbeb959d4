-- What `decode` gives its parts, what it is left with, and its promise.
use mathlib.Core.Path.{◌≡◌, refl, sym, ap, ◌∙◌, subst, transport⁻¹}
use mathlib.Core.List.{List, [], ◌∷◌, ◌++◌}
use Prim.Native.Nat.{ℕ, ◌+◌, ◌*◌, ◌/◌, ◌-◌, ◌^◌, ◌≤◌, ◌<◌}
use native.Mathlib.Nat.{le_trans, le_of_eq, add-zero, zero-add, mul-le-mul}
use native.Mathlib.Omega.{arith}
use lib.Dec.{lit≤}
use lib.ListN.{length, get_or, take, replicate}
use lib.Pow.{pow_mono, pow_pos}
use Rattle.refusal.proofs.Laws.{when_accepted, when_refused}
use Rattle.vector.specs.Vector.{vector_at}
use Rattle.vector.specs.Frame.{largest_llr}
use Rattle.vector.proofs.SliceLaws.{vector_first, joined_by}
use Rattle.polar.specs.Tree.{map1, All, tree_of, leaves, at, number}
use Rattle.polar.specs.Halves.{coefs_at}
use Rattle.polar.specs.Parts.{Block}
use Rattle.polar.proofs.TreeLaws.{number_lt, place_of, map1_at, all_by, ext_at, leaves_number}
use Rattle.polar.proofs.OneToOne.{coefs_nonzero}
use Rattle.polar.proofs.EncodeLaws.{word_block}
use Rattle.scms.specs.Decoder as scms
use Rattle.scms.specs.Mode.{Mode, cap_of, mode_of, all_candidates, TriesOne}
use Rattle.scms.specs.Totals.{LeastTotal, EachZero, Unclipped}
use Rattle.scms.specs.Claims.{LeastTotals}
use Rattle.scms.specs.Halves.{Vectors, frame_tree, decode_tree, decode_halves}
use Rattle.scms.proofs.TreeLists.{frame_at}
use Rattle.scms.proofs.ByHalves.{same_answer}
use Rattle.scms.proofs.AnswerLaws.{report_place, first_total}
use Rattle.scms.proofs.TotalsFit.{Bounded, block_fits, frame_bounded, totals_fit}
use Rattle.scms.proofs.Unclipped.{count_zero, never_clipped}
use Rattle.scms.proofs.LeastTotals.{least_totals}
use Rattle.scms.proofs.Decisions.{decided}
use Rattle.scms.proofs.BestWord.{best_word}
use Rattle.decoder.specs.Parts.{largest_number, BlockVector, BlockGiven, vectors_from, TakenFits, BlockDecoded}
use Rattle.decoder.specs.declared.vectors.BlockAt.{BlockAt}
use Rattle.polar_code.specs.Code.{Code}
use Rattle.decoder_refusal.specs.Refusals.{Settings, Lent, decode_refusal, Decodable}
use Rattle.std.proofs.Common.{Result, Ok, Err}
use Rattle.refusal.specs.Kinds.{number_of, returned}
use Rattle.refusal.specs.declared.kinds.Refusal.{Refusal}
use Rattle.refusal.proofs.KindLaws.{number_nonzero}
use Rattle.decoder.specs.Decode.{decode_answer, decode_symbols, decode_report, decode_totals, decode_work, Decoded}
use Rattle.decoder_refusal.proofs.RefusalLaws.{accepted}
use Rattle.decoder.proofs.FrameLaws.{each_zero, each_qc, each_cap, each_31}
use Rattle.decoder.proofs.HalvesLaws.{vectors_by}

-- the whole word as a block, with its places and what its nodes go by
abbrev pub whole_block : (n places cap candidates : ℕ) → BlockAt
whole_block n places cap candidates =
    record { layers = n; start = 0; at = 0; places = places; cap = cap; candidates = candidates; taken = 0 }

module _ (code : Code) (settings : Settings) (frame : List ℕ) (lent : Lent) where
  -- the number of layers
  abbrev n : ℕ
  n = code.n

  -- how many values a check node tries
  abbrev m : ℕ
  m = settings.candidates

  -- what the nodes go by
  abbrev mode : Mode
  mode = mode_of settings.qm m

  -- ---- what is decoded

  module _ (t : Decodable code settings frame lent) where
    -- the vectors of the frame and the work buffer begin with the frame's
    vector_is : (i : ℕ) → i < 2 ^ n → vector_at (frame ++ lent.work) (0 + i) ≡ vector_at frame i
    vector_is i l = ap (vector_at (frame ++ lent.work)) (zero-add i) ∙ vector_first (2 ^ n) frame lent.work i t.frame_long l

    -- the vectors of the whole word are the frame's
    frame_as_tree : vectors_from n 0 (frame ++ lent.work) ≡ frame_tree n frame
    frame_as_tree = vectors_by n 0 (frame ++ lent.work) (frame_tree n frame) (λ p. vector_is (number p) (number_lt p) ∙ sym (frame_at n frame p))

    -- a check node tries a value at least
    pub tries_one : TriesOne mode
    tries_one = t.candidates_fit.least

    -- what is taken off along each place's line fits in 16 bits: at most 8 × 31 × 128 = 31,744
    whole_fits : (cap : ℕ) → TakenFits (whole_block n (length code.map) cap m) code.coefs code.map (frame ++ lent.work)
    whole_fits cap =
        let few = t.is_code.layers.most in
        let k = coefs_at n 0 (length code.map / 2) code.coefs in
        let f = vectors_from n 0 (frame ++ lent.work) in
        let bounded = subst (All n (Bounded 31)) (sym frame_as_tree) (frame_bounded n 31 frame (each_zero t) (each_31 t)) in
        let most = mul-le-mul {n₁ = n} {m₁ = 31 * 2 ^ n} {n₂ = 8} {m₂ = 7936} few (let size = pow_mono {i = n} {j = 8} few in omega arith) in
        all_by (λ x. x + 0 ≤ largest_number) n (decode_tree n (record { cap = cap; candidates = m }) k (tree_of 0 n code.map) f).taken (λ p.
        let x = block_fits p (record { cap = cap; candidates = m }) k (tree_of 0 n code.map) f 31 tries_one (coefs_nonzero n 0 (length code.map / 2) code.coefs t.is_code.nonzero) bounded in
        omega arith)

    -- the whole word is what `decode_block` is given
    pub whole_given : {word : List ℕ} {cap : ℕ} → length word ≡ 2 ^ n → cap ≡ cap_of settings.qm → cap ≤ largest_llr
        → BlockGiven (whole_block n (length code.map) cap m) code.coefs code.map frame lent.work word lent.symbols lent.report lent.totals
    whole_given {word} {cap} lw ec lc =
        let a = t.frame_long in
        let b = t.buffers.work_long in
        let e = t.is_code.map_long in
        record {
          of_word = subst (λ (x : ℕ). Block n (x / 2) 0 (x / 2) code.coefs word) (sym e) (word_block code word t.is_code lw);
          cap_small = lc;
          tries = t.candidates_fit.least;
          nonzero = t.is_code.nonzero;
          map_long = e;
          symbols_long = t.buffers.symbols_long;
          report_long = t.buffers.report_long;
          totals_long = t.buffers.totals_long;
          whole = omega arith;
          in_work = omega arith;
          long = omega arith;
          vectors = λ i l. subst BlockVector (sym (vector_is i l)) (record {
            most = λ c lb. let k = each_cap t i l c lb in omega arith;
            zero = each_zero t i l;
          });
          taken_fits = whole_fits cap;
        }

    -- what it leaves is the answer by halves of the frame
    module _ {cap : ℕ} (ec : cap ≡ cap_of settings.qm) {word ss rs ts : List ℕ} {count : ℕ} (lr : length rs ≡ 64 * 2 ^ n)
        (d : BlockDecoded (whole_block n (length code.map) cap m) code.coefs code.map (vectors_from n 0 (frame ++ lent.work)) word ss rs ts count) where
      -- by document 01's sizes and cap
      by_halves : BlockDecoded (whole_block n (2 ^ n) (cap_of settings.qm) m) code.coefs code.map (frame_tree n frame) word ss rs ts count
      by_halves =
          subst (λ (x : ℕ). BlockDecoded (whole_block n x (cap_of settings.qm) m) code.coefs code.map (frame_tree n frame) word ss rs ts count) t.is_code.map_long
          (subst (λ (x : ℕ). BlockDecoded (whole_block n (length code.map) x m) code.coefs code.map (frame_tree n frame) word ss rs ts count) ec
          (subst (λ (f : Vectors n). BlockDecoded (whole_block n (length code.map) cap m) code.coefs code.map f word ss rs ts count) frame_as_tree d))

      -- the symbols
      pub symbols_decoded : ss ≡ scms.symbols code mode frame
      unfolding decode_halves
      symbols_decoded = by_halves.symbols_are ∙ (same_answer code mode frame).same_symbols

      -- the count
      pub count_decoded : count ≡ scms.count code mode frame
      unfolding decode_halves
      count_decoded = by_halves.count_is ∙ (same_answer code mode frame).same_count

      -- the report
      pub report_decoded : rs ≡ scms.report code mode frame
      unfolding decode_halves scms.report
      report_decoded = joined_by (2 ^ n) (scms.held code mode frame) rs lr (λ i l.
          let p = place_of n i l in
          let held = (decode_halves code mode frame).held in
          ap (vector_at rs) (sym p.1) ∙ sym (frame_at n rs p.0) ∙ ap (λ (f : Vectors n). at f p.0) by_halves.report_is
          ∙ sym (leaves_number [] n i l held) ∙ (same_answer code mode frame).same_held i l)

      -- the totals
      pub totals_decoded : ts ≡ scms.totals code mode frame
      unfolding decode_halves
      totals_decoded =
          let taken = (decode_halves code mode frame).taken in
          by_halves.totals_are
          ∙ ap (leaves n) (ext_at n (map1 n (λ x. x + 0) taken) taken (λ p. map1_at (λ x. x + 0) p taken ∙ add-zero (at taken p)))
          ∙ (same_answer code mode frame).same_totals

  -- ---- the promise

  -- with Qm = 13 nothing is clipped
  unclipped_13 : Decodable code settings frame lent → (m : ℕ) → 1 ≤ m → Unclipped code (mode_of 13 m) frame
  unclipped_13 t m one = never_clipped code m frame one t.is_code.layers.most t.is_code.nonzero (each_zero t) (each_31 t)

  -- so the count is 0 then
  never_counted : Decodable code settings frame lent → settings.qm ≡ 13 → scms.count code mode frame ≡ 0
  never_counted t q =
      ap (λ (x : ℕ). scms.count code (mode_of x m) frame) q
      ∙ (count_zero code (mode_of 13 m) frame).unclipped_zero (unclipped_13 t m (tries_one t))

  -- the least total of all words, which no setting changes, is number 0 of the totals with Qm = 13 and full check nodes
  none_less : Decodable code settings frame lent → LeastTotal code frame [] 0
  none_less t =
      let full = mode_of 13 all_candidates in
      subst (LeastTotal code frame []) (first_total code full frame)
      (least_totals code full frame refl t.is_code.nonzero (each_zero t) (unclipped_13 t all_candidates (lit≤ tt)) 0 (pow_pos n)).of_row

  -- the promise from its equations: what else it says holds of the definitions
  promise : {after : Lent} {r : Result ℕ Refusal} → returned r ≡ decode_answer code settings frame lent
      → after.symbols ≡ decode_symbols code settings frame lent → after.report ≡ decode_report code settings frame lent
      → after.totals ≡ decode_totals code settings frame lent → after.work ≡ decode_work code settings frame lent
      → Decoded code settings frame lent after r
  unfolding decode_answer decode_symbols decode_report decode_totals
  promise {after} {r} ea es er et ew =
      let k = decode_refusal code settings frame lent in
      let t : k ≡ 0 → Decodable code settings frame lent = accepted code settings frame lent in
      let zeros : k ≡ 0 → EachZero n frame = λ e. each_zero (t e) in
      let symbols_so : k ≡ 0 → after.symbols ≡ scms.symbols code mode frame
      = λ e. es ∙ when_accepted k (scms.symbols code mode frame) lent.symbols e in
      let report_so : k ≡ 0 → (i : ℕ) → i < 2 ^ n → vector_at after.report i ≡ scms.held code mode frame i = λ e i l.
      ap (λ (x : List ℕ). vector_at x i) (er ∙ when_accepted k (scms.report code mode frame) lent.report e)
      ∙ report_place code mode frame (t e).is_code.layers.least i l in
      let totals_so : k ≡ 0 → after.totals ≡ scms.totals code mode frame
      = λ e. et ∙ when_accepted k (scms.totals code mode frame) lent.totals e in
      let number-so : k ≡ 0 → (i : ℕ) → get_or after.totals i 0 ≡ get_or (scms.totals code mode frame) i 0
      = λ e i. ap (λ (x : List ℕ). get_or x i 0) (totals_so e) in
      record {
        answer = ea;
        symbols_are = es;
        report_is = er;
        totals_are = et;
        work_is = ew;
        counted = λ e. ea ∙ λ i. record { number = e i; values = when_accepted k (scms.count code mode frame ∷ []) [] e i };
        decided = symbols_so;
        reported = report_so;
        totalled = totals_so;
        count_zero = λ e. count_zero code mode frame;
        none_clipped = λ e. never_counted (t e);
        first_total = λ e. number-so e 0 ∙ first_total code mode frame;
        least_of_all = λ e. none_less (t e);
        totals_fit = λ e i l. le_trans (le_of_eq (number-so e i))
            (totals_fit (2 ^ settings.qc - 1) code mode frame (tries_one (t e)) (t e).is_code.nonzero (zeros e) (each_qc (t e)) i l);
        least_totals = λ e full u i l.
            transport⁻¹ (λ j. LeastTotals code frame (take i (symbols_so e j)) (number-so e i j) (report_so e i l j))
            (least_totals code mode frame full (t e).is_code.nonzero (zeros e) u i l);
        decisions = λ e i l. decided code mode frame (tries_one (t e)) (t e).is_code.nonzero (zeros e) i l;
        best_word = λ e full u f. best_word code mode frame full (t e).is_code.nonzero u f;
      }

  -- a refusal: its number, and every buffer as it came
  pub promise_refused : (r : Refusal) → number_of r ≡ decode_refusal code settings frame lent → Decoded code settings frame lent lent (Err r)
  unfolding decode_answer decode_symbols decode_report decode_totals decode_work
  promise_refused r e =
      let k = decode_refusal code settings frame lent in
      let h : (k ≡ 0 → ⊥) = λ z. number_nonzero r (e ∙ z) in
      promise
      (λ i. record { number = e i; values = sym (when_refused k (scms.count code mode frame ∷ []) [] h) i })
      (sym (when_refused k (scms.symbols code mode frame) lent.symbols h))
      (sym (when_refused k (scms.report code mode frame) lent.report h))
      (sym (when_refused k (scms.totals code mode frame) lent.totals h))
      (sym (when_refused k (replicate (65 * 2 ^ n) 0) lent.work h))

  -- a frame that is decoded: its count, and what is in the buffers
  pub promise_accepted : {count : ℕ} {after : Lent} → decode_refusal code settings frame lent ≡ 0
      → count ≡ scms.count code mode frame → after.symbols ≡ scms.symbols code mode frame → after.report ≡ scms.report code mode frame
      → after.totals ≡ scms.totals code mode frame → after.work ≡ replicate (65 * 2 ^ n) 0 → Decoded code settings frame lent after (Ok count)
  unfolding decode_answer decode_symbols decode_report decode_totals decode_work
  promise_accepted {count} {after} e ec es er et ew =
      let k = decode_refusal code settings frame lent in
      promise
      (λ i. record { number = sym e i; values = (ap (λ (x : ℕ). x ∷ []) ec ∙ sym (when_accepted k (scms.count code mode frame ∷ []) [] e)) i })
      (es ∙ sym (when_accepted k (scms.symbols code mode frame) lent.symbols e))
      (er ∙ sym (when_accepted k (scms.report code mode frame) lent.report e))
      (et ∙ sym (when_accepted k (scms.totals code mode frame) lent.totals e))
      (ew ∙ sym (when_accepted k (replicate (65 * 2 ^ n) 0) lent.work e))
