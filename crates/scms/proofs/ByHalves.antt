-- The decoder by halves gives what the decoder by document 01's indices gives.
use mathlib.Core.Path.{◌≡◌, refl, sym, ap, ap₂, ◌∙◌, subst}
use mathlib.Core.List.{List, []}
use Prim.Native.Nat.{ℕ, zero, suc, ◌+◌, ◌*◌, ◌/◌, ◌^◌, ◌≤◌, ◌<◌}
use native.Mathlib.Nat.{zero-add}
use native.Mathlib.Omega.{arith}
use lib.ListN.{length, get_or, take, drop}
use lib.Seq.{ext_get_or}
use Rattle.vector.specs.Vector.{sum_to}
use Rattle.vector.proofs.Laws.{sum_ext, joined_ext}
use Rattle.polar_code.specs.Code.{Code, kind_of}
use Rattle.polar.specs.Transform.{layers, transform}
use Rattle.polar.specs.Tree.{Tree, map1, tree_of, leaves, Place, here, first, second, at, number}
use Rattle.polar.specs.Halves.{transform_tree, coefs_at, block_transform}
use Rattle.polar.proofs.Numbers.{two_pow}
use Rattle.polar.proofs.TreeLaws.{place_of, map1_at, length_leaves, tree_of_leaves, tree_of_at, leaves_number}
use Rattle.polar.proofs.Windows.{window, window_at, window_all}
use Rattle.polar.proofs.ByHalves.{block_halves, by_halves}
use Rattle.scms.specs.Mode.{Mode}
use Rattle.scms.specs.Decision.{decision}
use Rattle.scms.specs.Decoder.{vectors, lowered_at, clipped_at, clip_count, taken_in, taken_off, held_at, held, symbols, report, totals, count}
use Rattle.scms.specs.Halves.{Vectors, BlockAnswer, check_nodes, variable_nodes, clipped_nodes, taken_nodes, decode_tree, frame_tree, decode_halves, SameAnswer, decode_tree_by}
use Rattle.scms.specs.Totals.{Unclipped}
use Rattle.scms.proofs.TreeDecoder.{decoded_from, word_transform}
use Rattle.scms.proofs.Blocks.{block_fits}
use Rattle.scms.proofs.AnswerLaws.{held_final, answer_is, totals_long, total_place}
use Rattle.scms.proofs.Unclipped.{count_zero}
use Rattle.scms.proofs.BlockSums.{clipped_in, taken_from, taken_more, clipped_more, taken_first, taken_second, clipped_sum, taken_sum, checks, variables}

-- a function of three things that are equal to three others
pub same_three : {A B C D : Type 0} {a a' : A} {b b' : B} {c c' : C} (f : A → B → C → D) → a ≡ a' → b ≡ b' → c ≡ c' → f a b c ≡ f a' b' c'
same_three f p q r = λ i. f (p i) (q i) (r i)

module _ (code : Code) (mode : Mode) (frame : List ℕ) where
  -- the number of layers
  abbrev n : ℕ
  n = code.n

  -- the coefficients
  abbrev cs : List ℕ
  cs = code.coefs

  -- the frozen map
  abbrev map : List ℕ
  map = code.map

  -- a word that the decoder by halves answers: in every block the vectors, the count and what was taken off are those by index
  module _ (r : List ℕ) (lr : length r ≡ 2 ^ n) where
    -- the vectors of layer d
    abbrev vs : ℕ → List (List ℕ)
    vs d = vectors code mode frame r d

    -- a block's answer by halves is what the indices say: the vectors held, the count and what was taken off
    record BlockIs (m d o : ℕ) (a : BlockAnswer m) : Type 0 where
      held_is : window [] m o (vs n) ≡ a.held
      count_is : a.count ≡ clipped_in code mode frame r m d o
      taken_is : (p : Place m) → at a.taken p ≡ taken_from code mode frame r m d (o + number p)

    -- what is taken off, from the two halves
    taken_pair : (m d o : ℕ) (x y : Tree ℕ m) → ((p : Place m) → at x p ≡ taken_from code mode frame r (suc m) d (o + number p))
        → ((p : Place m) → at y p ≡ taken_from code mode frame r (suc m) d (o + 2 ^ m + number p))
        → (p : Place (suc m)) → at {m = suc m} (x, y) p ≡ taken_from code mode frame r (suc m) d (o + number p)
    unfolding at number
    taken_pair m d o x y hx hy (first p) = hx p
    taken_pair m d o x y hx hy (second p) = hy p ∙ ap (taken_from code mode frame r (suc m) d) (omega arith)

    -- a leaf of a tree
    at_leaf : (x : ℕ) (p : Place zero) → at {m = zero} x p ≡ x
    unfolding at
    at_leaf x here = refl

    -- a block from its two halves: count and what is taken off
    module _ (m d w o : ℕ) (e : d + suc m ≡ n) (eo : o ≡ w * (2 ^ m + 2 ^ m)) (a b : BlockAnswer m) (clipped taken : ℕ)
        (clips : clipped ≡ sum_to (2 ^ m) (λ k. clipped_at code mode frame r (suc d) (w * 2 ^ m + k)))
        (takes : taken ≡ sum_to (2 ^ m) (λ k. (lowered_at code mode frame r (suc d) (w * 2 ^ m + k)).taken))
        (ha : BlockIs m (suc d) o a) (hb : BlockIs m (suc d) (o + 2 ^ m) b) where
      -- the count of both halves and of the nodes that join them
      count_both : a.count + clipped + b.count ≡ clipped_in code mode frame r (suc m) d o
      count_both =
          let x = clipped_more code mode frame r d m w o e eo in
          let y = ha.count_is in
          let z = hb.count_is in
          omega arith

      -- and what is taken off at each place
      taken_both : (p : Place (suc m)) → at {m = suc m} (a.taken, map1 m (λ x. x + taken) b.taken) p ≡ taken_from code mode frame r (suc m) d (o + number p)
      taken_both = taken_pair m d o a.taken (map1 m (λ x. x + taken) b.taken)
          (λ p.
          let x = taken_more code mode frame r m d (o + number p) in
          let y = taken_first code mode frame r d m w o e eo p in
          let z = ha.taken_is p in
          omega arith)
          (λ p.
          let x = taken_more code mode frame r m d (o + 2 ^ m + number p) in
          let y = taken_second code mode frame r d m w o e eo p in
          let z = hb.taken_is p in
          map1_at (λ x. x + taken) p b.taken ∙ omega arith)

    -- every block: by its own number of layers
    block : (m d w o start : ℕ) → d + m ≡ n → o ≡ w * 2 ^ m → w < 2 ^ d → start ≡ d * (2 ^ n / 2) + o / 2 → (f : Vectors m) → f ≡ window [] m o (vs d)
        → window 0 m o r ≡ (decode_tree m mode (coefs_at m start (2 ^ n / 2) cs) (window 0 m o map) f).symbols
        → BlockIs m d o (decode_tree m mode (coefs_at m start (2 ^ n / 2) cs) (window 0 m o map) f)
    unfolding decode_tree_by coefs_at window clipped_in taken_from sum_to
    block zero d w o start e eo lw es f ef sr = record {
      held_is = ap (λ (x : ℕ). get_or (vs x) o []) (let q : n ≡ d = omega arith in q) ∙ sym ef;
      count_is = refl;
      taken_is = λ p. at_leaf 0 p;
    }
    block (suc m) d w o start e eo lw es f ef sr =
        let q = two_pow m in
        let o₁ : o ≡ w * (2 ^ m + 2 ^ m) = eo ∙ ap (λ (k : ℕ). w * k) q in
        let stride = 2 ^ n / 2 in
        let fits : o + (2 ^ m + 2 ^ m) ≤ 2 ^ n = subst (λ (x : ℕ). x + (2 ^ m + 2 ^ m) ≤ 2 ^ n) (sym o₁) (block_fits n d m w e lw) in
        let below : w * 2 + 1 < 2 ^ suc d = (let z = two_pow d in omega arith) in
        let hs = tree_of 1 m (take (2 ^ m) (drop start cs)) in
        let u = window 0 m o (layers n m cs r) in
        let ef₀ : f.0 ≡ window [] m o (vs d) = ap (λ (t : Vectors (suc m)). t.0) ef in
        let ef₁ : f.1 ≡ window [] m (o + 2 ^ m) (vs d) = ap (λ (t : Vectors (suc m)). t.1) ef in
        let c = check_nodes m mode.candidates hs f.0 f.1 in
        let a = decode_tree m mode (coefs_at m (start + stride) stride cs) (window 0 m o map) c in
        let sa : window 0 m o r ≡ a.symbols = ap (λ (t : Tree ℕ (suc m)). t.0) sr in
        let ec : c ≡ window [] m o (vs (suc d)) = ap₂ (check_nodes m mode.candidates hs) ef₀ ef₁ ∙ sym (checks code mode frame r d m w o e o₁ start es fits) in
        let ha = block m (suc d) (w * 2) o (start + stride) (omega arith) (omega arith) (omega arith) (omega arith) c ec sa in
        let wa : a.word ≡ u
        = word_transform m mode (coefs_at m (start + stride) stride cs) (window 0 m o map) c ∙ ap (transform_tree m (coefs_at m (start + stride) stride cs)) (sym sa)
        ∙ sym (block_halves n cs r lr m (suc d) (w * 2) o (start + stride) (omega arith) (omega arith) (omega arith) (omega arith)) in
        let v = variable_nodes m mode.cap hs f.0 f.1 a.word in
        let ev : v ≡ window [] m (o + 2 ^ m) (vs (suc d)) = same_three (variable_nodes m mode.cap hs) ef₀ ef₁ wa ∙ sym (variables code mode frame r d m w o e o₁ start es fits) in
        let hb = block m (suc d) (w * 2 + 1) (o + 2 ^ m) (start + stride + 2 ^ m / 2) (omega arith) (omega arith) below (omega arith) v ev
        (ap (λ (t : Tree ℕ (suc m)). t.1) sr) in
        let clips = same_three (clipped_nodes m mode.cap hs) ef₀ ef₁ wa ∙ clipped_sum code mode frame r d m w o e o₁ start es in
        let takes = same_three (taken_nodes m hs) ef₀ ef₁ wa ∙ taken_sum code mode frame r d m w o e o₁ start es in
        let b = decode_tree m mode (coefs_at m (start + stride + 2 ^ m / 2) stride cs) (window 0 m (o + 2 ^ m) map) v in
        record {
          held_is = λ i. (ha.held_is i, hb.held_is i);
          count_is = count_both m d w o e o₁ a b (clipped_nodes m mode.cap hs f.0 f.1 a.word) (taken_nodes m hs f.0 f.1 a.word) clips takes ha hb;
          taken_is = taken_both m d w o e o₁ a b (clipped_nodes m mode.cap hs f.0 f.1 a.word) (taken_nodes m hs f.0 f.1 a.word) clips takes ha hb;
        }

  -- the answer by halves
  abbrev A : BlockAnswer n
  A = decode_halves code mode frame

  -- its symbols
  abbrev r : List ℕ
  r = leaves n A.symbols

  -- N of them
  r_long : length r ≡ 2 ^ n
  r_long = length_leaves ℕ n A.symbols

  -- the whole word is one block
  word_is_whole : BlockIs r r_long n 0 0 A
  unfolding decode_halves frame_tree vectors
  word_is_whole =
      let k = coefs_at n 0 (2 ^ n / 2) cs in
      let mt = window_all 0 n map in
      let f = frame_tree n frame in
      let sr : window 0 n 0 r ≡ A.symbols = sym (window_all 0 n r) ∙ tree_of_leaves 0 n A.symbols in
      subst (λ (t : Tree ℕ n). BlockIs r r_long n 0 0 (decode_tree n mode k t f)) (sym mt)
      (block r r_long n 0 0 0 0 (zero-add n) (omega arith) (omega arith) (omega arith) f (window_all [] n (vectors code mode frame r 0))
      (sr ∙ ap (λ (t : Tree ℕ n). (decode_tree n mode k t f).symbols) mt))

  -- the vector held is the one of layer n
  held_there : (i : ℕ) (l : i < 2 ^ n) → at A.held (place_of n i l).0 ≡ held_at code mode frame r i
  unfolding held_at
  held_there i l =
      let q = place_of n i l in
      ap (λ (t : Vectors n). at t q.0) (sym word_is_whole.held_is) ∙ window_at [] q.0 0 (vectors code mode frame r n)
      ∙ ap (λ (x : ℕ). get_or (vectors code mode frame r n) x []) (zero-add (number q.0) ∙ q.1)

  -- so the symbols by halves are the answer
  answer : symbols code mode frame ≡ r
  unfolding decode_halves
  answer = answer_is code mode frame r r_long (λ i l.
      let q = place_of n i l in
      leaves_number 0 n i l A.symbols ∙ decoded_from q.0 mode (coefs_at n 0 (2 ^ n / 2) cs) (tree_of 0 n map) (frame_tree n frame)
      ∙ ap₂ (λ (x : ℕ) (v : List ℕ). decision (kind_of x) v) (tree_of_at 0 map q.0 ∙ ap (λ (x : ℕ). get_or map x 0) q.1) (held_there i l))

  -- what is held by halves is what is held by index
  held_same : (i : ℕ) → i < 2 ^ n → get_or (leaves n A.held) i [] ≡ held code mode frame i
  held_same i l =
      leaves_number [] n i l A.held ∙ held_there i l ∙ ap (λ (x : List ℕ). held_at code mode frame x i) (sym answer)
      ∙ sym (held_final code mode frame i l)

  -- the word by halves is the decoded word
  word_answer : leaves n A.word ≡ transform n cs (symbols code mode frame)
  unfolding decode_halves block_transform
  word_answer =
      let k = coefs_at n 0 (2 ^ n / 2) cs in
      ap (leaves n) (word_transform n mode k (tree_of 0 n map) (frame_tree n frame))
      ∙ ap (λ (t : Tree ℕ n). leaves n (transform_tree n k t)) (sym (tree_of_leaves 0 n A.symbols))
      ∙ sym (by_halves n cs r r_long) ∙ ap (transform n cs) (sym answer)

  -- what is taken off by halves is what is taken off by index
  taken_same : (i : ℕ) → i < 2 ^ n → get_or (leaves n A.taken) i 0 ≡ taken_off code mode frame (symbols code mode frame) i
  unfolding taken_off taken_from
  taken_same i l =
      leaves_number 0 n i l A.taken ∙ word_is_whole.taken_is (place_of n i l).0
      ∙ ap₂ (λ (x : List ℕ) (j : ℕ). sum_to n (λ d. taken_in code mode frame x (suc (0 + d)) j)) (sym answer) (zero-add (number (place_of n i l).0) ∙ (place_of n i l).1)
      ∙ sum_ext n (λ d. taken_in code mode frame (symbols code mode frame) (suc (0 + d)) i) (λ d. taken_in code mode frame (symbols code mode frame) (suc d) i)
      (λ d ld. ap (λ (x : ℕ). taken_in code mode frame (symbols code mode frame) (suc x) i) (zero-add d))

  -- the two forms of the decoder say the same
  pub same_answer : SameAnswer code mode frame
  unfolding count clip_count clipped_in report
  same_answer = record {
    same_symbols = sym answer;
    same_held = held_same;
    same_report = joined_ext (2 ^ n) (λ i. get_or (leaves n A.held) i []) (held code mode frame) held_same;
    same_totals =
        let long = length_leaves ℕ n A.taken in
        ext_get_or 0 (leaves n A.taken) (totals code mode frame) (long ∙ sym (totals_long code mode frame)) (λ i l.
        let k : i < 2 ^ n = subst (λ (x : ℕ). i < x) long l in
        taken_same i k ∙ sym (total_place code mode frame i k));
    same_count =
        word_is_whole.count_is
        ∙ sum_ext n (λ d. sum_to (2 ^ n / 2) (λ k. clipped_at code mode frame r (suc (0 + d)) (0 / 2 + k))) (λ d. sum_to (2 ^ n / 2) (clipped_at code mode frame r (suc d)))
        (λ d ld. sum_ext (2 ^ n / 2) (λ k. clipped_at code mode frame r (suc (0 + d)) (0 / 2 + k)) (clipped_at code mode frame r (suc d))
        (λ k lk. ap₂ (λ (x y : ℕ). clipped_at code mode frame r (suc x) y) (zero-add d) (zero-add k)))
        ∙ ap (λ (x : List ℕ). clip_count code mode frame x) (sym answer);
    same_word = word_answer;
  }

  -- in an unclipped frame the count by halves is 0
  pub halves_unclipped : Unclipped code mode frame → (decode_halves code mode frame).count ≡ 0
  halves_unclipped un = same_answer.same_count ∙ (count_zero code mode frame).unclipped_zero un
