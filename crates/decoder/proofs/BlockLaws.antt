-- What each call inside `decode_block` is given, and what they leave together.
use mathlib.Core.Path.{◌≡◌, refl, sym, ap, ap₂, ◌∙◌, subst}
use mathlib.Core.List.{List, [], ◌∷◌, ◌++◌}
use Prim.Native.Nat.{ℕ, ◌+◌, ◌*◌, ◌-◌, ◌/◌, ◌^◌, ◌≤◌, ◌<◌}
use native.Mathlib.Nat.{le_trans, add-zero, zero-add, mul-le-mul}
use native.Mathlib.Omega.{arith}
use lib.Pow.{pow_mono, pow_pos}
use lib.ListN.{length, get_or, take, drop, length-drop, get_or-append}
use lib.Seq.{length-take-le}
use Rattle.vector.specs.Vector.{vector_at, AtMost}
use Rattle.vector.specs.Frame.{largest_llr}
use Rattle.gf64.specs.Field.{NonZero}
use Rattle.polar_code.specs.Code.{kind_of, Coefficients}
use Rattle.polar.specs.Tree.{map1, leaves, tree_of, here, at, number}
use Rattle.polar.specs.Halves.{coefs_at}
use Rattle.polar.specs.Parts.{Block}
use Rattle.polar.specs.Join.{Halves, Joined}
use Rattle.polar.proofs.Numbers.{two_pow}
use Rattle.polar.proofs.TreeLaws.{all_leaves}
use Rattle.polar.proofs.OneToOne.{Symbol, coef_nonzero}
use Rattle.polar.proofs.BlockLaws as polar
use Rattle.vector.proofs.LentParts.{tail, put, tail_drop, front_long, lent_long, lent_tail, lent_both, lent_whole}
use Rattle.polar.proofs.BlockLaws.{split}
use Rattle.vector.proofs.Laws.{sum_ext}
use Rattle.vector.proofs.SliceLaws.{vector_drop}
use Rattle.scms.specs.Nodes.{Lowered, check_node_by, less_from, clipped, exceeding, variable_node}
use Rattle.scms.specs.Decision.{decision}
use Rattle.scms.specs.Halves.{Vectors, decode_tree, frame_tree, decode_tree_by}
use Rattle.scms.proofs.NodeLaws.{check_zero, check_most, llrs_from, count_from, taken_by_order, variable_zero, variable_cap}
use Rattle.scms.proofs.TreeLists.{frame_at}
use Rattle.scms.proofs.TreeDecoder.{decoded_word}
use Rattle.phi_order.proofs.OrderLaws.{ordered_small}
use Rattle.decoder.specs.Parts.{largest_number, Kept, LayerGiven, KernelsGiven, CheckNodesWritten, FirstSymbols, OrderedGiven, SumFits, ordered_at, less_at, less_to, taken_to, VariableNodesWritten, OnePlace, PlaceDecoded, BlockVector, BlockGiven, vectors_from, mode_at, block_answer, TakenFits, BlockDecoded, WorkDecoded}
use Rattle.decoder.specs.declared.vectors.BlockAt.{BlockAt}
use Rattle.decoder.specs.declared.layers.NodeSums.{NodeSums}
use Rattle.decoder.proofs.LayerLaws.{source_small}
use Rattle.decoder.proofs.HalvesLaws.{half_at, with_layers, Left, AnswerLeft, FirstDone, NodesDone, Step, FirstFits, NodesFit, SecondFits, step, first_fits, nodes_fit, second_fits}

-- ---- words

-- a word that is decoded has symbols only
word_symbols : (block : BlockAt) (cs map : List ℕ) (f : Vectors block.layers) (i : ℕ) → i < 2 ^ block.layers
    → get_or (leaves block.layers (block_answer block cs map f).word) i 0 < 64
word_symbols block cs map f =
    let m = block.layers in
    let mode = mode_at block in
    let k = coefs_at m block.start (block.places / 2) cs in
    let t = tree_of 0 m map in
    all_leaves 0 Symbol m (decode_tree m mode k t f).word (decoded_word m mode k t f)

-- ---- vectors

-- a check node of two such vectors is one
check_vector : (m h : ℕ) (cs v w : List ℕ) (i : ℕ) → 1 ≤ m → h ≡ get_or cs i 1 → Coefficients cs → BlockVector v → BlockVector w
    → BlockVector (check_node_by m h v w)
check_vector m h cs v w i one e g a b =
    let u = subst NonZero (sym e) (coef_nonzero cs g i) in
    record { most = check_most largest_llr m h v w one u a.most b.zero; zero = check_zero m h v w one u a.zero b.zero }

-- a variable node always is, at a cap of at most 8,191
variable_vector : (cap h u : ℕ) (v w : List ℕ) → cap ≤ largest_llr → BlockVector (variable_node cap h u v w)
variable_vector cap h u v w l = record { most = λ b lb. le_trans (variable_cap cap h u v w b lb) l; zero = variable_zero cap h u v w }

-- ---- counts

-- a block's count is far below what 32 bits hold
count_small : (m count : ℕ) → m ≤ 8 → count ≤ 64 * (m * 2 ^ m) → count ≤ 131072
count_small m count l h = let a = mul-le-mul {n₁ = m} {m₁ = 2 ^ m} {n₂ = 8} {m₂ = 256} l (pow_mono {i = m} {j = 8} l) in omega arith

-- ---- a block with a layer

-- a call of `decode_block` left its buffers and its count as it promises
abbrev pub LeftBy : (block : BlockAt) (cs map frame work : List ℕ) → Left → Type 0
LeftBy block cs map frame work a = WorkDecoded block cs map frame work a.work a.word a.symbols a.report a.totals a.count

module _ {block : BlockAt} {cs map frame work word symbols report totals : List ℕ} (ne : block.layers ≡ 0 → ⊥)
    (g : BlockGiven block cs map frame work word symbols report totals) where
  -- its layers
  abbrev L : ℕ
  L = block.layers

  -- where its coefficients begin
  abbrev start : ℕ
  start = block.start

  -- the number of its first vector
  abbrev o : ℕ
  o = block.at

  -- the cap of its variable nodes
  abbrev cap : ℕ
  cap = block.cap

  -- the places of a half
  abbrev half : ℕ
  half = length map / 2

  -- the entries of the report of a half
  abbrev cut : ℕ
  cut = 64 * half

  -- the number from which on the vectors of a half stand
  abbrev next : ℕ
  next = o + (half + half)

  -- how much further on the coefficients of the next layer are
  abbrev stride : ℕ
  stride = block.places / 2

  -- the first half as a block
  abbrev pub first_block : BlockAt
  first_block = half_at block (L - 1) (start + stride) next block.taken

  -- and the second, the nodes that join the two having taken off `taken`
  abbrev pub second_block : (taken : ℕ) → BlockAt
  second_block taken = half_at block (L - 1) (start + stride + half / 2) next (block.taken + taken)

  -- a half has 2^(L − 1) places
  one : 2 ^ (L - 1) ≡ half
  one = split (λ (x q h : ℕ). 2 ^ q ≡ h) (λ p. refl) L half ne g.of_word.halved

  -- and the block twice as many
  two : 2 ^ L ≡ half + half
  two = split (λ (x q h : ℕ). 2 ^ x ≡ h + h) two_pow L half ne g.of_word.halved

  -- the sizes that index arithmetic needs
  pub record Sizes : Type 0 where
    pub few : half ≤ 128
    pub start_small : start ≤ 1024
    pub stride_small : stride ≤ 128
    pub in_map : half ≤ length map
    pub in_word : half ≤ length word
    pub in_symbols : half ≤ length symbols
    pub in_report : cut ≤ length report
    pub in_totals : half ≤ length totals

  -- it has them
  pub at_sizes : Sizes
  at_sizes =
      let z = polar.at_sizes ne g.of_word in
      let t = two in
      let a = g.map_long in
      let b = g.symbols_long in
      let c = g.report_long in
      let d = g.totals_long in
      record {
        few = z.few;
        start_small = z.start_small;
        stride_small = g.of_word.stride_small;
        in_map = omega arith;
        in_word = z.within;
        in_symbols = omega arith;
        in_report = omega arith;
        in_totals = omega arith;
      }

  -- what the nodes of its kernels are given, the block's vectors being as they were
  layer_given : {xs : List ℕ} → length xs ≡ length work → Kept next (frame ++ work) (frame ++ xs) → LayerGiven block half frame xs
  layer_given {xs} lx k =
      let z = polar.at_sizes ne g.of_word in
      let t = two in
      let p = one in
      let pos = pow_pos (L - 1) in
      let a = g.long in
      let b = g.in_work in
      record {
        few = z.few;
        whole = g.whole;
        in_work = omega arith;
        long = omega arith;
        most = λ i l. subst (AtMost largest_llr) (sym (k (o + i) (omega arith))) (g.vectors i (omega arith)).most;
      }

  -- and the check nodes
  pub kernels_given : KernelsGiven block half cs frame work
  kernels_given = record { layer = layer_given refl (λ i l. refl); tries = g.tries; few_coefs = g.of_word.few_coefs; room = room_join }
    where
      room_join : start + half ≤ length cs
      room_join =
          let a = take half word in
          (polar.at_joins ne g.of_word a refl (tail half (a ++ drop half word)) refl).room

  -- the second half of the report has room for φ's vectors
  pub at_room : cut ≤ length (tail cut report)
  at_room =
      let t = two in
      let c = g.report_long in
      let d = ap length (tail_drop cut report) ∙ length-drop cut report in
      omega arith

  -- with other numbers there the block is given what it was
  pub at_report : {rs : List ℕ} → length rs ≡ length report → BlockGiven block cs map frame work word symbols rs totals
  at_report e = record {
    of_word = g.of_word;
    cap_small = g.cap_small;
    tries = g.tries;
    nonzero = g.nonzero;
    map_long = g.map_long;
    symbols_long = g.symbols_long;
    report_long = e ∙ g.report_long;
    totals_long = g.totals_long;
    whole = g.whole;
    in_work = g.in_work;
    long = g.long;
    vectors = g.vectors;
    taken_fits = g.taken_fits;
  }

  -- what the call on a half is given, its vectors being the nodes' that stand after the block's own
  half_given : (s taken : ℕ) (bytes xs w ss rs ts : List ℕ) → length bytes ≡ half → length xs ≡ length work → Block (L - 1) (half / 2) s stride cs w
      → length ss ≡ half → length rs ≡ cut → length ts ≡ half → ((i : ℕ) → i < half → BlockVector (vector_at (frame ++ xs) (next + i)))
      → TakenFits (half_at block (L - 1) s next taken) cs bytes (frame ++ xs) → BlockGiven (half_at block (L - 1) s next taken) cs bytes frame xs w ss rs ts
  half_given s taken bytes xs w ss rs ts lb lx b ls lr lt vectors fits =
      let t = two in
      let p = one in
      let x = g.in_work in
      let z = g.long in
      record {
        of_word = subst (λ (h : ℕ). Block (L - 1) (h / 2) s stride cs w) (sym lb) b;
        cap_small = g.cap_small;
        tries = g.tries;
        nonzero = g.nonzero;
        map_long = lb ∙ sym p;
        symbols_long = ls ∙ sym p;
        report_long = lr ∙ ap (λ (h : ℕ). 64 * h) (sym p);
        totals_long = lt ∙ sym p;
        whole = g.whole;
        in_work = omega arith;
        long = omega arith;
        vectors = λ i l. vectors i (omega arith);
        taken_fits = fits;
      }

  -- the first half, from check nodes
  pub at_first : {work1 X : List ℕ} → length work1 ≡ length work → CheckNodesWritten block half cs frame work work1 X
      → BlockGiven first_block cs (take half map) frame work1 (take half word) (take half symbols) (take cut report) (take half totals)
  at_first {work1} {X} l1 ch =
      let z = at_sizes in
      let t = two in
      let source = frame ++ work in
      half_given (start + stride) block.taken (take half map) work1 (take half word) (take half symbols) (take cut report) (take half totals)
      (length-take-le half map z.in_map) l1 (polar.at_first ne g.of_word) (length-take-le half symbols z.in_symbols)
      (length-take-le cut report z.in_report) (length-take-le half totals z.in_totals)
      (λ i l. subst BlockVector (sym (ch.nodes i l))
      (check_vector block.candidates (get_or cs (start + i) 1) cs (vector_at source (o + i)) (vector_at source (o + (half + i))) (start + i)
      g.tries refl g.nonzero
      (g.vectors i (omega arith)) (g.vectors (half + i) (omega arith))))
      (split (FirstFits block cs map source) (first_fits block cs map source) L half ne g.of_word.halved g.taken_fits (frame ++ work1) ch.nodes)

  -- what is known after the first half: X is what the check nodes left in the second half of the report, A what the call left
  pub record FirstHalf (work1 X : List ℕ) (A : Left) : Type 0 where
    pub checked_long : length work1 ≡ length work
    pub checked : CheckNodesWritten block half cs frame work work1 X
    pub in_report : drop cut report ≡ X
    pub work_long : length A.work ≡ length work1
    pub word_long : length A.word ≡ length (take half word)
    pub symbols_long : length A.symbols ≡ length (take half symbols)
    pub report_long : length A.report ≡ length (take cut report)
    pub totals_long : length A.totals ≡ length (take half totals)
    pub decoded : LeftBy first_block cs (take half map) frame work1 A

  module _ {work1 X : List ℕ} {A : Left} (f : FirstHalf work1 X A) where
    -- the word so far
    abbrev w : List ℕ
    w = A.word ++ drop half word

    -- the symbols
    abbrev ss : List ℕ
    ss = A.symbols ++ drop half symbols

    -- the report
    abbrev rs : List ℕ
    rs = A.report ++ drop cut report

    -- and the totals
    abbrev ts : List ℕ
    ts = A.totals ++ drop half totals

    -- the block's vectors are as they were
    kept2 : Kept next (frame ++ work) (frame ++ A.work)
    kept2 i l = f.decoded.kept i (omega arith) ∙ f.checked.kept i l

    -- the word of the first half has a symbol for each of its places
    word_half : length A.word ≡ half
    word_half = front_long half word A.word f.word_long at_sizes.in_word

    -- and is the first part of the word so far
    in_first : (t : ℕ) → t < half → get_or w t 0 ≡ get_or A.word t 0
    in_first t l = get_or-append A.word (drop half word) 0 t (let e = word_half in omega arith)

    -- what the variable nodes are given
    pub at_variable : LayerGiven block half frame A.work
    at_variable = layer_given (f.work_long ∙ f.checked_long) kept2

    -- the part of the report that they are lent
    abbrev lent : List ℕ
    lent = tail cut rs

    -- is what the check nodes left there
    lent_same : lent ≡ X
    lent_same = lent_tail cut report A.report f.report_long at_sizes.in_report ∙ f.in_report

    -- φ's vectors in the order of c
    ordered_is : (t : ℕ) → t < half → vector_at lent t ≡ ordered_at block half cs (frame ++ work) t
    ordered_is t l = ap (λ (xs : List ℕ). vector_at xs t) lent_same ∙ f.checked.ordered_are t l

    -- so it is among what the variable nodes are given
    pub at_ordered : OrderedGiven half lent
    at_ordered = record {
      long = (let t = two in let c = g.report_long in let d = ap length (lent_tail cut report A.report f.report_long at_sizes.in_report) ∙ length-drop cut report in omega arith);
      most = λ t l. (ordered_small (get_or cs (start + t) 1) (vector_at (frame ++ work) (o + (half + t))) (vector_at lent t) (ordered_is t l) (source_small (layer_given refl (λ i s. refl)) (half + t) (omega arith))).most;
    }

    -- the symbols among it
    pub at_symbols : FirstSymbols half w
    at_symbols = record {
      enough = (let e = lent_long half word A.word f.word_long at_sizes.in_word in let z = at_sizes.in_word in omega arith);
      symbols = λ t l. let p = one in subst (λ (x : ℕ). x < 64) (sym (in_first t l ∙ ap (λ (x : List ℕ). get_or x t 0) f.decoded.decoded.word_is))
          (word_symbols first_block cs (take half map) (vectors_from (L - 1) next (frame ++ work1)) t (omega arith));
    }

    -- the block's vectors as they came
    abbrev source : List ℕ
    source = frame ++ work

    -- what the step of the block needs to know of it
    first_done : FirstDone block cs map source (L - 1) half (frame ++ work1) w A
    first_done = record { checked = f.checked.nodes; decoded = f.decoded.decoded; in_word = in_first }

    -- a node before the clip, and what it took off, from these vectors
    less_is : (t : ℕ) → t < half → less_at o w (frame ++ A.work) lent t ≡ less_from (get_or w t 0) (vector_at source (o + t)) (ordered_at block half cs source t)
    less_is t l = ap₂ (less_from (get_or w t 0)) (kept2 (o + t) (omega arith)) (ordered_is t l)

    -- what all of them took off
    off_is : less_to o w (frame ++ A.work) lent half ≡ taken_to block half cs source w half
    off_is = sum_ext half (λ t. (less_at o w (frame ++ A.work) lent t).taken) _ (λ t l.
        ap (λ (x : Lowered). x.taken) (less_is t l) ∙ taken_by_order (get_or cs (start + t) 1) (get_or w t 0) _ _)

    -- it fits, what was taken off before counted
    off_fits : block.taken + taken_to block half cs source w half ≤ largest_number
    off_fits = split (NodesFit block cs map source) (nodes_fit block cs map source) L half ne g.of_word.halved g.taken_fits (frame ++ work1) w A first_done

    -- so it is among what the variable nodes are given
    pub at_sum : SumFits o half w (frame ++ A.work) lent
    at_sum = let a = off_is in let b = off_fits in omega arith

    module _ {work3 : List ℕ} {sums : NodeSums} (l3 : length work3 ≡ length A.work) (v : VariableNodesWritten block half w frame A.work lent work3 sums) where
      -- the variable nodes, from the block's vectors as they came, their count of clipped entries, and what they took off
      nodes_done : NodesDone block cs map source half (frame ++ work3) w sums
      nodes_done = record {
        nodes = λ t l. v.nodes t l ∙ ap (λ (x : Lowered). clipped cap x.rest) (less_is t l) ∙ llrs_from cap (get_or cs (start + t) 1) (get_or w t 0) _ _;
        count_is = v.count_is
            ∙ sum_ext half (λ t. exceeding cap (less_at o w (frame ++ A.work) lent t).rest) _ (λ t l.
            ap (λ (x : Lowered). exceeding cap x.rest) (less_is t l) ∙ count_from cap (get_or cs (start + t) 1) (get_or w t 0) _ _);
        few = v.few;
        taken_is = v.taken_is ∙ off_is;
      }

      -- what was taken off before and what they took off fit
      pub at_taken : block.taken + sums.taken ≤ largest_number
      at_taken = let a = nodes_done.taken_is in let b = off_fits in omega arith

      -- the second half, from variable nodes
      pub at_second : BlockGiven (second_block sums.taken) cs (tail half map) frame work3 (tail half w) (tail half ss) (tail cut rs) (tail half ts)
      at_second =
          let z = at_sizes in
          let t = two in
          let a = g.map_long in
          let b = g.symbols_long in
          let c = g.report_long in
          let d = g.totals_long in
          half_given (start + stride + half / 2) (block.taken + sums.taken) (tail half map) work3 (tail half w) (tail half ss) (tail cut rs) (tail half ts)
          (ap length (tail_drop half map) ∙ length-drop half map ∙ omega arith) (l3 ∙ f.work_long ∙ f.checked_long) (polar.at_second ne g.of_word A.word f.word_long)
          (ap length (lent_tail half symbols A.symbols f.symbols_long z.in_symbols) ∙ length-drop half symbols ∙ omega arith)
          (ap length (lent_tail cut report A.report f.report_long z.in_report) ∙ length-drop cut report ∙ omega arith)
          (ap length (lent_tail half totals A.totals f.totals_long z.in_totals) ∙ length-drop half totals ∙ omega arith)
          (λ i l. subst BlockVector (sym (nodes_done.nodes i l))
          (variable_vector cap (get_or cs (start + i) 1) (get_or w i 0) (vector_at source (o + i)) (vector_at source (o + (half + i))) g.cap_small))
          (subst (λ (x : List ℕ). TakenFits (second_block sums.taken) cs x (frame ++ work3)) (sym (tail_drop half map))
          (split (SecondFits block cs map source) (second_fits block cs map source) L half ne g.of_word.halved g.taken_fits
          (frame ++ work1) (frame ++ work3) w A sums first_done nodes_done))

      -- and what is known after it: B is what the call left
      pub record SecondHalf (B : Left) : Type 0 where
        pub word_long : length B.word ≡ length (tail half w)
        pub decoded : LeftBy (second_block sums.taken) cs (tail half map) frame work3 B

      module _ {B : Left} (s : SecondHalf B) where
        -- what the kernels that join the two words are given
        pub at_joins : Halves half start cs (put half w B.word)
        at_joins = polar.at_joins ne g.of_word A.word f.word_long B.word s.word_long

        -- the counts of the halves and of the nodes that join them
        abbrev sum : ℕ
        sum = A.count + sums.count + B.count

        -- they add up within 32 bits
        pub at_count : sum ≤ 300000
        at_count =
            let m = g.of_word.few_layers in
            let a = count_small (L - 1) A.count (omega arith) f.decoded.decoded.few in
            let b = count_small (L - 1) B.count (omega arith) s.decoded.decoded.few in
            let c = v.few in
            let d = at_sizes.few in
            omega arith

        -- the block is decoded, the joined words being `after`
        abbrev pub JoinedBy : (after : List ℕ) → Type 0
        JoinedBy after =
            WorkDecoded block cs map frame work B.work after (put half ss B.symbols) (put cut rs B.report) (put half ts B.totals) sum

        -- it is
        pub at_done : {after : List ℕ} → length after ≡ length (put half w B.word) → Joined half start cs (put half w B.word) after → JoinedBy after
        at_done {after} la j =
            let z = at_sizes in
            let t = two in
            let both-symbols = sym (lent_both half symbols A.symbols f.symbols_long z.in_symbols B.symbols) in
            let both-reports = sym (lent_both cut report A.report f.report_long z.in_report B.report) in
            let both-totals = sym (lent_both half totals A.totals f.totals_long z.in_totals B.totals) in
            record {
              decoded = subst (AnswerLeft block cs map (vectors_from L o source))
                  (λ i. record { work = B.work; word = after; symbols = both-symbols i; report = both-reports i; totals = both-totals i; count = sum })
                  (split (Step block cs map source) (step block cs map source) L half ne g.of_word.halved
                  (frame ++ work1) (frame ++ work3) w after A B sums first_done nodes_done
                  (subst (λ (x : List ℕ). AnswerLeft (second_block sums.taken) cs x (vectors_from (L - 1) next (frame ++ work3)) B) (tail_drop half map) s.decoded.decoded)
                  (front_long cut report A.report f.report_long z.in_report)
                  (la ∙ lent_whole half word A.word f.word_long z.in_word B.word s.word_long ∙ g.of_word.long)
                  (subst (λ (x : List ℕ). Joined half start cs x after) (lent_both half word A.word f.word_long z.in_word B.word) j));
              kept = λ i l. s.decoded.kept i (omega arith) ∙ v.kept i (omega arith) ∙ kept2 i (omega arith);
            }

-- ---- one place

-- the one vector of a frame of one place
one_vector : (xs : List ℕ) → frame_tree 0 xs ≡ vector_at xs 0
unfolding at number
one_vector xs = frame_at 0 xs here

-- the one from number o on
one_from : (o : ℕ) (source : List ℕ) → vectors_from 0 o source ≡ vector_at source o
one_from o source = one_vector (drop (64 * o) source) ∙ vector_drop o source 0 ∙ ap (vector_at source) (add-zero o)

-- its place, decoded
one_place : (block : BlockAt) (cs map source w s r t : List ℕ)
    → let symbol = decision (kind_of (get_or map 0 0)) (vector_at source block.at) in
    w ≡ symbol ∷ [] → s ≡ symbol ∷ [] → vector_at r 0 ≡ vector_at source block.at → t ≡ block.taken ∷ []
    → BlockDecoded (with_layers block 0) cs map (vectors_from 0 block.at source) w s r t 0
unfolding decode_tree_by tree_of leaves map1
one_place block cs map source w s r t ew es er et =
    let o = block.at in
    let e : decision (kind_of (get_or map 0 0)) (vector_at source o) ∷ [] ≡ decision (kind_of (get_or map 0 0)) (vectors_from 0 o source) ∷ []
    = ap (λ (v : List ℕ). decision (kind_of (get_or map 0 0)) v ∷ []) (sym (one_from o source)) in
    record {
      word_is = ew ∙ e;
      symbols_are = es ∙ e;
      report_is = one_vector r ∙ er ∙ sym (one_from o source);
      totals_are = et ∙ ap (λ (x : ℕ). x ∷ []) (sym (zero-add block.taken));
      count_is = refl;
      few = omega arith;
    }

module _ {block : BlockAt} {cs map frame work word symbols report totals : List ℕ} (e : block.layers ≡ 0)
    (g : BlockGiven block cs map frame work word symbols report totals) where
  -- a block with no layer
  single : 2 ^ block.layers ≡ 1
  single = ap (λ (x : ℕ). 2 ^ x) e

  -- what its place is given
  pub at_place : OnePlace block map frame work word symbols report totals
  at_place =
      let s = single in
      let l = g.long in
      record {
        map_long = g.map_long ∙ s;
        word_long = g.of_word.long ∙ s;
        symbols_long = g.symbols_long ∙ s;
        report_long = g.report_long ∙ ap (λ (x : ℕ). 64 * x) s;
        totals_long = g.totals_long ∙ s;
        numbered = record { whole = g.whole; there = omega arith };
      }

  -- and what it leaves is the block decoded
  pub at_leaf : {w s r t : List ℕ} → PlaceDecoded block map frame work w s r t → WorkDecoded block cs map frame work work w s r t 0
  at_leaf {w} {s} {r} {t} d = record {
    decoded = subst (λ (x : ℕ). BlockDecoded (with_layers block x) cs map (vectors_from x block.at (frame ++ work)) w s r t 0) (sym e)
        (one_place block cs map (frame ++ work) w s r t d.word_is d.symbols_are d.report_is d.totals_are);
    kept = λ i l. refl;
  }
