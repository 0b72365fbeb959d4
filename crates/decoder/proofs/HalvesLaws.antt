-- One step of the decoder by halves: what a block leaves, from what its halves left and the nodes of the kernels that join them.
use mathlib.Core.Path.{◌≡◌, sym, ap, ap₂, ◌∙◌, subst}
use mathlib.Core.List.{List, ◌++◌}
use Prim.Native.Nat.{ℕ, suc, ◌+◌, ◌*◌, ◌/◌, ◌^◌, ◌≤◌, ◌<◌}
use native.Mathlib.Nat.{suc-mul, mul-add}
use native.Mathlib.Omega.{arith}
use lib.Pow.{pow_pos}
use lib.ListN.{length, get_or, take, drop}
use Rattle.vector.specs.Vector.{vector_at, sum_to}
use Rattle.polar.specs.Tree.{Tree, map1, map3, map4, tree_sum, All, tree_of, leaves, Place, first, second, at, number}
use Rattle.polar.specs.Halves.{coefs_at}
use Rattle.polar.specs.Join.{Joined}
use Rattle.polar.proofs.Numbers.{two_pow}
use Rattle.polar.proofs.TreeLaws.{number_lt, place_of, map1_at, map3_at, map4_at, all_by, all_at, ext_at, leaves_at}
use Rattle.scms.specs.Nodes.{check_node_by, lowered, variable_node, clipped_entries}
use Rattle.scms.specs.Halves.{Vectors, BlockAnswer, frame_tree, check_nodes, variable_nodes, clipped_nodes, taken_nodes, check_nodes_by, decode_tree_by}
use Rattle.scms.proofs.TreeSums.{sum_of_tree}
use Rattle.scms.proofs.TreeLists.{frame_at}
use Rattle.scms.proofs.ByHalves.{same_three}
use Rattle.decoder.specs.declared.vectors.BlockAt.{BlockAt}
use Rattle.decoder.specs.declared.layers.NodeSums.{NodeSums}
use Rattle.decoder.specs.Parts.{largest_number, AreCheckNodes, AreVariableNodes, clipped_to, taken_to, vectors_from, block_answer, TakenFits, BlockDecoded}
use Rattle.polar.proofs.BlockLaws.{coef_in_tree, joined_leaves}
use Rattle.vector.proofs.SliceLaws.{vector_first, vector_second, vector_drop}

-- a frame's vectors are a tree's if each is
pub frame_by : (m : ℕ) (frame : List ℕ) (f : Vectors m) → ((p : Place m) → vector_at frame (number p) ≡ at f p) → frame_tree m frame ≡ f
frame_by m frame f h = ext_at m (frame_tree m frame) f (λ p. frame_at m frame p ∙ h p)

-- the vector at a place of a block is the one with its number
pub vectors_at : (m o : ℕ) (source : List ℕ) (p : Place m) → at (vectors_from m o source) p ≡ vector_at source (o + number p)
vectors_at m o source p = frame_at m (drop (64 * o) source) p ∙ vector_drop o source (number p)

-- a block's vectors are a tree's if each is
pub vectors_by : (m o : ℕ) (source : List ℕ) (f : Vectors m) → ((p : Place m) → vector_at source (o + number p) ≡ at f p) → vectors_from m o source ≡ f
vectors_by m o source f h = frame_by m (drop (64 * o) source) f (λ p. vector_drop o source (number p) ∙ h p)

-- a function of four things that are equal to four others
same_four : {A B C D E : Type 0} {a a' : A} {b b' : B} {c c' : C} {d d' : D} (f : A → B → C → D → E) → a ≡ a' → b ≡ b' → c ≡ c' → d ≡ d'
    → f a b c d ≡ f a' b' c' d'
same_four f p q r s = λ i. f (p i) (q i) (r i) (s i)

-- the kernels that join the halves of a block of 2^(p + 1) places
module _ (p : ℕ) (block : BlockAt) (cs source : List ℕ) where
  -- the number of its first vector
  abbrev o : ℕ
  o = block.at

  -- their coefficients
  abbrev H : Tree ℕ p
  H = tree_of 1 p (take (2 ^ p) (drop block.start cs))

  -- the block's vectors
  abbrev F : Vectors (suc p)
  F = vectors_from (suc p) o source

  -- its vector at a place of the first half
  first_half_at : (q : Place p) → vector_at source (o + number q) ≡ at F.0 q
  unfolding at number
  first_half_at q = sym (vectors_at (suc p) o source (first q))

  -- and of the second
  second_half_at : (q : Place p) → vector_at source (o + (2 ^ p + number q)) ≡ at F.1 q
  unfolding at number
  second_half_at q = sym (vectors_at (suc p) o source (second q))

  -- the check nodes
  checks_tree : (ys : List ℕ) → AreCheckNodes block (2 ^ p) cs source (2 ^ p) ys → vectors_from p (o + (2 ^ p + 2 ^ p)) ys ≡ check_nodes p block.candidates H F.0 F.1
  unfolding check_nodes_by
  checks_tree ys h = vectors_by p (o + (2 ^ p + 2 ^ p)) ys (map3 p (check_node_by block.candidates) H F.0 F.1) (λ q.
      h (number q) (number_lt q) ∙ same_three (check_node_by block.candidates) (coef_in_tree p block.start cs q) (first_half_at q) (second_half_at q)
      ∙ sym (map3_at (check_node_by block.candidates) q H F.0 F.1))

  -- the symbols of the first half, as a list and as a tree
  module _ (w : List ℕ) (W : Tree ℕ p) (hw : (q : Place p) → get_or w (number q) 0 ≡ at W q) where
    -- the variable nodes
    variables_tree : (zs : List ℕ) → AreVariableNodes block (2 ^ p) cs source w (2 ^ p) zs
        → vectors_from p (o + (2 ^ p + 2 ^ p)) zs ≡ variable_nodes p block.cap H F.0 F.1 W
    unfolding variable_nodes
    variables_tree zs h = vectors_by p (o + (2 ^ p + 2 ^ p)) zs (map4 p (λ k v w s. variable_node block.cap k s v w) H F.0 F.1 W) (λ q.
        h (number q) (number_lt q) ∙ same_four (λ k v w s. variable_node block.cap k s v w) (coef_in_tree p block.start cs q) (first_half_at q) (second_half_at q) (hw q)
        ∙ sym (map4_at (λ k v w s. variable_node block.cap k s v w) q H F.0 F.1 W))

    -- the sum over them of what a function makes of a kernel's coefficient, vectors and symbol
    node_sum : (f : ℕ → List ℕ → List ℕ → ℕ → ℕ)
        → sum_to (2 ^ p) (λ t. f (get_or cs (block.start + t) 1) (vector_at source (o + t)) (vector_at source (o + (2 ^ p + t))) (get_or w t 0))
        ≡ tree_sum p (map4 p f H F.0 F.1 W)
    node_sum f =
        sym (sum_of_tree p (map4 p f H F.0 F.1 W)
        (λ t. f (get_or cs (block.start + t) 1) (vector_at source (o + t)) (vector_at source (o + (2 ^ p + t))) (get_or w t 0)) (λ q.
        map4_at f q H F.0 F.1 W ∙ sym (same_four f (coef_in_tree p block.start cs q) (first_half_at q) (second_half_at q) (hw q))))

    -- their count of clipped entries
    clipped_tree : clipped_to block (2 ^ p) cs source w (2 ^ p) ≡ clipped_nodes p block.cap H F.0 F.1 W
    unfolding clipped_nodes
    clipped_tree = node_sum (λ k v w s. clipped_entries block.cap k s v w)

    -- and what they took off
    taken_tree : taken_to block (2 ^ p) cs source w (2 ^ p) ≡ taken_nodes p H F.0 F.1 W
    unfolding taken_nodes
    taken_tree = node_sum (λ k v w s. (lowered k s v w).taken)

-- a report of two halves, one after the other
module _ (p : ℕ) (a b : List ℕ) (la : length a ≡ 64 * 2 ^ p) where
  -- its first half is the first report
  report_first : (frame_tree (suc p) (a ++ b)).0 ≡ frame_tree p a
  unfolding at number
  report_first = sym (frame_by p a (frame_tree (suc p) (a ++ b)).0 (λ q.
      sym (vector_first (2 ^ p) a b (number q) la (number_lt q)) ∙ sym (frame_at (suc p) (a ++ b) (first q))))

  -- its second half the second
  report_second : (frame_tree (suc p) (a ++ b)).1 ≡ frame_tree p b
  unfolding at number
  report_second = sym (frame_by p b (frame_tree (suc p) (a ++ b)).1 (λ q.
      sym (vector_second (2 ^ p) a b (number q) la) ∙ sym (frame_at (suc p) (a ++ b) (second q))))

-- the count of a block: its halves' and that of the nodes that join them
few_more : (p left clipped right : ℕ) → left ≤ 64 * (p * 2 ^ p) → clipped ≤ 64 * 2 ^ p → right ≤ 64 * (p * 2 ^ p) → left + clipped + right ≤ 64 * (suc p * 2 ^ suc p)
few_more p left clipped right a b c =
    let e : suc p * 2 ^ suc p ≡ (2 ^ p + 2 ^ p) + p * (2 ^ p + 2 ^ p) = ap (λ (x : ℕ). suc p * x) (two_pow p) ∙ suc-mul p (2 ^ p + 2 ^ p) ∙ omega arith in
    let f : p * (2 ^ p + 2 ^ p) ≡ p * 2 ^ p + p * 2 ^ p = mul-add p (2 ^ p) (2 ^ p) in
    omega arith

-- a half of a block: one layer less, its coefficients from s on, its vectors from number `at` on, and what was taken off
abbrev pub half_at : BlockAt → (layers s at taken : ℕ) → BlockAt
half_at block layers s at taken = record { layers = layers; start = s; at = at; places = block.places; cap = block.cap; candidates = block.candidates; taken = taken }

-- a block with this many layers
abbrev pub with_layers : BlockAt → ℕ → BlockAt
with_layers block layers = half_at block layers block.start block.at block.taken

-- to add two numbers at every place is to add the second and then the first
more_off : (p before more : ℕ) (b : Tree ℕ p) → map1 p (λ x. x + (before + more)) b ≡ map1 p (λ x. x + before) (map1 p (λ x. x + more) b)
more_off p before more b = ext_at p (map1 p (λ x. x + (before + more)) b) (map1 p (λ x. x + before) (map1 p (λ x. x + more) b)) (λ q.
    let x = at b q in
    map1_at (λ x. x + (before + more)) q b ∙ omega arith
    ∙ sym (map1_at (λ x. x + before) q (map1 p (λ x. x + more) b) ∙ ap (λ (y : ℕ). y + before) (map1_at (λ x. x + more) q b)))

-- what a call of `decode_block` left in the buffers that it was lent, and its count
pub record Left : Type 0 where
  pub work : List ℕ
  pub word : List ℕ
  pub symbols : List ℕ
  pub report : List ℕ
  pub totals : List ℕ
  pub count : ℕ

-- a block's answer is what such a call left
abbrev pub AnswerLeft : (block : BlockAt) (cs map : List ℕ) → Vectors block.layers → Left → Type 0
AnswerLeft block cs map g a = BlockDecoded block cs map g a.word a.symbols a.report a.totals a.count

-- a block, whose vectors are those of `source` from its number on, and its halves, which have q layers and h places each
module _ (block : BlockAt) (cs map source : List ℕ) where
  -- where the coefficients of the next layer begin
  abbrev pub first_start : ℕ
  first_start = block.start + block.places / 2

  -- the number from which on the vectors of a half stand
  abbrev next : (h : ℕ) → ℕ
  next h = block.at + (h + h)

  -- the first half
  abbrev pub first_at : (q h : ℕ) → BlockAt
  first_at q h = half_at block q first_start (next h) block.taken

  -- and the second, the nodes that join the two having taken off `taken`
  abbrev pub second_at : (q h taken : ℕ) → BlockAt
  second_at q h taken = half_at block q (first_start + h / 2) (next h) (block.taken + taken)

  -- what is known after the first half: its vectors stand in ys, its answer is what the call left, and w begins with its word
  pub record FirstDone (q h : ℕ) (ys w : List ℕ) (a : Left) : Type 0 where
    pub checked : AreCheckNodes block h cs source h ys
    pub decoded : AnswerLeft (first_at q h) cs (take h map) (vectors_from q (next h) ys) a
    pub in_word : (t : ℕ) → t < h → get_or w t 0 ≡ get_or a.word t 0

  -- and after the variable nodes: they stand in zs
  pub record NodesDone (h : ℕ) (zs w : List ℕ) (sums : NodeSums) : Type 0 where
    pub nodes : AreVariableNodes block h cs source w h zs
    pub count_is : sums.count ≡ clipped_to block h cs source w h
    pub few : sums.count ≤ 64 * h
    pub taken_is : sums.taken ≡ taken_to block h cs source w h

  -- what a block with L layers leaves, from what its halves left
  abbrev pub Step : (L q h : ℕ) → Type 0
  Step L q h =
      (ys zs w after : List ℕ) (a b : Left) (sums : NodeSums) → FirstDone q h ys w a → NodesDone h zs w sums
      → AnswerLeft (second_at q h sums.taken) cs (drop h map) (vectors_from q (next h) zs) b
      → length a.report ≡ 64 * h → length after ≡ 2 ^ L → Joined h block.start cs (a.word ++ b.word) after
      → BlockDecoded (with_layers block L) cs map (vectors_from L block.at source) after (a.symbols ++ b.symbols) (a.report ++ b.report)
      (a.totals ++ b.totals) (a.count + sums.count + b.count)

  -- what is taken off fits in 16 bits: in the first half,
  abbrev pub FirstFits : (L q h : ℕ) → Type 0
  FirstFits L q h =
      TakenFits (with_layers block L) cs map source → (ys : List ℕ) → AreCheckNodes block h cs source h ys → TakenFits (first_at q h) cs (take h map) ys

  -- in the nodes that join the halves,
  abbrev pub NodesFit : (L q h : ℕ) → Type 0
  NodesFit L q h =
      TakenFits (with_layers block L) cs map source → (ys w : List ℕ) (a : Left) → FirstDone q h ys w a
      → block.taken + taken_to block h cs source w h ≤ largest_number

  -- and in the second half
  abbrev pub SecondFits : (L q h : ℕ) → Type 0
  SecondFits L q h =
      TakenFits (with_layers block L) cs map source → (ys zs w : List ℕ) (a : Left) (sums : NodeSums) → FirstDone q h ys w a → NodesDone h zs w sums
      → TakenFits (second_at q h sums.taken) cs (drop h map) zs

  -- all of these for L = p + 1 layers
  module _ (p : ℕ) where
    -- the coefficients of the kernels that join the halves
    abbrev hs : Tree ℕ p
    hs = H p block cs source

    -- the block's vectors
    abbrev f : Vectors (suc p)
    f = F p block cs source

    -- the first half's answer
    abbrev A : BlockAnswer p
    A = block_answer (first_at p (2 ^ p)) cs (take (2 ^ p) map) (check_nodes p block.candidates hs f.0 f.1)

    -- the vectors of the second half
    abbrev variables : Vectors p
    variables = variable_nodes p block.cap hs f.0 f.1 A.word

    -- what the nodes that make them took off
    abbrev off : ℕ
    off = taken_nodes p hs f.0 f.1 A.word

    -- and the second half's answer
    abbrev B : BlockAnswer p
    B = block_answer (second_at p (2 ^ p) 0) cs (drop (2 ^ p) map) variables

    module _ (ys w : List ℕ) (a : Left) (d : FirstDone p (2 ^ p) ys w a) where
      -- what the first half left, from its vectors as a tree
      by_checks : AnswerLeft (first_at p (2 ^ p)) cs (take (2 ^ p) map) (check_nodes p block.candidates hs f.0 f.1) a
      by_checks =
          subst (λ (g : Vectors p). AnswerLeft (first_at p (2 ^ p)) cs (take (2 ^ p) map) g a) (checks_tree p block cs source ys d.checked) d.decoded

      -- the symbols that the variable nodes are given are those of its word
      word_at : (q : Place p) → get_or w (number q) 0 ≡ at A.word q
      word_at q = d.in_word (number q) (number_lt q) ∙ ap (λ (x : List ℕ). get_or x (number q) 0) by_checks.word_is ∙ leaves_at 0 q A.word

      -- and what the nodes took off
      off_is : taken_to block (2 ^ p) cs source w (2 ^ p) ≡ off
      off_is = taken_tree p block cs source w A.word word_at

      -- the vectors of the second half, as a tree
      variables_are : (zs : List ℕ) (sums : NodeSums) → NodesDone (2 ^ p) zs w sums → vectors_from p (next (2 ^ p)) zs ≡ variables
      variables_are zs sums v = variables_tree p block cs source w A.word word_at zs v.nodes

    -- the step
    pub step : Step (suc p) p (2 ^ p)
    unfolding decode_tree_by coefs_at tree_of leaves map1
    step ys zs w after a b sums d v s lr la j =
        let e_a = by_checks ys w a d in
        let e_b = subst (λ (g : Vectors p). AnswerLeft (second_at p (2 ^ p) sums.taken) cs (drop (2 ^ p) map) g b) (variables_are ys w a d zs sums v) s in
        record {
          word_is = joined_leaves p block.start cs a.word b.word after A.word B.word e_a.word_is e_b.word_is la j;
          symbols_are = ap₂ (λ (x y : List ℕ). x ++ y) e_a.symbols_are e_b.symbols_are;
          report_is = λ i. ((report_first p a.report b.report lr ∙ e_a.report_is) i, (report_second p a.report b.report lr ∙ e_b.report_is) i);
          totals_are = ap₂ (λ (x y : List ℕ). x ++ y) e_a.totals_are
              (e_b.totals_are
              ∙ ap (leaves p) (ap (λ (x : ℕ). map1 p (λ y. y + (block.taken + x)) B.taken) (v.taken_is ∙ off_is ys w a d) ∙ more_off p block.taken off B.taken));
          count_is = same_three (λ (x y z : ℕ). x + y + z) e_a.count_is
              (v.count_is ∙ clipped_tree p block cs source w A.word (word_at ys w a d)) e_b.count_is;
          few = few_more p a.count sums.count b.count e_a.few v.few e_b.few;
        }

    -- the first half
    pub first_fits : FirstFits (suc p) p (2 ^ p)
    unfolding decode_tree_by coefs_at tree_of All
    first_fits fits ys checked =
        subst (λ (g : Vectors p). All p (λ x. x + block.taken ≤ largest_number) (block_answer (first_at p (2 ^ p)) cs (take (2 ^ p) map) g).taken)
        (sym (checks_tree p block cs source ys checked)) fits.0

    -- a place of the second half
    place_fits : TakenFits (with_layers block (suc p)) cs map source → (q : Place p) → at B.taken q + (block.taken + off) ≤ largest_number
    unfolding decode_tree_by coefs_at tree_of All
    place_fits fits q =
        let x = all_at (λ x. x + block.taken ≤ largest_number) q (map1 p (λ x. x + off) B.taken) fits.1 in
        let e = map1_at (λ x. x + off) q B.taken in
        omega arith

    -- the nodes
    pub nodes_fit : NodesFit (suc p) p (2 ^ p)
    nodes_fit fits ys w a d =
        let x = place_fits fits (place_of p 0 (pow_pos p)).0 in
        let e = off_is ys w a d in
        omega arith

    -- the second half
    pub second_fits : SecondFits (suc p) p (2 ^ p)
    second_fits fits ys zs w a sums d v =
        let Fit : ℕ → Type 0 = λ x. x + (block.taken + sums.taken) ≤ largest_number in
        subst (λ (g : Vectors p). All p Fit (block_answer (second_at p (2 ^ p) sums.taken) cs (drop (2 ^ p) map) g).taken)
        (sym (variables_are ys w a d zs sums v))
        (all_by Fit p B.taken (λ q.
        subst (λ (y : ℕ). at B.taken q + (block.taken + y) ≤ largest_number) (sym (v.taken_is ∙ off_is ys w a d)) (place_fits fits q)))
