-- What the functions inside this crate are given, and what they leave. No public call asks any of this.
use Rattle.std.specs.Prelude.{ℕ, ◌+◌, ◌*◌, ◌/◌, ◌^◌, ◌≤◌, ◌<◌, ◌≡◌, List, [], ◌∷◌, ◌++◌, length, get_or, drop}
use Rattle.vector.specs.Vector.{vector_at, sum_to, HasZero, AtMost}
use Rattle.vector.specs.Frame.{largest_llr}
use Rattle.polar_code.specs.Code.{kind_of, Coefficients}
use Rattle.polar.specs.Tree.{map1, All, leaves, tree_of}
use Rattle.polar.specs.Halves.{coefs_at}
use Rattle.polar.specs.Parts.{Block}
use Rattle.scms.specs.Mode.{Mode}
use Rattle.scms.specs.Nodes.{Lowered, ordered, check_node_by, less_from, clipped, exceeding, lowered}
use Rattle.scms.specs.Nodes.{variable_node, clipped_entries}
use Rattle.scms.specs.Decision.{decision}
use Rattle.scms.specs.Halves.{Vectors, BlockAnswer, decode_tree, frame_tree}
use Rattle.decoder.specs.declared.vectors.BlockAt.{BlockAt}
use Rattle.decoder.specs.declared.layers.NodeSums.{NodeSums}

-- the largest number of 16 bits
abbrev pub largest_number : ℕ
largest_number = 65535

-- ---- the vectors of the frame, N of them, and after them those of the work buffer, numbered from 0 on. A block's
-- vectors are 2^m of them from one number on; those of its halves, one layer on, come after them.

-- what `load_vector` is given: the frame has `places` vectors, and number i is one of them or of the work buffer's
pub record Numbered (places i : ℕ) (frame work : List ℕ) : Type 0 where
  pub whole : length frame ≡ 64 * places
  pub there : 64 * (i + 1) ≤ length frame + length work

-- the first vectors of a list are as they were
abbrev pub Kept : (count : ℕ) (before after : List ℕ) → Type 0
Kept count before after = (i : ℕ) → i < count → vector_at after i ≡ vector_at before i

-- ---- the nodes of the kernels that join two halves of a block: kernel t has the block's places t and half + t, and
-- coefficient start + t

-- what they are given
pub record LayerGiven (block : BlockAt) (half : ℕ) (frame work : List ℕ) : Type 0 where
  pub few : half ≤ 128
  pub whole : length frame ≡ 64 * block.places
  pub in_work : block.places ≤ block.at + (half + half)
  pub long : 64 * (block.at + (half + half) + half) ≤ length frame + length work
  pub most : (i : ℕ) → i < half + half → AtMost largest_llr (vector_at (frame ++ work) (block.at + i))

-- and with it the check nodes their coefficients, and a number of values to try
pub record KernelsGiven (block : BlockAt) (half : ℕ) (cs frame work : List ℕ) : Type 0 where
  pub layer : LayerGiven block half frame work
  pub tries : 1 ≤ block.candidates
  pub few_coefs : length cs ≤ 1024
  pub room : block.start + half ≤ length cs

-- θ's vector of kernel t
abbrev pub theta_at : (at : ℕ) (source : List ℕ) (t : ℕ) → List ℕ
theta_at at source t = vector_at source (at + t)

-- and φ's
abbrev pub phi_at : (at half : ℕ) (source : List ℕ) (t : ℕ) → List ℕ
phi_at at half source t = vector_at source (at + (half + t))

-- the block's kernels, and the list from which its vectors are read
module _ (block : BlockAt) (half : ℕ) (cs source : List ℕ) where
  -- the coefficient of kernel t
  abbrev pub coef_at : ℕ → ℕ
  coef_at t = get_or cs (block.start + t) 1

  -- φ's vector of kernel t, in the order of c
  abbrev pub ordered_at : ℕ → List ℕ
  ordered_at t = ordered (coef_at t) (phi_at block.at half source t)

  -- those of the first `count` kernels are the first vectors of another list
  abbrev pub AreOrdered : (count : ℕ) (target : List ℕ) → Type 0
  AreOrdered count target = (t : ℕ) → t < count → vector_at target t ≡ ordered_at t

  -- the check node of kernel t, made from the block's vectors
  abbrev pub check_at : ℕ → List ℕ
  check_at t =
      check_node_by block.candidates (coef_at t) (theta_at block.at source t) (phi_at block.at half source t)

  -- those of the first `count` kernels stand in another list after the block's vectors
  abbrev pub AreCheckNodes : (count : ℕ) (target : List ℕ) → Type 0
  AreCheckNodes count target = (t : ℕ) → t < count → vector_at target (block.at + (half + half) + t) ≡ check_at t

  -- the symbols decided in the first half
  module _ (word : List ℕ) where
    -- the variable node of kernel t, with φ's vector as it came
    abbrev pub variable_at : ℕ → List ℕ
    variable_at t =
        variable_node block.cap (coef_at t) (get_or word t 0) (theta_at block.at source t)
        (phi_at block.at half source t)

    -- those of the first `count` kernels, as the check nodes above
    abbrev pub AreVariableNodes : (count : ℕ) (target : List ℕ) → Type 0
    AreVariableNodes count target = (t : ℕ) → t < count → vector_at target (block.at + (half + half) + t) ≡ variable_at t

    -- their count of clipped entries
    abbrev pub clipped_to : (count : ℕ) → ℕ
    clipped_to count = sum_to count (λ t.
        clipped_entries block.cap (coef_at t) (get_or word t 0) (theta_at block.at source t)
        (phi_at block.at half source t))

    -- and what they took off
    abbrev pub taken_to : (count : ℕ) → ℕ
    taken_to count = sum_to count (λ t.
        (lowered (coef_at t) (get_or word t 0) (theta_at block.at source t) (phi_at block.at half source t)).taken)

-- what `check_nodes` leaves, of the work buffer before and after it and of the slice for φ's vectors
pub record CheckNodesWritten (block : BlockAt) (half : ℕ) (cs frame work after target : List ℕ) : Type 0 where
  pub kept : Kept (block.at + (half + half)) (frame ++ work) (frame ++ after)
  pub nodes : AreCheckNodes block half cs (frame ++ work) half (frame ++ after)
  pub ordered_are : AreOrdered block half cs (frame ++ work) half target

-- the symbols of the first half that variable nodes are given
pub record FirstSymbols (half : ℕ) (word : List ℕ) : Type 0 where
  pub enough : half ≤ length word
  pub symbols : (t : ℕ) → t < half → get_or word t 0 < 64

-- φ's vectors in the order of c that they are given
pub record OrderedGiven (half : ℕ) (given : List ℕ) : Type 0 where
  pub long : 64 * half ≤ length given
  pub most : (t : ℕ) → t < half → AtMost largest_llr (vector_at given t)

-- the sums of the variable node of kernel t, less the least of them: what it is before the clip, and what it took off
abbrev pub less_at : (at : ℕ) (word source given : List ℕ) (t : ℕ) → Lowered
less_at at word source given t = less_from (get_or word t 0) (theta_at at source t) (vector_at given t)

-- what the nodes of the first `count` kernels took off
abbrev pub less_to : (at : ℕ) (word source given : List ℕ) (count : ℕ) → ℕ
less_to at word source given count = sum_to count (λ t. (less_at at word source given t).taken)

-- what all of them take off fits in 16 bits
abbrev pub SumFits : (at half : ℕ) (word source given : List ℕ) → Type 0
SumFits at half word source given = less_to at word source given half ≤ largest_number

-- what `variable_nodes` leaves: each node clipped, the count of clipped entries, and what the nodes took off
pub record VariableNodesWritten (block : BlockAt) (half : ℕ) (word frame work given after : List ℕ)
    (sums : NodeSums) : Type 0 where
  pub kept : Kept (block.at + (half + half)) (frame ++ work) (frame ++ after)
  pub nodes : (t : ℕ) → t < half
      → vector_at (frame ++ after) (block.at + (half + half) + t)
      ≡ clipped block.cap (less_at block.at word (frame ++ work) given t).rest
  pub count_is : sums.count
      ≡ sum_to half (λ t. exceeding block.cap (less_at block.at word (frame ++ work) given t).rest)
  pub few : sums.count ≤ 64 * half
  pub taken_is : sums.taken ≡ less_to block.at word (frame ++ work) given half

-- ---- one place

-- what `decode_place` is given
pub record OnePlace (block : BlockAt) (map frame work word symbols report totals : List ℕ) : Type 0 where
  pub map_long : length map ≡ 1
  pub word_long : length word ≡ 1
  pub symbols_long : length symbols ≡ 1
  pub report_long : length report ≡ 64
  pub totals_long : length totals ≡ 1
  pub numbered : Numbered block.places block.at frame work

-- and what it leaves: what was taken off, the symbol decided from the place's vector, and this vector reported
pub record PlaceDecoded (block : BlockAt) (map frame work word symbols report totals : List ℕ) : Type 0 where
  pub totals_are : totals ≡ block.taken ∷ []
  pub word_is : word ≡ decision (kind_of (get_or map 0 0)) (vector_at (frame ++ work) block.at) ∷ []
  pub symbols_are : symbols ≡ decision (kind_of (get_or map 0 0)) (vector_at (frame ++ work) block.at) ∷ []
  pub report_is : vector_at report 0 ≡ vector_at (frame ++ work) block.at

-- ---- a block

-- the vectors of 2^m places from number `at` on, as a tree
abbrev pub vectors_from : (m at : ℕ) → List ℕ → Vectors m
vectors_from m at source = frame_tree m (drop (64 * at) source)

-- what the nodes go by
abbrev pub mode_at : BlockAt → Mode
mode_at block = record { cap = block.cap; candidates = block.candidates }

-- a block's answer, from its vectors
abbrev pub block_answer : (block : BlockAt) (cs map : List ℕ) → Vectors block.layers → BlockAnswer block.layers
block_answer block cs map f =
    decode_tree block.layers (mode_at block) (coefs_at block.layers block.start (block.places / 2) cs)
    (tree_of 0 block.layers map) f

-- what is taken off along the line of each of its places fits in 16 bits, the layers before its own counted
abbrev pub TakenFits : (block : BlockAt) (cs map source : List ℕ) → Type 0
TakenFits block cs map source =
    All block.layers (λ x. x + block.taken ≤ largest_number)
    (block_answer block cs map (vectors_from block.layers block.at source)).taken

-- a vector that a block is given: no entry above 8,191, and one that is 0, so that no entry of a check node is above
-- that number either
pub record BlockVector (v : List ℕ) : Type 0 where
  pub most : AtMost largest_llr v
  pub zero : HasZero v

-- what `decode_block` is given
pub record BlockGiven (block : BlockAt) (cs map frame work word symbols report totals : List ℕ) : Type 0 where
  pub of_word : Block block.layers (length map / 2) block.start (block.places / 2) cs word
  pub cap_small : block.cap ≤ largest_llr
  pub tries : 1 ≤ block.candidates
  pub nonzero : Coefficients cs
  pub map_long : length map ≡ 2 ^ block.layers
  pub symbols_long : length symbols ≡ 2 ^ block.layers
  pub report_long : length report ≡ 64 * 2 ^ block.layers
  pub totals_long : length totals ≡ 2 ^ block.layers
  pub whole : length frame ≡ 64 * block.places
  pub in_work : block.places ≤ block.at + 2 ^ block.layers
  pub long : 64 * (block.at + (2 ^ block.layers + 2 ^ block.layers)) ≤ length frame + length work + 64
  pub vectors : (i : ℕ) → i < 2 ^ block.layers → BlockVector (vector_at (frame ++ work) (block.at + i))
  pub taken_fits : TakenFits block cs map (frame ++ work)

-- what is left of it in the buffers
pub record BlockDecoded (block : BlockAt) (cs map : List ℕ) (f : Vectors block.layers)
    (word symbols report totals : List ℕ) (count : ℕ) : Type 0 where
  pub word_is : word ≡ leaves block.layers (block_answer block cs map f).word
  pub symbols_are : symbols ≡ leaves block.layers (block_answer block cs map f).symbols
  pub report_is : frame_tree block.layers report ≡ (block_answer block cs map f).held
  pub totals_are : totals
      ≡ leaves block.layers (map1 block.layers (λ x. x + block.taken) (block_answer block cs map f).taken)
  pub count_is : count ≡ (block_answer block cs map f).count
  pub few : count ≤ 64 * (block.layers * 2 ^ block.layers)

-- what `decode_block` leaves: that answer, and the block's own vectors and all before them as they were
pub record WorkDecoded (block : BlockAt) (cs map frame work after word symbols report totals : List ℕ)
    (count : ℕ) : Type 0 where
  pub decoded : BlockDecoded block cs map (vectors_from block.layers block.at (frame ++ work))
      word symbols report totals count
  pub kept : Kept (block.at + 2 ^ block.layers) (frame ++ work) (frame ++ after)
