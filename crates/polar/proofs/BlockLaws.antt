-- One step of the recursion over halves: what each call is given, and what they leave together.
use mathlib.Core.Path.{◌≡◌, refl, sym, ap, ap₂, ◌∙◌, subst}
use mathlib.Core.List.{List, ◌++◌}
use Prim.Native.Nat.{ℕ, zero, suc, ◌+◌, ◌-◌, ◌/◌, ◌^◌, ◌≤◌}
use native.Mathlib.Omega.{arith}
use lib.ListN.{length, get_or, take, drop, length-drop, take-append-drop, get_or-append}
use lib.Pow.{pow_mono}
use lib.Seq.{length-take-le, get_or-take, get_or-drop, get_or-append-add}
use Rattle.vector.proofs.LentParts.{tail, put, lent_tail, lent_both, lent_whole}
use Rattle.gf64.specs.Field.{◌⊕◌, ◌⊙◌}
use Rattle.polar.specs.Tree.{Tree, leaves, tree_of, Place, first, second, at, number}
use Rattle.polar.specs.Halves.{join, transform_tree, coefs_at, block_transform}
use Rattle.polar.specs.Parts.{Room, Block}
use Rattle.polar.specs.Join.{Halves, Joined}
use Rattle.polar.proofs.Numbers.{two_pow, half_pow}
use Rattle.polar.proofs.TreeLaws.{number_lt, map2_at, tree_of_at, length_leaves, leaves_at, leaves_by, leaves_tree_of}

-- ---- two halves joined

-- the coefficient of a kernel, by the number of its place
pub coef_in_tree : (p start : ℕ) (cs : List ℕ) (q : Place p) → get_or cs (start + number q) 1 ≡ at (tree_of 1 p (take (2 ^ p) (drop start cs))) q
coef_in_tree p start cs q =
    sym (tree_of_at 1 (take (2 ^ p) (drop start cs)) q ∙ get_or-take (2 ^ p) (drop start cs) (number q) 1 (number_lt q) ∙ get_or-drop start cs (number q) 1)

module _ (p start : ℕ) (cs a b after : List ℕ) (A B : Tree ℕ p) (ea : a ≡ leaves p A) (eb : b ≡ leaves p B) where
  -- an entry of the first half
  first_half_at : (q : Place p) → get_or (a ++ b) (number q) 0 ≡ at A q
  first_half_at q =
      get_or-append a b 0 (number q) (let l = number_lt q in let e = ap length ea ∙ length_leaves ℕ p A in omega arith)
      ∙ ap (λ (x : List ℕ). get_or x (number q) 0) ea ∙ leaves_at 0 q A

  -- and of the second
  second_half_at : (q : Place p) → get_or (a ++ b) (2 ^ p + number q) 0 ≡ at B q
  second_half_at q =
      ap (λ (x : ℕ). get_or (a ++ b) (x + number q) 0) (sym (ap length ea ∙ length_leaves ℕ p A)) ∙ get_or-append-add a b (number q) 0
      ∙ ap (λ (x : List ℕ). get_or x (number q) 0) eb ∙ leaves_at 0 q B

  -- the coefficients of the kernels between them
  abbrev H : Tree ℕ p
  H = tree_of 1 p (take (2 ^ p) (drop start cs))

  module _ (long : length after ≡ 2 ^ suc p) (j : Joined (2 ^ p) start cs (a ++ b) after) where
    -- what stands at each place then
    joined_at : (q : Place (suc p)) → get_or after (number q) 0 ≡ at (join p H A B) q
    unfolding join at number
    joined_at (first q) = j.sums (number q) (number_lt q) ∙ ap₂ ◌⊕◌ (first_half_at q) (second_half_at q) ∙ sym (map2_at ◌⊕◌ q A B)
    joined_at (second q) = j.products (number q) (number_lt q) ∙ ap₂ ◌⊙◌ (coef_in_tree p start cs q) (second_half_at q) ∙ sym (map2_at ◌⊙◌ q H B)

    -- two halves that are the leaves of two trees, joined: the leaves of the joined tree
    pub joined_leaves : after ≡ leaves (suc p) (join p (tree_of 1 p (take (2 ^ p) (drop start cs))) A B)
    joined_leaves = leaves_by 0 (suc p) after (join p H A B) long joined_at

-- ---- the step at p + 1 layers, whose halves have 2^p places

module _ (p start stride : ℕ) (cs word : List ℕ) (given : Block (suc p) (2 ^ p) start stride cs word) where
  -- the word has room for a half
  half_le : 2 ^ p ≤ length word
  half_le = let q = two_pow p in let e = given.long in omega arith

  -- the coefficients of the kernels that join the halves are there
  room_join : start + 2 ^ p ≤ length cs
  unfolding Room
  room_join = given.room.0

  -- those of the first half
  room_first : Room p (start + stride) stride (length cs)
  unfolding Room
  room_first = given.room.1

  -- and of the second
  room_second : Room p (start + stride + 2 ^ p / 2) stride (length cs)
  unfolding Room
  room_second = given.room.2

  -- what the call on the first half is given
  first_is_block : Block p (2 ^ p / 2) (start + stride) stride cs (take (2 ^ p) word)
  first_is_block = record {
    few_layers = (let l = given.few_layers in omega arith);
    halved = refl;
    stride_small = given.stride_small;
    few_coefs = given.few_coefs;
    room = room_first;
    long = length-take-le (2 ^ p) word half_le;
  }

  module _ (a : List ℕ) (la : length a ≡ length (take (2 ^ p) word)) where
    -- what the call on the second half is given
    second_is_block : Block p (2 ^ p / 2) (start + stride + 2 ^ p / 2) stride cs (tail (2 ^ p) (a ++ drop (2 ^ p) word))
    second_is_block = record {
      few_layers = (let l = given.few_layers in omega arith);
      halved = refl;
      stride_small = given.stride_small;
      few_coefs = given.few_coefs;
      room = room_second;
      long = ap length (lent_tail (2 ^ p) word a la half_le) ∙ length-drop (2 ^ p) word ∙ (let q = two_pow p in let e = given.long in omega arith);
    }

    module _ (b : List ℕ) (lb : length b ≡ length (tail (2 ^ p) (a ++ drop (2 ^ p) word))) where
      -- the word when both halves are back
      abbrev w : List ℕ
      w = put (2 ^ p) (a ++ drop (2 ^ p) word) b

      -- what the kernels that join them are given
      halves : Halves (2 ^ p) start cs w
      halves = record {
        few = (let l = pow_mono {i = p} {j = 7} (let m = given.few_layers in omega arith) in omega arith);
        few_coefs = given.few_coefs;
        room = room_join;
        long = lent_whole (2 ^ p) word a la half_le b lb ∙ given.long ∙ two_pow p;
      }

      module _
          (ea : a ≡ block_transform p (start + stride) stride cs (take (2 ^ p) word))
          (eb : b ≡ block_transform p (start + stride + 2 ^ p / 2) stride cs (tail (2 ^ p) (a ++ drop (2 ^ p) word)))
          (after : List ℕ) (lw : length after ≡ length w) (j : Joined (2 ^ p) start cs w after) where
        -- the first half, transformed
        A : Tree ℕ p
        A = transform_tree p (coefs_at p (start + stride) stride cs) (tree_of 0 p (take (2 ^ p) word))

        -- and the second
        B : Tree ℕ p
        B = transform_tree p (coefs_at p (start + stride + 2 ^ p / 2) stride cs) (tree_of 0 p (drop (2 ^ p) word))

        -- the first half is that tree's list
        a_leaves : a ≡ leaves p A
        unfolding block_transform A
        a_leaves = ea

        -- and the second
        b_leaves : b ≡ leaves p B
        unfolding block_transform B
        b_leaves =
            eb ∙ ap (λ (x : List ℕ). leaves p (transform_tree p (coefs_at p (start + stride + 2 ^ p / 2) stride cs) (tree_of 0 p x))) (lent_tail (2 ^ p) word a la half_le)

        -- so the whole is the block, transformed
        transformed : after ≡ block_transform (suc p) start stride cs word
        unfolding block_transform transform_tree coefs_at tree_of A B
        transformed =
            joined_leaves p start cs a b after A B a_leaves b_leaves (lw ∙ lent_whole (2 ^ p) word a la half_le b lb ∙ given.long)
            (subst (λ (x : List ℕ). Joined (2 ^ p) start cs x after) (lent_both (2 ^ p) word a la half_le b) j)

-- ---- the step at L layers, halves of `half` places

-- what is shown at p + 1 layers, put to use at L layers
pub split : (P : ℕ → ℕ → ℕ → Type 0) → ((p : ℕ) → P (suc p) p (2 ^ p)) → (L half : ℕ) → (L ≡ 0 → ⊥) → half ≡ 2 ^ L / 2 → P L (L - 1) half
split P f zero half ne e = absurd (ne refl)
split P f (suc p) half ne e =
    let a : suc p - 1 ≡ p = omega arith in
    subst (λ (x : ℕ). P (suc p) x half) (sym a) (subst (λ (x : ℕ). P (suc p) p x) (sym (e ∙ half_pow p)) (f p))

-- the sizes that index arithmetic needs
pub record Sizes (half start : ℕ) (word : List ℕ) : Type 0 where
  pub few : half ≤ 128
  pub start_small : start ≤ 1024
  pub within : half ≤ length word

-- the statements of the step, at L layers, L − 1 = q and halves of h places
module _ (start stride : ℕ) (cs word : List ℕ) where
  -- it has the sizes
  abbrev HasSizes : ℕ → ℕ → ℕ → Type 0
  HasSizes L q h = Block L h start stride cs word → Sizes h start word

  -- what the first call is given
  abbrev First : ℕ → ℕ → ℕ → Type 0
  First L q h = Block L h start stride cs word → Block q (h / 2) (start + stride) stride cs (take h word)

  -- what the second is given
  abbrev Second : ℕ → ℕ → ℕ → Type 0
  Second L q h =
      Block L h start stride cs word → (a : List ℕ) → length a ≡ length (take h word)
      → Block q (h / 2) (start + stride + h / 2) stride cs (tail h (a ++ drop h word))

  -- what the kernels between are given
  abbrev Joins : ℕ → ℕ → ℕ → Type 0
  Joins L q h =
      Block L h start stride cs word → (a b : List ℕ) → length a ≡ length (take h word) → length b ≡ length (tail h (a ++ drop h word))
      → Halves h start cs (put h (a ++ drop h word) b)

  -- what is left
  abbrev Transformed : ℕ → ℕ → ℕ → Type 0
  Transformed L q h =
      Block L h start stride cs word → (a b after : List ℕ) → length a ≡ length (take h word) → length b ≡ length (tail h (a ++ drop h word))
      → length after ≡ length (put h (a ++ drop h word) b)
      → a ≡ block_transform q (start + stride) stride cs (take h word)
      → b ≡ block_transform q (start + stride + h / 2) stride cs (tail h (a ++ drop h word))
      → Joined h start cs (put h (a ++ drop h word) b) after → after ≡ block_transform L start stride cs word

module _ {L half start stride : ℕ} {cs word : List ℕ} (ne : L ≡ 0 → ⊥) (given : Block L half start stride cs word) where
  -- the sizes
  pub at_sizes : Sizes half start word
  at_sizes = split (HasSizes start stride cs word) (λ p g. record {
    few = (let l = pow_mono {i = p} {j = 7} (let m = g.few_layers in omega arith) in omega arith);
    start_small = (let r = room_join p start stride cs word g in let f = g.few_coefs in omega arith);
    within = half_le p start stride cs word g;
  }) L half ne given.halved given

  -- what the call on the first half is given
  pub at_first : Block (L - 1) (half / 2) (start + stride) stride cs (take half word)
  at_first = split (First start stride cs word) (λ p g. first_is_block p start stride cs word g) L half ne given.halved given

  module _ (a : List ℕ) (la : length a ≡ length (take half word)) where
    -- what the call on the second half is given
    pub at_second : Block (L - 1) (half / 2) (start + stride + half / 2) stride cs (tail half (a ++ drop half word))
    at_second = split (Second start stride cs word) (λ p g. second_is_block p start stride cs word g) L half ne given.halved given a la

    module _ (b : List ℕ) (lb : length b ≡ length (tail half (a ++ drop half word))) where
      -- what the kernels that join them are given
      pub at_joins : Halves half start cs (put half (a ++ drop half word) b)
      at_joins = split (Joins start stride cs word) (λ p g a b la. halves p start stride cs word g a la b) L half ne given.halved given a b la lb

      -- what is left is the block, transformed
      pub at_transformed : (after : List ℕ) → length after ≡ length (put half (a ++ drop half word) b)
          → a ≡ block_transform (L - 1) (start + stride) stride cs (take half word)
          → b ≡ block_transform (L - 1) (start + stride + half / 2) stride cs (tail half (a ++ drop half word))
          → Joined half start cs (put half (a ++ drop half word) b) after → after ≡ block_transform L start stride cs word
      at_transformed after =
          split (Transformed start stride cs word)
          (λ p g a b after la lb lw ea eb j. transformed p start stride cs word g a la b lb ea eb after lw j) L half ne given.halved given a b after la lb

-- a block of one place is transformed as it stands
one_place : (start stride : ℕ) (cs word : List ℕ) → length word ≡ 1 → word ≡ block_transform 0 start stride cs word
unfolding block_transform transform_tree
one_place start stride cs word l = sym (leaves_tree_of 0 0 word l)

-- no layer: one place, which stays
pub at_leaf : {L half start stride : ℕ} {cs word : List ℕ} → L ≡ 0 → Block L half start stride cs word → word ≡ block_transform L start stride cs word
at_leaf {L} {half} {start} {stride} {cs} {word} e g =
    subst (λ (x : ℕ). word ≡ block_transform x start stride cs word) (sym e) (one_place start stride cs word (g.long ∙ ap (λ (x : ℕ). 2 ^ x) e))

-- ---- one layer: two places, whose halves stay

module _ {L half start stride : ℕ} {cs word : List ℕ} (e : L ≡ 1) (g : Block L half start stride cs word) where
  -- there is a layer
  some : L ≡ 0 → ⊥
  some z = absurd (omega arith)

  -- each half has none
  none : L - 1 ≡ 0
  none = omega arith

  -- the halves, as they were
  abbrev front : List ℕ
  front = take half word

  abbrev back : List ℕ
  back = drop half word

  -- the second half where it is lent
  back_lent : tail half (front ++ back) ≡ back
  back_lent = lent_tail half word front refl (at_sizes some g).within

  -- and its length
  back_long : length back ≡ length (tail half (front ++ back))
  back_long = sym (ap length back_lent)

  -- with both halves put back the word is what it was
  whole : put half (front ++ back) back ≡ word
  whole = lent_both half word front refl (at_sizes some g).within back ∙ take-append-drop half word

  -- what the kernel that joins them is given
  pub at_pair_given : Halves half start cs word
  at_pair_given = subst (λ (w : List ℕ). Halves half start cs w) whole (at_joins some g front refl back back_long)

  -- what is left is the block, transformed
  pub at_pair : (after : List ℕ) → length after ≡ length word → Joined half start cs word after → after ≡ block_transform L start stride cs word
  at_pair after l j =
      at_transformed some g front refl back back_long after (l ∙ ap length (sym whole))
      (at_leaf none (at_first some g))
      (sym back_lent ∙ at_leaf none (at_second some g front refl))
      (subst (λ (w : List ℕ). Joined half start cs w after) (sym whole) j)
