-- The clipped entries of a block, what was taken off in it, and its vectors: by index and as trees.
use mathlib.Core.Path.{◌≡◌, sym, ap, ap₂, ◌∙◌}
use mathlib.Core.List.{List, []}
use Prim.Native.Nat.{ℕ, zero, suc, ◌+◌, ◌*◌, ◌/◌, ◌%◌, ◌-◌, ◌^◌, ◌≤◌, ◌<◌}
use native.Mathlib.Nat.{add-zero, zero-mul, one-mul}
use native.Mathlib.Omega.{arith}
use lib.Arith.{digits_div}
use lib.ListN.{take, drop}
use Rattle.vector.specs.Vector.{sum_to}
use Rattle.vector.proofs.Laws.{sum_ext, sum_first, sum_split, sum_add}
use Rattle.polar_code.specs.Code.{Code}
use Rattle.polar.specs.Transform.{coefficient, layers}
use Rattle.polar.specs.Tree.{Tree, map3, map4, tree_of, Place, at, number, tree_sum}
use Rattle.polar.proofs.Numbers.{two_pow, half_pow}
use Rattle.polar.proofs.TreeLaws.{number_lt, map3_at, map4_at, ext_at}
use Rattle.polar.proofs.Windows.{window, block_coefs}
use Rattle.scms.specs.Mode.{Mode}
use Rattle.scms.specs.Nodes.{check_node_by, variable_node, lowered, clipped_entries}
use Rattle.scms.specs.Decoder.{theta_symbol, vectors, theta_vector, phi_vector, lowered_at, clipped_at, taken_in}
use Rattle.scms.specs.Halves.{Vectors, check_nodes, variable_nodes, clipped_nodes, taken_nodes, check_nodes_by}
use Rattle.scms.proofs.TreeSums.{sum_of_tree}
use Rattle.scms.proofs.Blocks.{theta_in_block, phi_in_block, u_in_block, check_of, variable_of}

-- from one layer on 2^m is even
even_pow : (m : ℕ) → 0 < m → 2 ^ m ≡ 2 ^ m / 2 + 2 ^ m / 2
even_pow zero l = absurd (omega arith)
even_pow (suc m) l = let p = two_pow m in let q = half_pow m in omega arith

module _ (code : Code) (mode : Mode) (frame r : List ℕ) where
  -- the number of layers
  abbrev n : ℕ
  n = code.n

  -- the cap of its variable nodes
  abbrev cap : ℕ
  cap = mode.cap

  -- the coefficients
  abbrev cs : List ℕ
  cs = code.coefs

  -- the vectors of layer d
  abbrev vs : ℕ → List (List ℕ)
  vs d = vectors code mode frame r d

  -- the clipped entries of the last m layers in a block of 2^m places from o on
  unfoldable pub clipped_in : (m d o : ℕ) → ℕ
  clipped_in m d o = sum_to m (λ j. sum_to (2 ^ m / 2) (λ k. clipped_at code mode frame r (suc (d + j)) (o / 2 + k)))

  -- what the last m layers took off on the line of a place
  unfoldable pub taken_from : (m d i : ℕ) → ℕ
  taken_from m d i = sum_to m (λ j. taken_in code mode frame r (suc (d + j)) i)

  -- one layer more at the front
  pub taken_more : (m d i : ℕ) → taken_from (suc m) d i ≡ taken_in code mode frame r (suc d) i + taken_from m (suc d) i
  unfolding taken_from
  taken_more m d i =
      sum_first m (λ j. taken_in code mode frame r (suc (d + j)) i)
      ∙ ap₂ (λ (x y : ℕ). x + y) (ap (λ (x : ℕ). taken_in code mode frame r (suc x) i) (add-zero d))
      (sum_ext m (λ j. taken_in code mode frame r (suc (d + suc j)) i) (λ j. taken_in code mode frame r (suc (suc d + j)) i)
      (λ j l. ap (λ (x : ℕ). taken_in code mode frame r (suc x) i) (omega arith)))

  -- layer d + 1 of n = d + 1 + m, its block w of 2 × 2^m places from o on
  module _ (d m w o : ℕ) (e : d + suc m ≡ n) (eo : o ≡ w * (2 ^ m + 2 ^ m)) where
    -- the number of a kernel's clipped entries
    abbrev clips : ℕ → ℕ
    clips k = clipped_at code mode frame r (suc d) (w * 2 ^ m + k)

    -- what it takes off
    abbrev takes : ℕ → ℕ
    takes k = (lowered_at code mode frame r (suc d) (w * 2 ^ m + k)).taken

    -- the count of a block: this layer's, and those of its two halves
    pub clipped_more : clipped_in (suc m) d o ≡ sum_to (2 ^ m) clips + (clipped_in m (suc d) o + clipped_in m (suc d) (o + 2 ^ m))
    unfolding clipped_in
    clipped_more =
        sum_first m (λ j. sum_to (2 ^ suc m / 2) (λ k. clipped_at code mode frame r (suc (d + j)) (o / 2 + k)))
        ∙ ap₂ (λ (x y : ℕ). x + y) here later
      where
        half : o / 2 ≡ w * 2 ^ m
        half = omega arith

        here : sum_to (2 ^ suc m / 2) (λ k. clipped_at code mode frame r (suc (d + 0)) (o / 2 + k)) ≡ sum_to (2 ^ m) clips
        here =
            ap (λ (x : ℕ). sum_to x (λ k. clipped_at code mode frame r (suc (d + 0)) (o / 2 + k))) (half_pow m)
            ∙ ap₂ (λ (x y : ℕ). sum_to (2 ^ m) (λ k. clipped_at code mode frame r (suc x) (y + k))) (add-zero d) half

        -- a later layer, on the two halves
        two : (j : ℕ) → j < m → sum_to (2 ^ suc m / 2) (λ k. clipped_at code mode frame r (suc (d + suc j)) (o / 2 + k))
            ≡ sum_to (2 ^ m / 2) (λ k. clipped_at code mode frame r (suc (suc d + j)) (o / 2 + k))
            + sum_to (2 ^ m / 2) (λ k. clipped_at code mode frame r (suc (suc d + j)) ((o + 2 ^ m) / 2 + k))
        two j l =
            let q = even_pow m (omega arith) in
            let a : d + suc j ≡ suc d + j = omega arith in
            let b : o / 2 + 2 ^ m / 2 ≡ (o + 2 ^ m) / 2 = omega arith in
            ap₂ (λ (x y : ℕ). sum_to x (λ k. clipped_at code mode frame r (suc y) (o / 2 + k))) (half_pow m ∙ q) a
            ∙ sum_split (2 ^ m / 2) (2 ^ m / 2) (λ k. clipped_at code mode frame r (suc (suc d + j)) (o / 2 + k))
            ∙ ap (λ (x : ℕ). sum_to (2 ^ m / 2) (λ k. clipped_at code mode frame r (suc (suc d + j)) (o / 2 + k)) + x)
            (sum_ext (2 ^ m / 2) (λ k. clipped_at code mode frame r (suc (suc d + j)) (o / 2 + (2 ^ m / 2 + k)))
            (λ k. clipped_at code mode frame r (suc (suc d + j)) ((o + 2 ^ m) / 2 + k))
            (λ k lk. ap (clipped_at code mode frame r (suc (suc d + j))) (omega arith)))

        later : sum_to m (λ j. sum_to (2 ^ suc m / 2) (λ k. clipped_at code mode frame r (suc (d + suc j)) (o / 2 + k)))
            ≡ sum_to m (λ j. sum_to (2 ^ m / 2) (λ k. clipped_at code mode frame r (suc (suc d + j)) (o / 2 + k)))
            + sum_to m (λ j. sum_to (2 ^ m / 2) (λ k. clipped_at code mode frame r (suc (suc d + j)) ((o + 2 ^ m) / 2 + k)))
        later =
            sum_ext m (λ j. sum_to (2 ^ suc m / 2) (λ k. clipped_at code mode frame r (suc (d + suc j)) (o / 2 + k)))
            (λ j. sum_to (2 ^ m / 2) (λ k. clipped_at code mode frame r (suc (suc d + j)) (o / 2 + k))
            + sum_to (2 ^ m / 2) (λ k. clipped_at code mode frame r (suc (suc d + j)) ((o + 2 ^ m) / 2 + k))) two
            ∙ sum_add m (λ j. sum_to (2 ^ m / 2) (λ k. clipped_at code mode frame r (suc (suc d + j)) (o / 2 + k)))
            (λ j. sum_to (2 ^ m / 2) (λ k. clipped_at code mode frame r (suc (suc d + j)) ((o + 2 ^ m) / 2 + k)))

    -- what this layer took off on the line of place i of the block, by the half in which i lies
    taken_half : (i half : ℕ) → i / 2 ^ m ≡ half → i / (2 * 2 ^ m) ≡ w → taken_in code mode frame r (suc d) i ≡ half % 2 * sum_to (2 ^ m) takes
    unfolding taken_in
    taken_half i half a b =
        let k : n - suc d ≡ m = omega arith in
        ap (λ (x : ℕ). i / 2 ^ x % 2 * sum_to (2 ^ x) (λ k. (lowered_at code mode frame r (suc d) (i / (2 * 2 ^ x) * 2 ^ x + k)).taken)) k
        ∙ ap₂ (λ (x y : ℕ). x % 2 * sum_to (2 ^ m) (λ k. (lowered_at code mode frame r (suc d) (y * 2 ^ m + k)).taken)) a b

    -- nothing in the first half
    pub taken_first : (p : Place m) → taken_in code mode frame r (suc d) (o + number p) ≡ 0
    taken_first p =
        let l = number_lt p in
        let a : o + number p ≡ w * 2 * 2 ^ m + number p = omega arith in
        let b : o + number p ≡ w * (2 * 2 ^ m) + number p = omega arith in
        let z : w * 2 % 2 ≡ 0 = omega arith in
        taken_half (o + number p) (w * 2) (ap (λ (x : ℕ). x / 2 ^ m) a ∙ digits_div (w * 2) l)
        (ap (λ (x : ℕ). x / (2 * 2 ^ m)) b ∙ digits_div w (omega arith))
        ∙ ap (λ (x : ℕ). x * sum_to (2 ^ m) takes) z ∙ zero-mul (sum_to (2 ^ m) takes)

    -- what all kernels of the block took off in the second
    pub taken_second : (p : Place m) → taken_in code mode frame r (suc d) (o + 2 ^ m + number p) ≡ sum_to (2 ^ m) takes
    taken_second p =
        let l = number_lt p in
        let a : o + 2 ^ m + number p ≡ (w * 2 + 1) * 2 ^ m + number p = omega arith in
        let b : o + 2 ^ m + number p ≡ w * (2 * 2 ^ m) + (2 ^ m + number p) = omega arith in
        let z : (w * 2 + 1) % 2 ≡ 1 = omega arith in
        taken_half (o + 2 ^ m + number p) (w * 2 + 1) (ap (λ (x : ℕ). x / 2 ^ m) a ∙ digits_div (w * 2 + 1) l)
        (ap (λ (x : ℕ). x / (2 * 2 ^ m)) b ∙ digits_div w (omega arith))
        ∙ ap (λ (x : ℕ). x * sum_to (2 ^ m) takes) z ∙ one-mul (sum_to (2 ^ m) takes)

    -- the block's kernels, and the trees of their coefficients, vectors and symbols
    module _ (start : ℕ) (es : start ≡ d * (2 ^ n / 2) + o / 2) where
      -- the coefficients
      abbrev hs : Tree ℕ m
      hs = tree_of 1 m (take (2 ^ m) (drop start cs))

      -- the vectors of the first half
      abbrev F : Vectors m
      F = window [] m o (vs d)

      -- and of the second
      abbrev G : Vectors m
      G = window [] m (o + 2 ^ m) (vs d)

      -- the symbols decided in the first half, after the later layers
      abbrev U : Tree ℕ m
      U = window 0 m o (layers n m cs r)

      -- a kernel's coefficient is the one at its place
      coefs : (p : Place m) → coefficient n (suc d) (w * 2 ^ m + number p) cs ≡ at hs p
      coefs p = block_coefs n d m w start cs (omega arith) p

      -- a kernel's coefficient, θ's symbol and its two vectors, as the trees have them
      same_kernel : {A : Type 0} (f : ℕ → ℕ → List ℕ → List ℕ → A) (p : Place m)
          → f (coefficient n (suc d) (w * 2 ^ m + number p) cs) (theta_symbol n (suc d) (w * 2 ^ m + number p) cs r)
          (theta_vector code mode frame r (suc d) (w * 2 ^ m + number p)) (phi_vector code mode frame r (suc d) (w * 2 ^ m + number p))
          ≡ f (at hs p) (at U p) (at F p) (at G p)
      same_kernel f p =
          let t = w * 2 ^ m + number p in
          ap₂ (λ (x y : ℕ). f x y (theta_vector code mode frame r (suc d) t) (phi_vector code mode frame r (suc d) t)) (coefs p) (u_in_block n d m w o e eo p cs r)
          ∙ ap₂ (f (at hs p) (at U p)) (theta_in_block code mode frame r d m w o e eo p) (phi_in_block code mode frame r d m w o e eo p)

      -- a number for each kernel, summed over the block
      kernel_sum : (f : ℕ → ℕ → List ℕ → List ℕ → ℕ) → tree_sum m (map4 m (λ k v y s. f k s v y) hs F G U)
          ≡ sum_to (2 ^ m) (λ i. f (coefficient n (suc d) (w * 2 ^ m + i) cs) (theta_symbol n (suc d) (w * 2 ^ m + i) cs r)
          (theta_vector code mode frame r (suc d) (w * 2 ^ m + i)) (phi_vector code mode frame r (suc d) (w * 2 ^ m + i)))
      kernel_sum f = sum_of_tree m (map4 m (λ k v y s. f k s v y) hs F G U) _ (λ p. map4_at (λ k v y s. f k s v y) p hs F G U ∙ sym (same_kernel f p))

      -- their clipped entries
      pub clipped_sum : clipped_nodes m cap hs F G U ≡ sum_to (2 ^ m) clips
      unfolding clipped_nodes clipped_entries clipped_at lowered_at
      clipped_sum = kernel_sum (clipped_entries cap)

      -- and what they took off
      pub taken_sum : taken_nodes m hs F G U ≡ sum_to (2 ^ m) takes
      unfolding taken_nodes lowered_at
      taken_sum = kernel_sum (λ h u v y. (lowered h u v y).taken)

      module _ (fits : o + (2 ^ m + 2 ^ m) ≤ 2 ^ n) where
        -- the vectors of the first half
        pub checks : window [] m o (vs (suc d)) ≡ check_nodes m mode.candidates hs F G
        unfolding check_nodes_by
        checks = ext_at m (window [] m o (vs (suc d))) (map3 m (check_node_by mode.candidates) hs F G) (λ p.
            check_of code mode frame r d m w o e eo fits p ∙ ap (λ (h : ℕ). check_node_by mode.candidates h (at F p) (at G p)) (coefs p) ∙ sym (map3_at (check_node_by mode.candidates) p hs F G))

        -- and of the second
        pub variables : window [] m (o + 2 ^ m) (vs (suc d)) ≡ variable_nodes m cap hs F G U
        unfolding variable_nodes
        variables = ext_at m (window [] m (o + 2 ^ m) (vs (suc d))) (map4 m (λ k v w s. variable_node cap k s v w) hs F G U) (λ p.
            variable_of code mode frame r d m w o e eo fits p ∙ ap (λ (h : ℕ). variable_node cap h (at U p) (at F p) (at G p)) (coefs p)
            ∙ sym (map4_at (λ k v w s. variable_node cap k s v w) p hs F G U))
