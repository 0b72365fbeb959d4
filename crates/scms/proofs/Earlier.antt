-- What is decided depends on earlier places only: u at a θ on those before φ's half of the block, the vector held at a place and what was
-- taken off along its line on those before it.
use mathlib.Core.Path.{◌≡◌, refl, sym, ap, ap₂, ◌∙◌, subst}
use mathlib.Core.Logic.{◌⊎◌, inl, inr}
use mathlib.Core.List.{List, []}
use Prim.Native.Nat.{ℕ, zero, suc, ◌+◌, ◌*◌, ◌/◌, ◌%◌, ◌-◌, ◌^◌, ◌≤◌, ◌<◌}
use native.Mathlib.Nat.{add-zero, mod-lt, div-add-mod', div-lt_iff_lt-mul}
use native.Mathlib.Omega.{arith}
use lib.ListN.{length, get_or, take, drop}
use lib.Pow.{pow_pos, shr_lt}
use Rattle.refusal.specs.Tests.{Within}
use Rattle.vector.specs.Vector.{sum_to}
use Rattle.vector.proofs.Laws.{sum_ext}
use Rattle.polar_code.specs.Code.{Code}
use Rattle.polar.specs.Transform.{phi, coefficient, layers}
use Rattle.polar.specs.Tree.{Tree, tree_of, at, number}
use Rattle.polar.specs.Halves.{transform_tree, coefs_at}
use Rattle.polar.proofs.Numbers.{two_pow, half_blocks, lt_or_le}
use Rattle.polar.proofs.TreeLaws.{place_of, ext_at}
use Rattle.polar.proofs.Kernels.{phi_is}
use Rattle.polar.proofs.Windows.{window, window_ext}
use Rattle.polar.proofs.ByHalves.{block_halves}
use Rattle.scms.specs.Mode.{Mode}
use Rattle.scms.specs.Nodes.{check_node_by, variable_node}
use Rattle.scms.specs.Decoder.{theta_symbol, vectors, lowered_at, taken_in, taken_off, held_at}
use Rattle.scms.specs.Halves.{taken_nodes}
use Rattle.scms.specs.Claims.{Agree, OnlyEarlier}
use Rattle.scms.proofs.Blocks.{block_fits, u_in_block, check_of, variable_of}
use Rattle.scms.proofs.BlockSums.{taken_first, taken_second, taken_sum}

-- a number is twice its half, or one more
halved : (w : ℕ) → (w ≡ w / 2 * 2) ⊎ (w ≡ w / 2 * 2 + 1)
halved w = go (w % 2) refl (mod-lt w (omega arith))
  where
    go : (b : ℕ) → w % 2 ≡ b → b < 2 → (w ≡ w / 2 * 2) ⊎ (w ≡ w / 2 * 2 + 1)
    go zero e l = inl (omega arith)
    go (suc zero) e l = inr (omega arith)
    go (suc (suc b)) e l = absurd (omega arith)

module _ (n : ℕ) (cs s r : List ℕ) (ls : length s ≡ 2 ^ n) (lr : length r ≡ 2 ^ n) where
  -- after the last m layers a block of 2^m places depends on its own symbols only
  block_agrees : (m d w o : ℕ) → d + m ≡ n → o ≡ w * 2 ^ m → o + 2 ^ m ≤ 2 ^ n → ((j : ℕ) → o ≤ j → j < o + 2 ^ m → get_or s j 0 ≡ get_or r j 0)
      → window 0 m o (layers n m cs s) ≡ window 0 m o (layers n m cs r)
  block_agrees m d w o e eo fits a =
      block_halves n cs s ls m d w o (d * (2 ^ n / 2) + o / 2) e eo fits refl
      ∙ ap (transform_tree m (coefs_at m (d * (2 ^ n / 2) + o / 2) (2 ^ n / 2) cs)) (window_ext 0 m o s r a)
      ∙ sym (block_halves n cs r lr m d w o (d * (2 ^ n / 2) + o / 2) e eo fits refl)

  -- u at the θs of block w of layer d + 1, of 2 × 2^m places from o on, depends on the places before the block's second half
  u_agrees : (d m w o : ℕ) → d + suc m ≡ n → o ≡ w * (2 ^ m + 2 ^ m) → o + (2 ^ m + 2 ^ m) ≤ 2 ^ n → Agree (o + 2 ^ m) s r
      → window 0 m o (layers n m cs s) ≡ window 0 m o (layers n m cs r)
  u_agrees d m w o e eo fits a = block_agrees m (suc d) (w * 2) o (omega arith) (omega arith) (omega arith) (λ j x y. a j y)

-- the vectors of a block of 2^m places depend on the symbols before it only
module _ (code : Code) (mode : Mode) (frame s r : List ℕ) (ls : length s ≡ 2 ^ code.n)
    (lr : length r ≡ 2 ^ code.n) where
  -- the number of layers
  abbrev n : ℕ
  n = code.n

  -- the cap of its variable nodes
  abbrev cap : ℕ
  cap = mode.cap

  -- the coefficients
  abbrev cs : List ℕ
  cs = code.coefs

  -- a block of layer d has the same vectors with s as with r
  abbrev Same : (m o d : ℕ) → Type 0
  Same m o d = window [] m o (vectors code mode frame s d) ≡ window [] m o (vectors code mode frame r d)

  -- layer d + 1, from the vectors of the block that it halves
  module _ (d m w o : ℕ) (e : d + suc m ≡ n) (eo : o ≡ w * (2 ^ m + 2 ^ m)) (fits : o + (2 ^ m + 2 ^ m) ≤ 2 ^ n) (h : Same (suc m) o d) where
    -- the vectors of layer d
    abbrev vs : List ℕ → List (List ℕ)
    vs x = vectors code mode frame x d

    -- the first half of the block
    first_same : window [] m o (vs s) ≡ window [] m o (vs r)
    unfolding window
    first_same = ap (λ (t : Tree (List ℕ) (suc m)). t.0) h

    -- and the second
    second_same : window [] m (o + 2 ^ m) (vs s) ≡ window [] m (o + 2 ^ m) (vs r)
    unfolding window
    second_same = ap (λ (t : Tree (List ℕ) (suc m)). t.1) h

    -- the first half
    check_same : Same m o (suc d)
    check_same = ext_at m (window [] m o (vectors code mode frame s (suc d))) (window [] m o (vectors code mode frame r (suc d))) (λ p.
        check_of code mode frame s d m w o e eo fits p
        ∙ ap₂ (λ (x y : Tree (List ℕ) m). check_node_by mode.candidates (coefficient n (suc d) (w * 2 ^ m + number p) cs) (at x p) (at y p)) first_same second_same
        ∙ sym (check_of code mode frame r d m w o e eo fits p))

    -- the second half
    variable_same : Agree (o + 2 ^ m) s r → Same m (o + 2 ^ m) (suc d)
    variable_same a = ext_at m (window [] m (o + 2 ^ m) (vectors code mode frame s (suc d))) (window [] m (o + 2 ^ m) (vectors code mode frame r (suc d))) (λ p.
        let h = coefficient n (suc d) (w * 2 ^ m + number p) cs in
        variable_of code mode frame s d m w o e eo fits p
        ∙ ap₂ (λ (x y : Tree (List ℕ) m). variable_node cap h (at (window 0 m o (layers n m cs s)) p) (at x p) (at y p)) first_same second_same
        ∙ ap (λ (x : Tree ℕ m). variable_node cap h (at x p) (at (window [] m o (vs r)) p) (at (window [] m (o + 2 ^ m) (vs r)) p))
        (u_agrees n cs s r ls lr d m w o e eo fits a)
        ∙ sym (variable_of code mode frame r d m w o e eo fits p))

    -- what its kernels take off
    taken_same : Agree (o + 2 ^ m) s r
        → sum_to (2 ^ m) (λ k. (lowered_at code mode frame s (suc d) (w * 2 ^ m + k)).taken) ≡ sum_to (2 ^ m) (λ k. (lowered_at code mode frame r (suc d) (w * 2 ^ m + k)).taken)
    taken_same a =
        let start = d * (2 ^ n / 2) + o / 2 in
        let u = u_agrees n cs s r ls lr d m w o e eo fits a in
        sym (taken_sum code mode frame s d m w o e eo start refl)
        ∙ (λ j. taken_nodes m (tree_of 1 m (take (2 ^ m) (drop start cs))) (first_same j) (second_same j) (u j))
        ∙ taken_sum code mode frame r d m w o e eo start refl

  -- every layer: block w of the 2^d blocks of 2^m places
  vectors_earlier : (d m w o : ℕ) → d + m ≡ n → o ≡ w * 2 ^ m → w < 2 ^ d → Agree o s r → Same m o d
  unfolding vectors
  vectors_earlier zero m w o e eo lw a = refl
  vectors_earlier (suc d) m w o e eo lw a = go (halved w) (vectors_earlier d (suc m) (w / 2))
    where
      -- the start of the block that layer d + 1 halves
      c : ℕ
      c = w / 2 * (2 ^ m + 2 ^ m)

      c_is : w / 2 * (2 ^ m + 2 ^ m) ≡ w / 2 * 2 ^ suc m
      c_is = ap (λ (x : ℕ). w / 2 * x) (sym (two_pow m))

      below : w / 2 < 2 ^ d
      below = let q = two_pow d in omega arith

      fits : w / 2 * (2 ^ m + 2 ^ m) + (2 ^ m + 2 ^ m) ≤ 2 ^ n
      fits = block_fits n d m (w / 2) (omega arith) below

      go : (w ≡ w / 2 * 2) ⊎ (w ≡ w / 2 * 2 + 1)
          → ((o : ℕ) → d + suc m ≡ n → o ≡ w / 2 * 2 ^ suc m → w / 2 < 2 ^ d → Agree o s r → Same (suc m) o d) → Same m o (suc d)
      go (inl b) ih =
          let k : o ≡ c = eo ∙ ap (λ (x : ℕ). x * 2 ^ m) b ∙ omega arith in
          let f = ih c (omega arith) c_is below (λ j l. a j (omega arith)) in
          subst (λ (x : ℕ). Same m x (suc d)) (sym k) (check_same d m (w / 2) c (omega arith) refl fits f)
      go (inr b) ih =
          let k : o ≡ c + 2 ^ m = eo ∙ ap (λ (x : ℕ). x * 2 ^ m) b ∙ omega arith in
          let f = ih c (omega arith) c_is below (λ j l. a j (omega arith)) in
          subst (λ (x : ℕ). Same m x (suc d)) (sym k) (variable_same d m (w / 2) c (omega arith) refl fits f (λ j l. a j (omega arith)))

  -- what layer d + 1 took off along the line of place i, which lies in block w of 2 × 2^m places from c on
  line_same : (d m i : ℕ) → d + suc m ≡ n → i < 2 ^ n → Agree i s r → taken_in code mode frame s (suc d) i ≡ taken_in code mode frame r (suc d) i
  line_same d m i e l a = go (lt_or_le x (2 ^ m))
    where
      size : 2 ^ suc m ≡ 2 ^ m + 2 ^ m
      size = two_pow m

      w : ℕ
      w = i / 2 ^ suc m

      x : ℕ
      x = i % 2 ^ suc m

      c : ℕ
      c = w * (2 ^ m + 2 ^ m)

      c_is : w * (2 ^ m + 2 ^ m) ≡ w * 2 ^ suc m
      c_is = ap (λ (k : ℕ). w * k) (sym size)

      i_is : w * (2 ^ m + 2 ^ m) + x ≡ i
      i_is = ap (λ (k : ℕ). k + x) c_is ∙ div-add-mod' i (2 ^ suc m)

      below : w < 2 ^ d
      below = shr_lt d (suc m) (subst (λ (k : ℕ). i < 2 ^ k) (sym e) l)

      fits : w * (2 ^ m + 2 ^ m) + (2 ^ m + 2 ^ m) ≤ 2 ^ n
      fits = block_fits n d m w e below

      go : (x < 2 ^ m) ⊎ (2 ^ m ≤ x) → taken_in code mode frame s (suc d) i ≡ taken_in code mode frame r (suc d) i
      go (inl k) =
          let p = place_of m x k in
          let at_p : c + number p.0 ≡ i = ap (λ (j : ℕ). c + j) p.1 ∙ i_is in
          subst (λ (j : ℕ). taken_in code mode frame s (suc d) j ≡ taken_in code mode frame r (suc d) j) at_p
          (taken_first code mode frame s d m w c e refl p.0 ∙ sym (taken_first code mode frame r d m w c e refl p.0))
      go (inr k) =
          let lx : x < 2 ^ suc m = mod-lt i (pow_pos (suc m)) in
          let p = place_of m (x - 2 ^ m) (omega arith) in
          let number_is = p.1 in
          let at_i = i_is in
          let at_p : c + 2 ^ m + number p.0 ≡ i = omega arith in
          let h = vectors_earlier d (suc m) w c e c_is below (λ j b. a j (omega arith)) in
          subst (λ (j : ℕ). taken_in code mode frame s (suc d) j ≡ taken_in code mode frame r (suc d) j) at_p
          (taken_second code mode frame s d m w c e refl p.0 ∙ taken_same d m w c e refl fits h (λ j b. a j (omega arith))
          ∙ sym (taken_second code mode frame r d m w c e refl p.0))

-- u at the θ of kernel t of layer l depends only on the symbols before φ's half of the block
u_depends : (n : ℕ) (cs s r : List ℕ) → length s ≡ 2 ^ n → length r ≡ 2 ^ n → (l t : ℕ) → Within 1 n l → t < 2 ^ n / 2
    → Agree (phi n l t - t % 2 ^ (n - l)) s r
    → theta_symbol n l t cs s ≡ theta_symbol n l t cs r
u_depends n cs s r ls lr zero t lw lt a = absurd (let x = lw.least in omega arith)
u_depends n cs s r ls lr (suc d) t lw lt a = go (n - suc d) refl (let x = lw.most in omega arith)
  where
    go : (m : ℕ) → n - suc d ≡ m → d + suc m ≡ n
        → theta_symbol n (suc d) t cs s ≡ theta_symbol n (suc d) t cs r
    go m k e =
        let w = t / 2 ^ m in
        let i = t % 2 ^ m in
        let li : i < 2 ^ m = mod-lt t (pow_pos m) in
        let q : w * 2 ^ m + i ≡ t = div-add-mod' t (2 ^ m) in
        let lb : w < 2 ^ d = (div-lt_iff_lt-mul (pow_pos m)).1 (subst (λ (x : ℕ). t < x) (half_blocks n d m e) lt) in
        let p = place_of m i li in
        let tp : w * 2 ^ m + number p.0 ≡ t = ap (λ (x : ℕ). w * 2 ^ m + x) p.1 ∙ q in
        let f : phi n (suc d) t ≡ w * (2 ^ m + 2 ^ m) + i + 2 ^ m = ap (phi n (suc d)) (sym q) ∙ phi_is n d m e w i li in
        let g : phi n (suc d) t - t % 2 ^ (n - suc d) ≡ w * (2 ^ m + 2 ^ m) + 2 ^ m
        = ap₂ (λ (x y : ℕ). x - t % 2 ^ y) f k ∙ omega arith in
        subst (λ (x : ℕ). theta_symbol n (suc d) x cs s ≡ theta_symbol n (suc d) x cs r) tp
        (u_in_block n d m w (w * (2 ^ m + 2 ^ m)) e refl p.0 cs s
        ∙ ap (λ (x : Tree ℕ m). at x p.0) (u_agrees n cs s r ls lr d m w (w * (2 ^ m + 2 ^ m)) e refl (block_fits n d m w e lb) (subst (λ (x : ℕ). Agree x s r) g a))
        ∙ sym (u_in_block n d m w (w * (2 ^ m + 2 ^ m)) e refl p.0 cs r))

-- what is worked out depends on earlier places only
pub only_earlier : (code : Code) (mode : Mode) (frame s r : List ℕ) → length s ≡ 2 ^ code.n → length r ≡ 2 ^ code.n
    → OnlyEarlier code mode frame s r
unfolding held_at taken_off window
only_earlier code mode frame s r ls lr = record {
  u_earlier = u_depends code.n code.coefs s r ls lr;
  held_earlier = λ i l a. vectors_earlier code mode frame s r ls lr code.n 0 i i (add-zero code.n) (omega arith) l a;
  taken_earlier = λ i l a. sum_ext _ _ _ (λ d k.
      line_same code mode frame s r ls lr d (code.n - suc d) i (omega arith) l a);
}
