-- A layer on one of the blocks that it halves: the vectors that its check nodes and its variable nodes make.
use mathlib.Core.Path.{◌≡◌, sym, ap, ap₂, ◌∙◌, subst}
use mathlib.Core.List.{List, []}
use Prim.Native.Nat.{ℕ, suc, ◌+◌, ◌*◌, ◌-◌, ◌^◌, ◌≤◌, ◌<◌}
use native.Mathlib.Nat.{mul-le-mul, le_refl, suc-mul}
use native.Mathlib.Omega.{arith}
use lib.ListN.{get_or}
use Rattle.polar_code.specs.Code.{Code}
use Rattle.polar.specs.Transform.{theta, phi, coefficient, layers}
use Rattle.polar.specs.Tree.{Place, at, number}
use Rattle.polar.proofs.Numbers.{whole}
use Rattle.polar.proofs.TreeLaws.{number_lt}
use Rattle.polar.proofs.Kernels.{theta_is, phi_is}
use Rattle.polar.proofs.Windows.{window, window_at, first_made, second_made}
use Rattle.scms.specs.Mode.{Mode}
use Rattle.scms.specs.Nodes.{check_node_by, variable_node}
use Rattle.scms.specs.Decoder.{nodes, theta_symbol, vectors, theta_vector, phi_vector}
use Rattle.scms.proofs.VectorLaws.{vectors_long, theta_from, phi_from}

-- each of the 2^d blocks that layer d + 1 halves lies in the word
pub block_fits : (n d m w : ℕ) → d + suc m ≡ n → w < 2 ^ d → w * (2 ^ m + 2 ^ m) + (2 ^ m + 2 ^ m) ≤ 2 ^ n
block_fits n d m w e l =
    let q = whole n d m e in
    let k = mul-le-mul {n₁ = suc w} {m₁ = 2 ^ m + 2 ^ m} {n₂ = 2 ^ d} {m₂ = 2 ^ m + 2 ^ m} l (le_refl (2 ^ m + 2 ^ m)) in
    let j = suc-mul w (2 ^ m + 2 ^ m) in
    omega arith

-- layer d + 1 of n = d + 1 + m, its block w of 2 × 2^m places, from place o on; the block's kernel at place p of its first half
module _ (n d m w o : ℕ) (e : d + suc m ≡ n) (eo : o ≡ w * (2 ^ m + 2 ^ m)) (p : Place m) where
  -- its θ
  theta_place : theta n (suc d) (w * 2 ^ m + number p) ≡ o + number p
  theta_place = theta_is n d m e w (number p) (number_lt p) ∙ ap (λ (x : ℕ). x + number p) (sym eo)

  -- and its φ
  phi_place : phi n (suc d) (w * 2 ^ m + number p) ≡ o + 2 ^ m + number p
  phi_place = phi_is n d m e w (number p) (number_lt p) ∙ ap (λ (x : ℕ). x + number p + 2 ^ m) (sym eo) ∙ omega arith

  -- u there is the symbol at that place after the later layers
  pub u_in_block : (cs s : List ℕ) → theta_symbol n (suc d) (w * 2 ^ m + number p) cs s ≡ at (window 0 m o (layers n m cs s)) p
  unfolding theta_symbol
  u_in_block cs s =
      let k : n - suc d ≡ m = omega arith in
      ap₂ (λ (i j : ℕ). get_or (layers n i cs s) j 0) k theta_place ∙ sym (window_at 0 p o (layers n m cs s))

-- and its vectors
module _ (code : Code) (mode : Mode) (frame s : List ℕ) (d m w o : ℕ) (e : d + suc m ≡ code.n)
    (eo : o ≡ w * (2 ^ m + 2 ^ m)) where
  -- the number of layers
  abbrev n : ℕ
  n = code.n

  -- the cap of its variable nodes
  abbrev cap : ℕ
  cap = mode.cap

  -- the coefficients
  abbrev cs : List ℕ
  cs = code.coefs

  -- the vectors of layer d
  abbrev vs : List (List ℕ)
  vs = vectors code mode frame s d

  -- the block's kernel at place p of its first half
  abbrev t : Place m → ℕ
  t p = w * 2 ^ m + number p

  -- θ's vector is the one in the first half
  pub theta_in_block : (p : Place m) → theta_vector code mode frame s (suc d) (t p) ≡ at (window [] m o vs) p
  theta_in_block p = theta_from code mode frame s d (t p) ∙ ap (λ (j : ℕ). get_or vs j []) (theta_place n d m w o e eo p) ∙ sym (window_at [] p o vs)

  -- φ's the one in the second
  pub phi_in_block : (p : Place m) → phi_vector code mode frame s (suc d) (t p) ≡ at (window [] m (o + 2 ^ m) vs) p
  phi_in_block p = phi_from code mode frame s d (t p) ∙ ap (λ (j : ℕ). get_or vs j []) (phi_place n d m w o e eo p) ∙ sym (window_at [] p (o + 2 ^ m) vs)

  module _ (fits : o + (2 ^ m + 2 ^ m) ≤ 2 ^ n) (p : Place m) where
    -- what kernel i makes at θ
    abbrev hs : ℕ → List ℕ → List ℕ → List ℕ
    hs i v y = check_node_by mode.candidates (coefficient n (suc d) i cs) v y

    -- and at φ
    abbrev gs : ℕ → List ℕ → List ℕ → List ℕ
    gs i v y = variable_node cap (coefficient n (suc d) i cs) (theta_symbol n (suc d) i cs s) v y

    -- the block lies in the word
    fits_at : w * (2 ^ m + 2 ^ m) + (2 ^ m + 2 ^ m) ≤ 2 ^ n
    fits_at = subst (λ (x : ℕ). x + (2 ^ m + 2 ^ m) ≤ 2 ^ n) eo fits

    -- the first half's vectors are made by check nodes
    pub check_of : at (window [] m o (vectors code mode frame s (suc d))) p
        ≡ check_node_by mode.candidates (coefficient n (suc d) (t p) cs) (at (window [] m o vs) p) (at (window [] m (o + 2 ^ m) vs) p)
    unfolding vectors nodes
    check_of = subst (λ (k : ℕ). at (window [] m k (vectors code mode frame s (suc d))) p
        ≡ check_node_by mode.candidates (coefficient n (suc d) (t p) cs) (at (window [] m k vs) p) (at (window [] m (k + 2 ^ m) vs) p)) (sym eo)
        (first_made n d m w e fits_at [] hs gs vs (vectors_long code mode frame s d) p)

    -- the second half's by variable nodes
    pub variable_of : at (window [] m (o + 2 ^ m) (vectors code mode frame s (suc d))) p
        ≡ variable_node cap (coefficient n (suc d) (t p) cs) (at (window 0 m o (layers n m cs s)) p) (at (window [] m o vs) p) (at (window [] m (o + 2 ^ m) vs) p)
    unfolding vectors nodes
    variable_of = subst (λ (k : ℕ). at (window [] m (k + 2 ^ m) (vectors code mode frame s (suc d))) p
        ≡ gs (t p) (at (window [] m k vs) p) (at (window [] m (k + 2 ^ m) vs) p)) (sym eo)
        (second_made n d m w e fits_at [] hs gs vs (vectors_long code mode frame s d) p)
        ∙ ap (λ (x : ℕ). variable_node cap (coefficient n (suc d) (t p) cs) x (at (window [] m o vs) p) (at (window [] m (o + 2 ^ m) vs) p)) (u_in_block n d m w o e eo p cs s)
