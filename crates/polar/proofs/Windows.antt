-- The places of a list from one place on, as a tree; and what a layer makes of a block of places.
use mathlib.Core.Path.{◌≡◌, sym, ap, ap₂, ◌∙◌}
use mathlib.Core.List.{List}
use Prim.Native.Nat.{ℕ, zero, suc, ◌+◌, ◌*◌, ◌/◌, ◌^◌, ◌-◌, ◌≤◌, ◌<◌}
use native.Mathlib.Nat.{add-zero, add_assoc, zero-add}
use native.Mathlib.Omega.{arith}
use lib.ListN.{length, get_or, take, drop}
use lib.Seq.{get_or-take, get_or-drop}
use Rattle.polar.specs.Transform.{theta, phi, coefficient, at_layer}
use Rattle.polar.specs.Tree.{Tree, tree_of, Place, here, first, second, at, number}
use Rattle.polar.proofs.TreeLaws.{number_lt, ext_at, tree_of_at}
use Rattle.polar.proofs.Kernels.{theta_is, phi_is}
use Rattle.polar.proofs.LayerLaws.{layer_made}

module _ {A : Type 0} (b : A) where
  -- what stands at the 2^m places from place o on
  unfoldable pub window : (m o : ℕ) → List A → Tree A m
  window zero o x = get_or x o b
  window (suc m) o x = (window m o x, window m (o + 2 ^ m) x)

  -- what stands at a place of it
  pub window_at : {m : ℕ} (p : Place m) (o : ℕ) (x : List A) → at (window m o x) p ≡ get_or x (o + number p) b
  unfolding at window number
  window_at here o x = ap (λ (i : ℕ). get_or x i b) (sym (add-zero o))
  window_at (first {m} p) o x = window_at p o x
  window_at (second {m} p) o x = window_at p (o + 2 ^ m) x ∙ ap (λ (i : ℕ). get_or x i b) (add_assoc o (2 ^ m) (number p))

  -- all places of a list
  pub window_all : (n : ℕ) (x : List A) → tree_of b n x ≡ window n 0 x
  window_all n x = ext_at n (tree_of b n x) (window n 0 x) (λ p. tree_of_at b x p ∙ sym (window_at p 0 x ∙ ap (λ (j : ℕ). get_or x j b) (zero-add (number p))))

  -- two lists that agree there
  pub window_ext : (m o : ℕ) (x y : List A) → ((j : ℕ) → o ≤ j → j < o + 2 ^ m → get_or x j b ≡ get_or y j b) → window m o x ≡ window m o y
  window_ext m o x y h = ext_at m (window m o x) (window m o y) (λ p.
      window_at p o x ∙ h (o + number p) (omega arith) (let l = number_lt p in omega arith) ∙ sym (window_at p o y))

-- layer d + 1 on the block of 2 × 2^m places from o on, block w of that layer
module _ (n d m w : ℕ) (e : d + suc m ≡ n) (fits : w * (2 ^ m + 2 ^ m) + (2 ^ m + 2 ^ m) ≤ 2 ^ n) where
  -- where the block begins
  abbrev o : ℕ
  o = w * (2 ^ m + 2 ^ m)

  -- the kernels of the block are kernels of the layer
  kernel_lt : (i : ℕ) → i < 2 ^ m → w * 2 ^ m + i < 2 ^ n / 2
  kernel_lt i l = omega arith

  module _ {A : Type 0} (b : A) (f g : ℕ → A → A → A) (x : List A) (long : length x ≡ 2 ^ n) (p : Place m) where
    -- the list after the layer
    abbrev y : List A
    y = at_layer b n (suc d) f g x

    -- φ of the kernel at place p of the block
    φ : phi n (suc d) (w * 2 ^ m + number p) ≡ o + 2 ^ m + number p
    φ = phi_is n d m e w (number p) (number_lt p) ∙ omega arith

    -- a place of the block after the layer, by what a kernel's function h makes at θ or φ
    made_at : (h : A → A → A) (start j : ℕ) → j ≡ start + number p
        → get_or y j b ≡ h (get_or x (theta n (suc d) (w * 2 ^ m + number p)) b) (get_or x (phi n (suc d) (w * 2 ^ m + number p)) b)
        → at (window b m start y) p ≡ h (at (window b m o x) p) (at (window b m (o + 2 ^ m) x) p)
    made_at h start j q made =
        window_at b p start y ∙ ap (λ (k : ℕ). get_or y k b) (sym q) ∙ made
        ∙ ap₂ (λ (k l : ℕ). h (get_or x k b) (get_or x l b)) (theta_is n d m e w (number p) (number_lt p)) φ
        ∙ ap₂ h (sym (window_at b p o x)) (sym (window_at b p (o + 2 ^ m) x))

    -- its first half: what the kernels' first functions make of the two halves
    pub first_made : at (window b m o y) p ≡ f (w * 2 ^ m + number p) (at (window b m o x) p) (at (window b m (o + 2 ^ m) x) p)
    first_made =
        made_at (f (w * 2 ^ m + number p)) o (theta n (suc d) (w * 2 ^ m + number p)) (theta_is n d m e w (number p) (number_lt p))
        (layer_made b n d m e f g x long (w * 2 ^ m + number p) (kernel_lt (number p) (number_lt p))).at_theta

    -- its second half: what their second functions make
    pub second_made : at (window b m (o + 2 ^ m) y) p ≡ g (w * 2 ^ m + number p) (at (window b m o x) p) (at (window b m (o + 2 ^ m) x) p)
    second_made =
        made_at (g (w * 2 ^ m + number p)) (o + 2 ^ m) (phi n (suc d) (w * 2 ^ m + number p)) φ
        (layer_made b n d m e f g x long (w * 2 ^ m + number p) (kernel_lt (number p) (number_lt p))).at_phi

-- the coefficients of block w of layer d + 1, from `start` on
pub block_coefs : (n d m w start : ℕ) (cs : List ℕ) → start ≡ d * (2 ^ n / 2) + w * 2 ^ m → (p : Place m)
    → coefficient n (suc d) (w * 2 ^ m + number p) cs ≡ at (tree_of 1 m (take (2 ^ m) (drop start cs))) p
unfolding coefficient
block_coefs n d m w start cs es p =
    let a : (suc d - 1) * (2 ^ n / 2) + (w * 2 ^ m + number p) ≡ start + number p
    = ap (λ (k : ℕ). k * (2 ^ n / 2) + (w * 2 ^ m + number p)) (less d) ∙ omega arith in
    ap (λ (j : ℕ). get_or cs j 1) a
    ∙ sym (tree_of_at 1 (take (2 ^ m) (drop start cs)) p ∙ get_or-take (2 ^ m) (drop start cs) (number p) 1 (number_lt p) ∙ get_or-drop start cs (number p) 1)
  where
    less : (k : ℕ) → suc k - 1 ≡ k
    less k = omega arith
