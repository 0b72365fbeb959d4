-- Each vector of the frame is 0 at the symbol sent and nowhere else: the decoder answers the word before the transform, clipped or not.
use mathlib.Core.Path.{◌≡◌, sym, ap, ◌∙◌, subst}
use mathlib.Core.List.{List, []}
use Prim.Native.Nat.{ℕ, suc, ◌+◌, ◌/◌, ◌-◌, ◌^◌, ◌≤◌, ◌<◌}
use native.Mathlib.Nat.{le_refl}
use native.Mathlib.Omega.{arith}
use lib.ListN.{length, get_or}
use Rattle.vector.specs.Vector.{vector_at, OnlyZero}
use Rattle.polar_code.specs.Code.{Code, kind_of, Coefficients, IsWord}
use Rattle.polar.specs.Transform.{theta, phi, coefficient, layer, layers, transform, KernelMade}
use Rattle.polar.proofs.Kernels.{theta_lt, phi_lt}
use Rattle.polar.proofs.LayerLaws.{layer_kernel, layers_word}
use Rattle.scms.specs.Mode.{Mode, TriesOne}
use Rattle.scms.specs.Nodes.{check_node_by, variable_node}
use Rattle.scms.specs.Decoder.{theta_symbol, vectors, held_at, symbols}
use Rattle.scms.specs.Totals.{InCode}
use Rattle.scms.specs.Claims.{Sent, Noiseless}
use Rattle.scms.proofs.NodeLaws.{check_only, variable_only}
use Rattle.scms.proofs.DecisionLaws.{decision_only}
use Rattle.scms.proofs.VectorLaws.{coefficient_nonzero, each_layer}
use Rattle.scms.proofs.AnswerLaws.{answer_is}

module _ (code : Code) (mode : Mode) (frame u : List ℕ) (hc : 1 ≤ mode.cap) (one : TriesOne mode)
    (g : Coefficients code.coefs) (c : InCode code u) (sent : Sent code.n frame (transform code.n code.coefs u)) where
  -- the number of layers
  abbrev n : ℕ
  n = code.n

  -- the cap of its variable nodes
  abbrev cap : ℕ
  cap = mode.cap

  -- the coefficients
  abbrev cs : List ℕ
  cs = code.coefs

  -- the frozen map
  abbrev map : List ℕ
  map = code.map

  -- a word of the code is a word
  w : IsWord n u
  w = c.word

  -- the word after layers n to d + 1
  abbrev x : ℕ → List ℕ
  x d = layers n (n - d) cs u

  -- layer d + 1 makes the word after itself of the word after layers n to d + 2
  kernel_made : (d m : ℕ) → d + suc m ≡ n → (t : ℕ) → t < 2 ^ n / 2 → KernelMade n (suc d) t cs (x (suc d)) (x d)
  unfolding layers
  kernel_made d m e t lt =
      let a : n - d ≡ suc m = omega arith in
      let b : n - suc d ≡ m = omega arith in
      let c : n - m ≡ suc d = omega arith in
      let q : layers n (n - d) cs u ≡ layer n (suc d) cs (layers n m cs u)
      = ap (λ (k : ℕ). layers n k cs u) a ∙ ap (λ (k : ℕ). layer n k cs (layers n m cs u)) c in
      subst (λ (k : ℕ). KernelMade n (suc d) t cs (layers n k cs u) (layers n (n - d) cs u)) (sym b)
      (subst (λ (y : List ℕ). KernelMade n (suc d) t cs (layers n m cs u) y) (sym q)
      (layer_kernel n d m e cs (layers n m cs u) (subst (λ (k : ℕ). length (layers n k cs u) ≡ 2 ^ n) b (layers_word n (n - suc d) cs u w).long) t lt))

  -- kernel t of layer d + 1: both its nodes are 0 at the word's symbols alone, if the two vectors that they are made from are
  module _ (d m : ℕ) (e : d + suc m ≡ n) (t : ℕ) (lt : t < 2 ^ n / 2) where
    -- its coefficient
    abbrev h : ℕ
    h = coefficient n (suc d) t cs

    -- the word's symbol at θ
    abbrev p : ℕ
    p = get_or (x (suc d)) (theta n (suc d) t) 0

    -- and at φ
    abbrev r : ℕ
    r = get_or (x (suc d)) (phi n (suc d) t) 0

    -- from the two vectors
    kernel_only : (v y : List ℕ) → OnlyZero v (get_or (x d) (theta n (suc d) t) 0) → OnlyZero y (get_or (x d) (phi n (suc d) t) 0)
        → OnlyZero (check_node_by mode.candidates h v y) p × OnlyZero (variable_node cap h p v y) r
    kernel_only v y ov oy =
        let made = kernel_made d m e t lt in
        let nz = coefficient_nonzero n (suc d) t cs g in
        let word = layers_word n (n - suc d) cs u w in
        let lp = word.symbols (theta n (suc d) t) (theta_lt n d m e t lt) in
        let lr = word.symbols (phi n (suc d) t) (phi_lt n d m e t lt) in
        let a = subst (OnlyZero v) made.sum ov in
        let b = subst (OnlyZero y) made.product oy in
        (check_only h v y p r nz lp lr a b mode.candidates one, variable_only h v y p r nz lp lr a b cap hc)

  -- each vector of layer d is 0 at the symbol of the word there, and nowhere else
  only_zero : (d : ℕ) → d ≤ n → (j : ℕ) → j < 2 ^ n → OnlyZero (get_or (vectors code mode frame u d) j []) (get_or (x d) j 0)
  unfolding theta_symbol transform
  only_zero = each_layer code mode frame u (λ d j v. OnlyZero v (get_or (x d) j 0))
      (λ j lj. let z : n - 0 ≡ n = omega arith in subst (λ (k : ℕ). OnlyZero (vector_at frame j) (get_or (layers n k cs u) j 0)) (sym z) (sent j lj))
      (λ d m e t lt. kernel_only d m e t lt _ _)

  -- so each symbol of the word is decided from what is held with it
  decided_so : symbols code mode frame ≡ u
  unfolding held_at layers
  decided_so =
      answer_is code mode frame u w.long (λ i l.
      let z : n - n ≡ 0 = omega arith in
      let k : OnlyZero (get_or (vectors code mode frame u n) i []) (get_or u i 0)
      = subst (λ (j : ℕ). OnlyZero (get_or (vectors code mode frame u n) i []) (get_or (layers n j cs u) i 0)) z (only_zero n (le_refl n) i l) in
      sym (decision_only (kind_of (get_or map i 0)) (get_or (vectors code mode frame u n) i []) (get_or u i 0) (w.symbols i l) (λ f e. c.holds i f l e) k))

-- without noise the decoder answers the word before the transform
pub noiseless : (code : Code) (mode : Mode) (frame u : List ℕ) → Noiseless code mode frame u
noiseless code mode frame u hc one g c sent = decided_so code mode frame u hc one g c sent
