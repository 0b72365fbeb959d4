-- The vectors of each layer, kernel by kernel, from those of the layer before.
use mathlib.Core.Path.{◌≡◌, sym, ap, ap₂, ◌∙◌, subst}
use mathlib.Core.List.{List, []}
use Prim.Native.Nat.{ℕ, zero, suc, ◌+◌, ◌*◌, ◌/◌, ◌-◌, ◌^◌, ◌≤◌, ◌<◌}
use native.Mathlib.Numerals.{add-one}
use native.Mathlib.Omega.{arith}
use lib.ListN.{length, get_or}
use Rattle.refusal.specs.Tests.{Within}
use Rattle.vector.specs.Vector.{vector_at}
use Rattle.vector.proofs.Laws.{length_tabulate, get_d_tabulate}
use Rattle.gf64.specs.Field.{NonZero}
use Rattle.polar_code.specs.Code.{Code, Coefficients, IsWord}
use Rattle.polar.specs.Transform.{theta, phi, coefficient}
use Rattle.polar.proofs.Kernels.{theta_lt, phi_lt}
use Rattle.polar.proofs.LayerLaws.{at_layer_long, layer_made, each_place, layers_word}
use Rattle.polar.proofs.OneToOne.{coef_nonzero}
use Rattle.scms.specs.Mode.{Mode}
use Rattle.scms.specs.Nodes.{check_node_by, clipped, lowered, variable_node}
use Rattle.scms.specs.Decoder.{nodes, theta_symbol, vectors, theta_vector, phi_vector, lowered_at}
use Rattle.scms.specs.Claims.{UpdateRule}
use Rattle.scms.proofs.NodeLaws.{check_long, variable_long}

-- every coefficient of an accepted code is a symbol other than 0
pub coefficient_nonzero : (n l t : ℕ) (cs : List ℕ) → Coefficients cs → NonZero (coefficient n l t cs)
unfolding coefficient
coefficient_nonzero n l t cs g = coef_nonzero cs g ((l - 1) * (2 ^ n / 2) + t)

module _ (code : Code) (mode : Mode) (frame s : List ℕ) where
  -- the number of layers
  abbrev n : ℕ
  n = code.n

  -- the cap of its variable nodes
  abbrev cap : ℕ
  cap = mode.cap

  -- the coefficients
  abbrev cs : List ℕ
  cs = code.coefs

  -- a layer has a vector for each place
  pub vectors_long : (d : ℕ) → length (vectors code mode frame s d) ≡ 2 ^ n
  unfolding vectors nodes
  vectors_long zero = length_tabulate (2 ^ n) (vector_at frame)
  vectors_long (suc d) =
      at_layer_long [] n (suc d) (λ t v w. check_node_by mode.candidates (coefficient n (suc d) t cs) v w)
      (λ t v w. variable_node cap (coefficient n (suc d) t cs) (theta_symbol n (suc d) t cs s) v w)
      (vectors code mode frame s d)
      ∙ vectors_long d

  -- those of layer 0 are the frame's
  pub frame_vector : (i : ℕ) → i < 2 ^ n → get_or (vectors code mode frame s 0) i [] ≡ vector_at frame i
  unfolding vectors
  frame_vector i l = get_d_tabulate [] (2 ^ n) (vector_at frame) i l

  -- θ's vector of layer d + 1 comes from layer d
  pub theta_from : (d t : ℕ) → theta_vector code mode frame s (suc d) t ≡ get_or (vectors code mode frame s d) (theta n (suc d) t) []
  unfolding theta_vector
  theta_from d t = let e : suc d - 1 ≡ d = omega arith in ap (λ (i : ℕ). get_or (vectors code mode frame s i) (theta n (suc d) t) []) e

  -- so does φ's
  pub phi_from : (d t : ℕ) → phi_vector code mode frame s (suc d) t ≡ get_or (vectors code mode frame s d) (phi n (suc d) t) []
  unfolding phi_vector
  phi_from d t = let e : suc d - 1 ≡ d = omega arith in ap (λ (i : ℕ). get_or (vectors code mode frame s i) (phi n (suc d) t) []) e

  -- the vector of layer d at a place
  abbrev pub at_place : (d j : ℕ) → List ℕ
  at_place d j = get_or (vectors code mode frame s d) j []

  -- the check node of kernel t of layer d + 1
  abbrev pub check_at : (d t : ℕ) → List ℕ
  check_at d t = check_node_by mode.candidates (coefficient n (suc d) t cs) (at_place d (theta n (suc d) t)) (at_place d (phi n (suc d) t))

  -- and its variable node
  abbrev pub variable_at : (d t : ℕ) → List ℕ
  variable_at d t = variable_node cap (coefficient n (suc d) t cs) (theta_symbol n (suc d) t cs s) (at_place d (theta n (suc d) t)) (at_place d (phi n (suc d) t))

  -- what holds of the check node and of the variable node of each kernel of layer d + 1 holds of the vector at every place
  each_vector : (d m : ℕ) → d + suc m ≡ n → (Q : ℕ → List ℕ → Type 0)
      → ((t : ℕ) → t < 2 ^ n / 2 → Q (theta n (suc d) t) (check_at d t))
      → ((t : ℕ) → t < 2 ^ n / 2 → Q (phi n (suc d) t) (variable_at d t))
      → (j : ℕ) → j < 2 ^ n → Q j (at_place (suc d) j)
  unfolding vectors nodes
  each_vector d m e Q a b =
      each_place [] n d m e (λ t x y. check_node_by mode.candidates (coefficient n (suc d) t cs) x y)
      (λ t x y. variable_node cap (coefficient n (suc d) t cs) (theta_symbol n (suc d) t cs s) x y) (vectors code mode frame s d) (vectors_long d) Q a b

  -- what holds of the frame's vectors, and of both nodes of a kernel where it holds of the two vectors that they are made from, holds of every
  -- vector of every layer
  pub each_layer : (P : ℕ → ℕ → List ℕ → Type 0) → ((j : ℕ) → j < 2 ^ n → P 0 j (vector_at frame j))
      → ((d m : ℕ) → d + suc m ≡ n → (t : ℕ) → t < 2 ^ n / 2 → P d (theta n (suc d) t) (at_place d (theta n (suc d) t)) → P d (phi n (suc d) t) (at_place d (phi n (suc d) t))
      → P (suc d) (theta n (suc d) t) (check_at d t) × P (suc d) (phi n (suc d) t) (variable_at d t))
      → (d : ℕ) → d ≤ n → (j : ℕ) → j < 2 ^ n → P d j (at_place d j)
  each_layer P base step zero l = λ j lj. subst (P 0 j) (sym (frame_vector j lj)) (base j lj)
  each_layer P base step (suc d) l = go (n - suc d) (omega arith) (each_layer P base step d (omega arith))
    where
      go : (m : ℕ) → d + suc m ≡ n → ((j : ℕ) → j < 2 ^ n → P d j (at_place d j)) → (j : ℕ) → j < 2 ^ n → P (suc d) j (at_place (suc d) j)
      go m e ih = each_vector d m e (P (suc d)) (λ t lt. (both t lt).0) (λ t lt. (both t lt).1)
        where
          both : (t : ℕ) → t < 2 ^ n / 2 → P (suc d) (theta n (suc d) t) (check_at d t) × P (suc d) (phi n (suc d) t) (variable_at d t)
          both t lt = step d m e t lt (ih (theta n (suc d) t) (theta_lt n d m e t lt)) (ih (phi n (suc d) t) (phi_lt n d m e t lt))

  -- u is a symbol
  pub u_lt : (d m : ℕ) → d + suc m ≡ n → IsWord n s → (t : ℕ) → t < 2 ^ n / 2 → theta_symbol n (suc d) t cs s < 64
  unfolding theta_symbol
  u_lt d m e iw t l = (layers_word n _ cs s iw).symbols (theta n (suc d) t) (theta_lt n d m e t l)

-- the update rule holds at every kernel of every layer
pub update_rule : (code : Code) (mode : Mode) (frame s : List ℕ) (l t : ℕ) → Within 1 code.n l → t < 2 ^ code.n / 2 → UpdateRule code mode frame s l t
unfolding vectors nodes variable_node lowered_at
update_rule code mode frame s zero t lw lt = absurd (let a = lw.least in omega arith)
update_rule code mode frame s (suc d) t lw lt =
    let n = code.n in
    let cs = code.coefs in
    let cap = mode.cap in
    let e : d + suc (code.n - suc d) ≡ code.n = (let a = lw.most in omega arith) in
    let h = coefficient n (suc d) t cs in
    let u = theta_symbol n (suc d) t cs s in
    let v = layer_made [] n d (n - suc d) e (λ i x y. check_node_by mode.candidates (coefficient n (suc d) i cs) x y)
    (λ i x y. variable_node cap (coefficient n (suc d) i cs) (theta_symbol n (suc d) i cs s) x y)
    (vectors code mode frame s d) (vectors_long code mode frame s d) t lt in
    record {
      at_theta = v.at_theta ∙ ap₂ (check_node_by mode.candidates h) (sym (theta_from code mode frame s d t)) (sym (phi_from code mode frame s d t));
      at_phi = v.at_phi ∙ ap₂ (λ (x y : List ℕ). clipped cap (lowered h u x y).rest) (sym (theta_from code mode frame s d t)) (sym (phi_from code mode frame s d t));
    }

-- from layer 1 on every vector has 64 entries
pub vector_long : (code : Code) (mode : Mode) (frame s : List ℕ) → 1 ≤ code.n → (j : ℕ) → j < 2 ^ code.n
    → length (get_or (vectors code mode frame s code.n) j []) ≡ 64
vector_long code mode frame s l j lj =
    let d = code.n - 1 in
    let e : suc d ≡ code.n = omega arith in
    subst (λ (x : ℕ). length (get_or (vectors code mode frame s x) j []) ≡ 64) e
    (each_vector code mode frame s d 0 (add-one d ∙ e) (λ j v. length v ≡ 64) (λ t lt. check_long _ _ _ _) (λ t lt. variable_long _ _ _ _ _) j lj)
