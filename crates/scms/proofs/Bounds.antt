-- Every vector of every node holds a 0 and no entry above the cap; and with a cap that is high enough nothing is clipped.
use mathlib.Core.Path.{◌≡◌, sym, ap, ap₂, ◌∙◌, subst}
use mathlib.Core.List.{List}
use Prim.Native.Nat.{ℕ, zero, suc, ◌+◌, ◌*◌, ◌/◌, ◌-◌, ◌^◌, ◌≤◌, ◌<◌}
use native.Mathlib.Nat.{le_trans, le_of_eq, le_refl, mul-le-mul, mul-one, mul-add}
use native.Mathlib.Omega.{arith}
use lib.Pow.{pow_mono}
use lib.ListN.{get_or}
use Rattle.refusal.specs.Tests.{Within}
use Rattle.vector.specs.Vector.{HasZero, AtMost}
use Rattle.vector.specs.Frame.{largest_llr}
use Rattle.polar_code.specs.Code.{Code, Coefficients, IsWord}
use Rattle.polar.specs.Transform.{theta, phi, coefficient}
use Rattle.polar.proofs.Kernels.{theta_lt, phi_lt}
use Rattle.polar.proofs.Numbers.{two_pow}
use Rattle.scms.specs.Mode.{Mode, TriesOne}
use Rattle.scms.specs.Nodes.{lowered}
use Rattle.scms.specs.Decoder.{theta_symbol, theta_vector, phi_vector, lowered_at}
use Rattle.scms.specs.Totals.{EachZero, EachAtMost}
use Rattle.scms.specs.Claims.{Fits}
use Rattle.scms.proofs.NodeLaws.{check_zero, variable_zero, check_most, rest_most, variable_cap, variable_most}
use Rattle.scms.proofs.VectorLaws.{coefficient_nonzero, theta_from, phi_from, at_place, each_layer, u_lt}

-- a number times 2^(d + 1)
pub twice : (most d : ℕ) → most * 2 ^ suc d ≡ most * 2 ^ d + most * 2 ^ d
twice most d = ap (λ (x : ℕ). most * x) (two_pow d) ∙ mul-add most (2 ^ d) (2 ^ d)

module _ (code : Code) (mode : Mode) (frame s : List ℕ) (one : TriesOne mode) (g : Coefficients code.coefs)
    (z : EachZero code.n frame) where
  -- the number of layers
  abbrev n : ℕ
  n = code.n

  -- the cap of its variable nodes
  abbrev cap : ℕ
  cap = mode.cap

  -- the coefficients
  abbrev cs : List ℕ
  cs = code.coefs

  -- the vector of layer d at a place
  abbrev here : ℕ → ℕ → List ℕ
  here d j = at_place code mode frame s d j

  -- every vector holds a 0, clipped or not
  pub vector_zero : (d : ℕ) → d ≤ n → (j : ℕ) → j < 2 ^ n → HasZero (here d j)
  vector_zero = each_layer code mode frame s (λ d j v. HasZero v) z
      (λ d m e t lt zv zw. (check_zero _ _ _ _ one (coefficient_nonzero n (suc d) t cs g) zv zw, variable_zero _ _ _ _ _))

  -- where the frame's entries are at most the cap, so is every entry of every vector: a check node needs no cap
  vector_cap : EachAtMost n cap frame → (d : ℕ) → d ≤ n → (j : ℕ) → j < 2 ^ n → AtMost cap (here d j)
  vector_cap mf d l j lj = (each_layer code mode frame s (λ d j v. HasZero v × AtMost cap v) (λ j lj. (z j lj, mf j lj))
      (λ d m e t lt p q.
      let nz = coefficient_nonzero n (suc d) t cs g in
      ((check_zero _ _ _ _ one nz p.0 q.0, check_most _ _ _ _ _ one nz p.1 q.0), (variable_zero _ _ _ _ _, variable_cap _ _ _ _ _))) d l j lj).1

  -- both, and what follows for sums
  pub fits : EachAtMost n cap frame → Fits code mode frame s
  fits mf = record {
    zeros = λ l i k li. vector_zero l k i li;
    capped = λ l i k li. vector_cap mf l k i li;
    sums_fit = sums_fit_at mf;
  }
    where
      sums_fit_at : EachAtMost n cap frame → cap ≤ largest_llr → (l t b c : ℕ) → Within 1 n l → t < 2 ^ n / 2 → b < 64 → c < 64
          → get_or (theta_vector code mode frame s l t) b 0 + get_or (phi_vector code mode frame s l t) c 0 < 2 ^ 16
      sums_fit_at mf hc zero t b c lw lt lb lc = absurd (let a = lw.least in omega arith)
      sums_fit_at mf hc (suc d) t b c lw lt lb lc =
          let k = lw.most in
          let e : d + suc (n - suc d) ≡ n = omega arith in
          let v = vector_cap mf d (omega arith) (theta n (suc d) t) (theta_lt n d (n - suc d) e t lt) b lb in
          let w = vector_cap mf d (omega arith) (phi n (suc d) t) (phi_lt n d (n - suc d) e t lt) c lc in
          let x = ap (λ (y : List ℕ). get_or y b 0) (theta_from code mode frame s d t) in
          let y = ap (λ (y : List ℕ). get_or y c 0) (phi_from code mode frame s d t) in
          omega arith

  module _ (most : ℕ) (w : IsWord n s) (mf : EachAtMost n most frame) where
    -- the variable nodes of layer d + 1 before the cap, where the two vectors are at most 2^d times the frame's bound
    rest_bound : (d m : ℕ) → d + suc m ≡ n → (t : ℕ) → t < 2 ^ n / 2
        → AtMost (most * 2 ^ d) (here d (theta n (suc d) t)) → AtMost (most * 2 ^ d) (here d (phi n (suc d) t))
        → AtMost (most * 2 ^ suc d) (lowered (coefficient n (suc d) t cs) (theta_symbol n (suc d) t cs s) (here d (theta n (suc d) t)) (here d (phi n (suc d) t))).rest
    rest_bound d m e t lt p q =
        subst (λ (x : ℕ). AtMost x (lowered (coefficient n (suc d) t cs) (theta_symbol n (suc d) t cs s) (here d (theta n (suc d) t)) (here d (phi n (suc d) t))).rest)
        (sym (twice most d)) (rest_most _ _ _ _ _ (u_lt code mode frame s d m e w t lt) p q)

    -- the entries at most double with each layer
    vector_most : (d : ℕ) → d ≤ n → (j : ℕ) → j < 2 ^ n → AtMost (most * 2 ^ d) (here d j)
    vector_most d l j lj = (each_layer code mode frame s (λ d j v. HasZero v × AtMost (most * 2 ^ d) v)
        (λ j lj. (z j lj, λ b lb. le_trans (mf j lj b lb) (le_of_eq (sym (mul-one most)))))
        (λ d m e t lt p q.
        let nz = coefficient_nonzero n (suc d) t cs g in (
          (check_zero _ _ _ _ one nz p.0 q.0, λ b lb. le_trans (check_most _ _ _ _ _ one nz p.1 q.0 b lb) (mul-le-mul (le_refl most) (pow_mono {i = d} {j = suc d} (omega arith)))),
          (variable_zero _ _ _ _ _, variable_most _ _ _ _ _ _ (rest_bound d m e t lt p.1 q.1)),
        )) d l j lj).1

    -- so with a cap of 2^n times the frame's bound no entry of a variable node exceeds it
    pub never_exceeds : most * 2 ^ n ≤ cap → (l t c : ℕ) → Within 1 n l → t < 2 ^ n / 2 → c < 64 → get_or (lowered_at code mode frame s l t).rest c 0 ≤ cap
    unfolding lowered_at
    never_exceeds hc zero t c lw lt lc = absurd (let a = lw.least in omega arith)
    never_exceeds hc (suc d) t c lw lt lc =
        let k = lw.most in
        let m = n - suc d in
        let e : d + suc (n - suc d) ≡ n = omega arith in
        let v = vector_most d (omega arith) in
        le_trans (le_of_eq (ap₂ (λ (x y : List ℕ). get_or (lowered (coefficient n (suc d) t cs) (theta_symbol n (suc d) t cs s) x y).rest c 0)
        (theta_from code mode frame s d t) (phi_from code mode frame s d t)))
        (le_trans (rest_bound d m e t lt (v (theta n (suc d) t) (theta_lt n d m e t lt)) (v (phi n (suc d) t) (phi_lt n d m e t lt)) c lc)
        (le_trans (mul-le-mul (le_refl most) (pow_mono {i = suc d} {j = n} k)) hc))
