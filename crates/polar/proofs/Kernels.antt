-- Which places the kernels of a layer join: each place is θ or φ of exactly one of them.
use mathlib.Core.Path.{◌≡◌, sym, ap, ◌∙◌, subst}
use mathlib.Core.Logic.{◌⊎◌, inl, inr, ⊎_elim}
use Prim.Native.Nat.{ℕ, suc, ◌+◌, ◌*◌, ◌/◌, ◌%◌, ◌-◌, ◌^◌, ◌≤◌, ◌<◌}
use native.Mathlib.Nat.{mod-lt, div-add-mod', div-lt_iff_lt-mul}
use native.Mathlib.Omega.{arith}
use lib.Arith.{digits_div, digits_mod, digits_lt}
use lib.Pow.{pow_pos}
use Rattle.polar.specs.Transform.{theta, phi, OneKernel}
use Rattle.polar.proofs.Numbers.{whole, half_blocks, lt_or_le}

-- a place, as a layer has it: in block w of 2 × c places, number i in that block's first half (θ) or second half (φ)
module _ (c : ℕ) (pos : 0 < c) where
  -- kernel w × c + i has them
  block_theta : (w i : ℕ) → i < c → 2 * (w * c + i) - (w * c + i) % c ≡ w * (c + c) + i
  block_theta w i l = ap (λ (r : ℕ). 2 * (w * c + i) - r) (digits_mod w l) ∙ omega arith

  -- the kernel of a place
  kernel_at : ℕ → ℕ
  kernel_at j = j / (c + c) * c + j % c

  kernel_theta : (w i : ℕ) → i < c → kernel_at (w * (c + c) + i) ≡ w * c + i
  unfolding kernel_at
  kernel_theta w i l =
      let q : (w * (c + c) + i) / (c + c) ≡ w = digits_div w (omega arith) in
      let s : w * (c + c) + i ≡ (w * 2) * c + i = omega arith in
      let r : (w * (c + c) + i) % c ≡ i = ap (λ (x : ℕ). x % c) s ∙ digits_mod (w * 2) l in
      ap (λ (x : ℕ). x * c + (w * (c + c) + i) % c) q ∙ ap (λ (x : ℕ). w * c + x) r

  kernel_phi : (w i : ℕ) → i < c → kernel_at (w * (c + c) + i + c) ≡ w * c + i
  unfolding kernel_at
  kernel_phi w i l =
      let e : w * (c + c) + i + c ≡ w * (c + c) + (i + c) = omega arith in
      let q : (w * (c + c) + i + c) / (c + c) ≡ w = ap (λ (x : ℕ). x / (c + c)) e ∙ digits_div w (omega arith) in
      let s : w * (c + c) + i + c ≡ (w * 2 + 1) * c + i = omega arith in
      let r : (w * (c + c) + i + c) % c ≡ i = ap (λ (x : ℕ). x % c) s ∙ digits_mod (w * 2 + 1) l in
      ap (λ (x : ℕ). x * c + (w * (c + c) + i + c) % c) q ∙ ap (λ (x : ℕ). w * c + x) r

-- layer l = d + 1 of n = d + 1 + m layers: 2^d blocks of 2^m kernels, so N/2 kernels
module _ (n d m : ℕ) (e : d + suc m ≡ n) where
  gap : n - suc d ≡ m
  gap = omega arith

  -- θ and φ of kernel i of block w
  pub theta_is : (w i : ℕ) → i < 2 ^ m → theta n (suc d) (w * 2 ^ m + i) ≡ w * (2 ^ m + 2 ^ m) + i
  unfolding theta
  theta_is w i l = ap (λ (x : ℕ). 2 * (w * 2 ^ m + i) - (w * 2 ^ m + i) % 2 ^ x) gap ∙ block_theta (2 ^ m) (pow_pos m) w i l

  -- and φ
  pub phi_is : (w i : ℕ) → i < 2 ^ m → phi n (suc d) (w * 2 ^ m + i) ≡ w * (2 ^ m + 2 ^ m) + i + 2 ^ m
  unfolding phi
  phi_is w i l = ap (λ (x : ℕ). theta n (suc d) (w * 2 ^ m + i) + 2 ^ x) gap ∙ ap (λ (x : ℕ). x + 2 ^ m) (theta_is w i l)

  -- the kernel's number, from its block and its number there
  split : (t : ℕ) → t / 2 ^ m * 2 ^ m + t % 2 ^ m ≡ t
  split t = div-add-mod' t (2 ^ m)

  rest : (t : ℕ) → t % 2 ^ m < 2 ^ m
  rest t = mod-lt t (pow_pos m)

  kernel_of : ℕ → ℕ
  kernel_of j = kernel_at (2 ^ m) (pow_pos m) j

  of_theta : (t : ℕ) → kernel_of (theta n (suc d) t) ≡ t
  unfolding kernel_of
  of_theta t =
      subst (λ (x : ℕ). kernel_at (2 ^ m) (pow_pos m) (theta n (suc d) x) ≡ x) (split t)
      (ap (kernel_at (2 ^ m) (pow_pos m)) (theta_is (t / 2 ^ m) (t % 2 ^ m) (rest t)) ∙ kernel_theta (2 ^ m) (pow_pos m) (t / 2 ^ m) (t % 2 ^ m) (rest t))

  of_phi : (t : ℕ) → kernel_of (phi n (suc d) t) ≡ t
  unfolding kernel_of
  of_phi t =
      subst (λ (x : ℕ). kernel_at (2 ^ m) (pow_pos m) (phi n (suc d) x) ≡ x) (split t)
      (ap (kernel_at (2 ^ m) (pow_pos m)) (phi_is (t / 2 ^ m) (t % 2 ^ m) (rest t)) ∙ kernel_phi (2 ^ m) (pow_pos m) (t / 2 ^ m) (t % 2 ^ m) (rest t))

  -- no place is joined by two kernels
  pub theta_theta : (s t : ℕ) → theta n (suc d) s ≡ theta n (suc d) t → s ≡ t
  theta_theta s t q = sym (of_theta s) ∙ ap kernel_of q ∙ of_theta t

  -- nor φ of two
  pub phi_phi : (s t : ℕ) → phi n (suc d) s ≡ phi n (suc d) t → s ≡ t
  phi_phi s t q = sym (of_phi s) ∙ ap kernel_of q ∙ of_phi t

  -- nor θ of one and φ of another
  pub theta_phi : (s t : ℕ) → theta n (suc d) s ≡ phi n (suc d) t → s ≡ t
  theta_phi s t q = sym (of_theta s) ∙ ap kernel_of q ∙ of_phi t

  -- a kernel has two places
  pub theta_lt_phi : (t : ℕ) → theta n (suc d) t < phi n (suc d) t
  unfolding phi
  theta_lt_phi t = let p = pow_pos (n - suc d) in omega arith

  -- and both places of a kernel are places of the word
  pub phi_lt : (t : ℕ) → t < 2 ^ n / 2 → phi n (suc d) t < 2 ^ n
  phi_lt t l =
      let c = 2 ^ m in
      let h = half_blocks n d m e in
      let q = whole n d m e in
      let w : t / c < 2 ^ d = (div-lt_iff_lt-mul (pow_pos m)).1 (subst (λ (x : ℕ). t < x) h l) in
      let a : phi n (suc d) t ≡ t / c * (c + c) + (t % c + c) = ap (phi n (suc d)) (sym (split t)) ∙ phi_is (t / c) (t % c) (rest t) ∙ omega arith in
      let b : t / c * (c + c) + (t % c + c) < 2 ^ d * (c + c) = digits_lt w (let r = rest t in omega arith) in
      omega arith

  -- θ too
  pub theta_lt : (t : ℕ) → t < 2 ^ n / 2 → theta n (suc d) t < 2 ^ n
  theta_lt t l = let a = theta_lt_phi t in let b = phi_lt t l in omega arith

-- each place is θ or φ of exactly one kernel of each layer
pub one_kernel : (n d j : ℕ) → d < n → j < 2 ^ n → OneKernel n (suc d) j
one_kernel n d j ld lj = go (lt_or_le s c)
  where
    m : ℕ
    m = n - suc d

    e : d + suc m ≡ n
    e = omega arith

    c : ℕ
    c = 2 ^ m

    w : ℕ
    w = j / (c + c)

    s : ℕ
    s = j % (c + c)

    parts : w * (c + c) + s ≡ j
    parts = div-add-mod' j (c + c)

    s_lt : s < c + c
    s_lt = mod-lt j (let p = pow_pos m in omega arith)

    block : w < 2 ^ d
    block =
        let p : 0 < c + c = let l = pow_pos m in omega arith in
        (div-lt_iff_lt-mul p).1 (subst (λ (x : ℕ). j < x) (whole n d m e) lj)

    kernel_lt : (i : ℕ) → i < c → w * c + i < 2 ^ n / 2
    kernel_lt i l = subst (λ (x : ℕ). w * c + i < x) (sym (half_blocks n d m e)) (digits_lt block l)

    go : (s < c) ⊎ (c ≤ s) → OneKernel n (suc d) j
    go (inl l) =
        let q : theta n (suc d) (w * c + s) ≡ j = theta_is n d m e w s l ∙ parts in
        record {
          number = w * c + s;
          below = kernel_lt s l;
          joins = inl q;
          only = λ t r. ⊎_elim (λ a. theta_theta n d m e t (w * c + s) (a ∙ sym q)) (λ a. sym (theta_phi n d m e (w * c + s) t (q ∙ sym a))) r;
        }
    go (inr h) =
        let l : s - c < c = omega (arith, s_lt) in
        let q : phi n (suc d) (w * c + (s - c)) ≡ j = phi_is n d m e w (s - c) l ∙ omega (arith, parts) in
        record {
          number = w * c + (s - c);
          below = kernel_lt (s - c) l;
          joins = inr q;
          only = λ t r. ⊎_elim (λ a. theta_phi n d m e t (w * c + (s - c)) (a ∙ sym q)) (λ a. phi_phi n d m e t (w * c + (s - c)) (a ∙ sym q)) r;
        }
