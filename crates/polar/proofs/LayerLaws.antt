-- What one layer does to a word, kernel by kernel: no kernel touches another's places.
use mathlib.Core.Path.{◌≡◌, refl, sym, ap₂, ◌∙◌, subst}
use mathlib.Core.Logic.{◌⊎◌, inl, inr, ⊎_elim}
use mathlib.Core.List.{List, [], ◌∷◌}
use Prim.Native.Nat.{ℕ, zero, suc, ◌+◌, ◌/◌, ◌-◌, ◌^◌, ◌≤◌, ◌<◌}
use native.Mathlib.Omega.{arith}
use native.Mathlib.Nat.{le_refl}
use lib.Dec.{lit<}
use lib.ListN.{length, get_or, set, length-set}
use Rattle.gf64.specs.Field.{◌⊕◌, ◌⊙◌}
use Rattle.gf64.proofs.SumLaws.{sum_lt}
use Rattle.gf64.proofs.ProductLaws.{product_lt}
use Rattle.polar_code.specs.Code.{IsWord}
use Rattle.polar.specs.Transform.{theta, phi, coefficient, at_kernel, at_kernels, at_layer, layer, layers, KernelMade}
use Rattle.vector.proofs.Entries.{get_d_each, both_first, both_second, both_other}
use Rattle.polar.proofs.Numbers.{lt_or_le}
use Rattle.polar.proofs.Kernels.{theta_theta, theta_phi, phi_phi, theta_lt_phi, phi_lt, theta_lt, one_kernel}

-- kernel t of layer l has made y from x at its two places, by its functions f and g
pub record Made {A : Type 0} (d : A) (n l t : ℕ) (f g : A → A → A) (x y : List A) : Type 0 where
  pub at_theta : get_or y (theta n l t) d ≡ f (get_or x (theta n l t) d) (get_or x (phi n l t) d)
  pub at_phi : get_or y (phi n l t) d ≡ g (get_or x (theta n l t) d) (get_or x (phi n l t) d)

module _ {A : Type 0} (d : A) (n l : ℕ) (f g : ℕ → A → A → A) where
  -- kernels keep the length of a list
  kernels_long : (k : ℕ) (x : List A) → length (at_kernels d n l k f g x) ≡ length x
  unfolding at_kernels at_kernel
  kernels_long zero x = refl
  kernels_long (suc k) x =
      let y = at_kernels d n l k f g x in
      let p = get_or y (theta n l k) d in
      let r = get_or y (phi n l k) d in
      length-set (set y (theta n l k) (f k p r)) (phi n l k) (g k p r) ∙ length-set y (theta n l k) (f k p r) ∙ kernels_long k x

  -- so does a layer
  pub at_layer_long : (x : List A) → length (at_layer d n l f g x) ≡ length x
  unfolding at_layer
  at_layer_long x = kernels_long (2 ^ n / 2) x

-- kernel t has left both
record Kept {A : Type 0} (d : A) (n l t : ℕ) (x y : List A) : Type 0 where
  at_theta : get_or y (theta n l t) d ≡ get_or x (theta n l t) d
  at_phi : get_or y (phi n l t) d ≡ get_or x (phi n l t) d

module _ {A : Type 0} (b : A) (n d m : ℕ) (e : d + suc m ≡ n) (f g : ℕ → A → A → A) (x : List A) (long : length x ≡ 2 ^ n) where
  -- one kernel, k, on a list y as long as x
  module _ (k : ℕ) (lk : k < 2 ^ n / 2) (y : List A) (ly : length y ≡ length x) where
    -- its φ is a place of the list
    φ-in : phi n (suc d) k < length y
    φ-in = subst (λ (z : ℕ). phi n (suc d) k < z) (sym (ly ∙ long)) (phi_lt n d m e k lk)

    -- so is its θ
    θ-in : theta n (suc d) k < length y
    θ-in = subst (λ (z : ℕ). theta n (suc d) k < z) (sym (ly ∙ long)) (theta_lt n d m e k lk)

    -- what stands at θ
    p : A
    p = get_or y (theta n (suc d) k) b

    -- and at φ
    r : A
    r = get_or y (phi n (suc d) k) b

    -- another kernel's places are left
    other : (t : ℕ) → (t ≡ k → ⊥) → Kept b n (suc d) t y (at_kernel b n (suc d) k (f k) (g k) y)
    unfolding at_kernel p r
    other t ne =
        let w = both_other b y (theta n (suc d) k) (phi n (suc d) k) (f k p r) (g k p r) θ-in φ-in (theta_lt_phi n d m e k) in
        record {
          at_theta = w (theta n (suc d) t) (λ q. ne (theta_theta n d m e t k q)) (λ q. ne (theta_phi n d m e t k q));
          at_phi = w (phi n (suc d) t) (λ q. ne (sym (theta_phi n d m e k t (sym q)))) (λ q. ne (phi_phi n d m e t k q));
        }

    -- its own two are made
    made : Made b n (suc d) k (f k) (g k) y (at_kernel b n (suc d) k (f k) (g k) y)
    unfolding at_kernel p r
    made = record {
      at_theta = both_first b y (theta n (suc d) k) (phi n (suc d) k) (f k p r) (g k p r) θ-in φ-in (theta_lt_phi n d m e k);
      at_phi = both_second b y (theta n (suc d) k) (phi n (suc d) k) (f k p r) (g k p r) θ-in φ-in (theta_lt_phi n d m e k);
    }

  -- the kernels from k on have not been at their places yet
  waiting : (k t : ℕ) → k ≤ t → t < 2 ^ n / 2 → Kept b n (suc d) t x (at_kernels b n (suc d) k f g x)
  unfolding at_kernels
  waiting zero t l lt = record { at_theta = refl; at_phi = refl }
  waiting (suc k) t l lt =
      let h = waiting k t (omega arith) lt in
      let o = other k (omega arith) (at_kernels b n (suc d) k f g x) (kernels_long b n (suc d) f g k x) t (λ q. absurd (omega arith)) in
      record { at_theta = o.at_theta ∙ h.at_theta; at_phi = o.at_phi ∙ h.at_phi }

  -- the kernels before k have been
  done : (k t : ℕ) → k ≤ 2 ^ n / 2 → t < k → Made b n (suc d) t (f t) (g t) x (at_kernels b n (suc d) k f g x)
  unfolding at_kernels
  done zero t lk l = absurd (omega arith)
  done (suc k) t lk l = go (lt_or_le t k) (done k t (omega arith))
    where
      y : List A
      y = at_kernels b n (suc d) k f g x

      go : (t < k) ⊎ (k ≤ t) → (t < k → Made b n (suc d) t (f t) (g t) x y) → Made b n (suc d) t (f t) (g t) x (at_kernel b n (suc d) k (f k) (g k) y)
      go (inl s) ih =
          let o = other k lk y (kernels_long b n (suc d) f g k x) t (λ q. absurd (omega arith)) in
          record { at_theta = o.at_theta ∙ (ih s).at_theta; at_phi = o.at_phi ∙ (ih s).at_phi }
      go (inr s) ih =
          let w = waiting k k (le_refl k) lk in
          let v = made k lk y (kernels_long b n (suc d) f g k x) in
          subst (λ (z : ℕ). Made b n (suc d) z (f z) (g z) x (at_kernel b n (suc d) k (f k) (g k) y)) (omega arith)
          (record {
            at_theta = v.at_theta ∙ ap₂ (f k) w.at_theta w.at_phi;
            at_phi = v.at_phi ∙ ap₂ (g k) w.at_theta w.at_phi;
          })

  -- a layer makes the places of each of its kernels from what stood there
  pub layer_made : (t : ℕ) → t < 2 ^ n / 2 → Made b n (suc d) t (f t) (g t) x (at_layer b n (suc d) f g x)
  unfolding at_layer
  layer_made t l = done (2 ^ n / 2) t (le_refl (2 ^ n / 2)) l

  -- what holds of both places of each kernel holds of every place
  pub each_place : (Q : ℕ → A → Type 0)
      → ((t : ℕ) → t < 2 ^ n / 2 → Q (theta n (suc d) t) (f t (get_or x (theta n (suc d) t) b) (get_or x (phi n (suc d) t) b)))
      → ((t : ℕ) → t < 2 ^ n / 2 → Q (phi n (suc d) t) (g t (get_or x (theta n (suc d) t) b) (get_or x (phi n (suc d) t) b)))
      → (j : ℕ) → j < 2 ^ n → Q j (get_or (at_layer b n (suc d) f g x) j b)
  each_place Q at-θ at-φ j lj =
      let k = one_kernel n d j (omega arith) lj in
      let v = layer_made k.number k.below in
      ⊎_elim
      (λ q. subst (λ (i : ℕ). Q i (get_or (at_layer b n (suc d) f g x) i b)) q (subst (Q (theta n (suc d) k.number)) (sym v.at_theta) (at-θ k.number k.below)))
      (λ q. subst (λ (i : ℕ). Q i (get_or (at_layer b n (suc d) f g x) i b)) q (subst (Q (phi n (suc d) k.number)) (sym v.at_phi) (at-φ k.number k.below)))
      k.joins

-- ---- the layers of the transform

-- a layer keeps the length of the word
pub layer_long : (n l : ℕ) (cs x : List ℕ) → length (layer n l cs x) ≡ length x
unfolding layer
layer_long n l cs x = at_layer_long 0 n l (λ t p r. p ⊕ r) (λ t p r. coefficient n l t cs ⊙ r) x

-- and so do layers
pub layers_long : (n k : ℕ) (cs u : List ℕ) → length (layers n k cs u) ≡ length u
unfolding layers
layers_long n zero cs u = refl
layers_long n (suc k) cs u = layer_long n (n - k) cs (layers n k cs u) ∙ layers_long n k cs u

-- a layer turns the places of each of its kernels
pub layer_kernel : (n d m : ℕ) (e : d + suc m ≡ n) (cs x : List ℕ) → length x ≡ 2 ^ n → (t : ℕ) → t < 2 ^ n / 2 → KernelMade n (suc d) t cs x (layer n (suc d) cs x)
unfolding layer
layer_kernel n d m e cs x long t l =
    let v = layer_made 0 n d m e (λ t p r. p ⊕ r) (λ t p r. coefficient n (suc d) t cs ⊙ r) x long t l in
    record { sum = v.at_theta; product = v.at_phi }

-- every entry of a list is a symbol, and so is the 0 past its end
abbrev Symbols : List ℕ → Type 0
Symbols x = (j : ℕ) → get_or x j 0 < 64

-- a symbol stored
set_symbols : (x : List ℕ) (i s : ℕ) → Symbols x → s < 64 → Symbols (set x i s)
set_symbols [] i s h l j = h j
set_symbols (y ∷ x) zero s h l zero = l
set_symbols (y ∷ x) zero s h l (suc j) = h (suc j)
set_symbols (y ∷ x) (suc i) s h l zero = h zero
set_symbols (y ∷ x) (suc i) s h l (suc j) = set_symbols x i s (λ k. h (suc k)) l j

-- kernels make symbols of symbols
kernels_symbols : (n l k : ℕ) (cs x : List ℕ) → Symbols x → Symbols (at_kernels 0 n l k (λ t p r. p ⊕ r) (λ t p r. coefficient n l t cs ⊙ r) x)
unfolding at_kernels at_kernel
kernels_symbols n l zero cs x h = h
kernels_symbols n l (suc t) cs x h =
    let y = at_kernels 0 n l t (λ t p r. p ⊕ r) (λ t p r. coefficient n l t cs ⊙ r) x in
    let i = kernels_symbols n l t cs x h in
    let p = get_or y (theta n l t) 0 in
    let r = get_or y (phi n l t) 0 in
    set_symbols (set y (theta n l t) (p ⊕ r)) (phi n l t) (coefficient n l t cs ⊙ r)
    (set_symbols y (theta n l t) (p ⊕ r) i (sum_lt p r (i (theta n l t)) (i (phi n l t)))) (product_lt (coefficient n l t cs) r)

-- so do layers
layers_symbols : (n k : ℕ) (cs u : List ℕ) → Symbols u → Symbols (layers n k cs u)
unfolding layers layer at_layer
layers_symbols n zero cs u h = h
layers_symbols n (suc k) cs u h = kernels_symbols n (n - k) (2 ^ n / 2) cs (layers n k cs u) (layers_symbols n k cs u h)

-- a word has symbols only
word_each : (n : ℕ) (u : List ℕ) → IsWord n u → Symbols u
word_each n u w = get_d_each (λ (x : ℕ). x < 64) 0 u (lit< tt) (λ j l. w.symbols j (let e = w.long in omega arith))

-- the words between the layers are words
pub layers_word : (n k : ℕ) (cs u : List ℕ) → IsWord n u → IsWord n (layers n k cs u)
layers_word n k cs u w = record {
  long = layers_long n k cs u ∙ w.long;
  symbols = λ j l. layers_symbols n k cs u (word_each n u w) j;
}
