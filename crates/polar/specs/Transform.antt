-- The polar transform in document 01's own indices: layer n first, layer 1 last; kernel by kernel in each layer.
use Rattle.std.specs.Prelude.{ℕ, zero, suc, ◌+◌, ◌*◌, ◌/◌, ◌%◌, ◌-◌, ◌^◌, ◌<◌, ◌≡◌, ◌⊎◌, List, get_or, set}
use Rattle.gf64.specs.Field.{◌⊕◌, ◌⊙◌}

-- the first place that kernel t of layer l joins: θ
unfoldable pub theta : (n l t : ℕ) → ℕ
theta n l t = 2 * t - t % 2 ^ (n - l)

-- and the second: φ
unfoldable pub phi : (n l t : ℕ) → ℕ
phi n l t = theta n l t + 2 ^ (n - l)

-- the coefficient h of kernel t of layer l (a code that is accepted has it; the 1 is never reached)
unfoldable pub coefficient : (n l t : ℕ) → List ℕ → ℕ
coefficient n l t cs = get_or cs ((l - 1) * (2 ^ n / 2) + t) 1

module _ {A : Type 0} (d : A) where
  -- kernel t of layer l on a list with something for each place: what stands at θ and φ becomes what f and g make of
  -- the two
  unfoldable pub at_kernel : (n l t : ℕ) → (A → A → A) → (A → A → A) → List A → List A
  at_kernel n l t f g x =
      let p = get_or x (theta n l t) d in
      let r = get_or x (phi n l t) d in
      set (set x (theta n l t) (f p r)) (phi n l t) (g p r)

  -- the kernels 0 to k − 1 of layer l; kernel t has the functions f t and g t
  unfoldable pub at_kernels : (n l k : ℕ) → (ℕ → A → A → A) → (ℕ → A → A → A) → List A → List A
  at_kernels n l zero f g x = x
  at_kernels n l (suc t) f g x = at_kernel n l t (f t) (g t) (at_kernels n l t f g x)

  -- all N/2 kernels of layer l
  unfoldable pub at_layer : (n l : ℕ) → (ℕ → A → A → A) → (ℕ → A → A → A) → List A → List A
  at_layer n l f g x = at_kernels n l (2 ^ n / 2) f g x

-- layer l of the transform: each kernel turns (p, r) at its places into (p ⊕ r, h ⊙ r)
unfoldable pub layer : (n l : ℕ) → List ℕ → List ℕ → List ℕ
layer n l cs x = at_layer 0 n l (λ t p r. p ⊕ r) (λ t p r. coefficient n l t cs ⊙ r) x

-- the first k layers in the order of encoding: n, n − 1, .., n − k + 1
unfoldable pub layers : (n k : ℕ) → List ℕ → List ℕ → List ℕ
layers n zero cs u = u
layers n (suc k) cs u = layer n (n - k) cs (layers n k cs u)

-- the transform of a word u of N symbols: all n layers
unfoldable pub transform : ℕ → List ℕ → List ℕ → List ℕ
transform n cs u = layers n n cs u

-- place j is θ or φ of a kernel of layer l, and of no other
pub record OneKernel (n l j : ℕ) : Type 0 where
  pub number : ℕ
  pub below : number < 2 ^ n / 2
  pub joins : (theta n l number ≡ j) ⊎ (phi n l number ≡ j)
  pub only : (t : ℕ) → (theta n l t ≡ j) ⊎ (phi n l t ≡ j) → t ≡ number

-- kernel t of layer l has made y of the word x at its two places
pub record KernelMade (n l t : ℕ) (cs x y : List ℕ) : Type 0 where
  pub sum : get_or y (theta n l t) 0 ≡ get_or x (theta n l t) 0 ⊕ get_or x (phi n l t) 0
  pub product : get_or y (phi n l t) 0 ≡ coefficient n l t cs ⊙ get_or x (phi n l t) 0
