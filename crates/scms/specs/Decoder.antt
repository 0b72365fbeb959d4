-- The decoder in document 01's own indices: layers 1 to n, kernels t, places θ and φ.
use Rattle.std.specs.Prelude.{ℕ, zero, suc, ◌+◌, ◌*◌, ◌/◌, ◌%◌, ◌-◌, ◌^◌, List, [], get_or, set, replicate}
use Rattle.vector.specs.Vector.{tabulate, vector_at, joined, sum_to}
use Rattle.polar_code.specs.Code.{Code, kind_of}
use Rattle.polar.specs.Transform.{theta, phi, coefficient, at_layer, layers}
use Rattle.scms.specs.Mode.{Mode}
use Rattle.scms.specs.Nodes.{Lowered, check_node_by, variable_node, lowered, exceeding}
use Rattle.scms.specs.Decision.{decision}

-- u, θ's symbol at kernel t of layer l: what the kernels of the later layers, n down to l + 1, make of the symbols
-- decided, s, at place θ
unfoldable pub theta_symbol : (n l t : ℕ) (cs s : List ℕ) → ℕ
theta_symbol n l t cs s = get_or (layers n (n - l) cs s) (theta n l t) 0

-- the nodes of layer l on the vectors of all places: each kernel's check node at θ, and its variable node at φ
unfoldable pub nodes : (n l : ℕ) → Mode → (cs s : List ℕ) → List (List ℕ) → List (List ℕ)
nodes n l mode cs s vs =
    at_layer [] n l
    (λ t v w. check_node_by mode.candidates (coefficient n l t cs) v w)
    (λ t v w. variable_node mode.cap (coefficient n l t cs) (theta_symbol n l t cs s) v w) vs

-- A code, a mode, a frame, and a word s with the symbols decided so far. What s holds at a place not yet decided
-- reaches only vectors of later places (specs/Claims, OnlyEarlier), so it does not matter.
module _ (code : Code) (mode : Mode) (frame s : List ℕ) where
  -- the number of layers
  abbrev n : ℕ
  n = code.n

  -- the coefficients
  abbrev cs : List ℕ
  cs = code.coefs

  -- the vectors of layer l, one for each place; those of layer 0 are the frame's
  unfoldable pub vectors : ℕ → List (List ℕ)
  vectors zero = tabulate (2 ^ n) (vector_at frame)
  vectors (suc d) = nodes n (suc d) mode cs s (vectors d)

  -- θ's vector that the nodes of kernel t of layer l are given: of layer l − 1
  unfoldable pub theta_vector : (l t : ℕ) → List ℕ
  theta_vector l t = get_or (vectors (l - 1)) (theta n l t) []

  -- φ's vector
  unfoldable pub phi_vector : (l t : ℕ) → List ℕ
  phi_vector l t = get_or (vectors (l - 1)) (phi n l t) []

  -- the variable node of kernel t of layer l before the cap, and what it took off
  unfoldable pub lowered_at : (l t : ℕ) → Lowered
  lowered_at l t = lowered (coefficient n l t cs) (theta_symbol n l t cs s) (theta_vector l t) (phi_vector l t)

  -- the 64 penalties held at place i: its vector of layer n
  unfoldable pub held_at : ℕ → List ℕ
  held_at i = get_or (vectors n) i []

  -- the count of clipped entries of the variable node of kernel t of layer l
  unfoldable pub clipped_at : (l t : ℕ) → ℕ
  clipped_at l t = exceeding mode.cap (lowered_at l t).rest

  -- the count of clipped entries over all variable nodes: layers 1 to n, kernels 0 to N/2 − 1
  unfoldable pub clip_count : ℕ
  clip_count = sum_to n (λ d. sum_to (2 ^ n / 2) (clipped_at (suc d)))

  -- The line of place i: the nodes of layers 1 to n that its vector of layer n is made from. What those of layer l took
  -- off: that layer halves the block of 2 × 2^(n−l) places in which i lies. In its second half, where i / 2^(n−l) is
  -- odd, all 2^(n−l) kernels of the block count; in its first half, which check nodes feed, none
  unfoldable pub taken_in : (l i : ℕ) → ℕ
  taken_in l i =
      i / 2 ^ (n - l) % 2 * sum_to (2 ^ (n - l)) (λ k. (lowered_at l (i / (2 * 2 ^ (n - l)) * 2 ^ (n - l) + k)).taken)

  -- what was taken off along the line of place i, from layer 1 to layer n
  unfoldable pub taken_off : ℕ → ℕ
  taken_off i = sum_to n (λ d. taken_in (suc d) i)

module _ (code : Code) (mode : Mode) (frame : List ℕ) where
  -- the symbols of the first i places, decided in rising order, and 0 at the places after them
  unfoldable pub decided_to : ℕ → List ℕ
  decided_to zero = replicate (2 ^ code.n) 0
  decided_to (suc i) =
      let s = decided_to i in set s i (decision (kind_of (get_or code.map i 0)) (held_at code mode frame s i))

  -- the 64 penalties held for place i when it is decided
  unfoldable pub held : ℕ → List ℕ
  held i = held_at code mode frame (decided_to i) i

  -- the answer: the N symbols
  unfoldable pub symbols : List ℕ
  symbols = decided_to (2 ^ code.n)

  -- the report: for each place, the 64 penalties held when it was decided
  unfoldable pub report : List ℕ
  report = joined (2 ^ code.n) held

  -- the totals: for each place, what was taken off along its line
  unfoldable pub totals : List ℕ
  totals = tabulate (2 ^ code.n) (taken_off code mode frame symbols)

  -- the count of clipped entries over all variable nodes
  unfoldable pub count : ℕ
  count = clip_count code mode frame symbols
