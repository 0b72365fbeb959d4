-- The two kinds of nodes. A node of a kernel makes one vector of 64 penalties from two: θ's and φ's of the layer
-- before its own, on the side of the channel.
use Rattle.std.specs.Prelude.{ℕ, ◌+◌, min, cond, List, ltb, get_or}
use Rattle.vector.specs.Vector.{tabulate, sum_to, least_to, least, less_least}
use Rattle.gf64.specs.Field.{◌⊕◌, ◌⊙◌}
use Rattle.scms.specs.Tried.{tried, least_over}

-- φ's vector in the order of c: φ's penalty at h ⊙ c, for each c
unfoldable pub ordered : (h : ℕ) → List ℕ → List ℕ
ordered h phi = tabulate 64 (λ c. get_or phi (h ⊙ c) 0)

-- a node's sum at c: θ's penalty at b ⊕ c plus φ's at h ⊙ c, which stands at c in φ's vector in that order
abbrev pub sum_at : (theta ordered : List ℕ) (b c : ℕ) → ℕ
sum_at theta ordered b c = get_or theta (b ⊕ c) 0 + get_or ordered c 0

-- a check node from θ's vector and φ's in the order of c
unfoldable pub check_from : (theta ordered : List ℕ) → List ℕ
check_from theta ordered = tabulate 64 (λ b. least_to 63 (sum_at theta ordered b))

-- a check node: value b gets the least, over all c, of θ's penalty at b ⊕ c plus φ's at h ⊙ c
unfoldable pub check_node : (h : ℕ) (theta phi : List ℕ) → List ℕ
check_node h theta phi = check_from theta (ordered h phi)

-- a shorter check node from the same: value b gets the least of its sums at the values that are tried
unfoldable pub check_tried : (m : ℕ) (theta ordered : List ℕ) → List ℕ
check_tried m theta ordered =
    let cs = tried m ordered in tabulate 64 (λ b. least_over cs (sum_at theta ordered b))

-- a check node that tries m values: value b gets the least, over the m values c whose φ penalty, counted at h ⊙ c, is
-- smallest, ties to the smaller c, of θ's penalty at b ⊕ c plus φ's at h ⊙ c. With m = 64 it is `check_node`
unfoldable pub check_node_by : (m h : ℕ) (theta phi : List ℕ) → List ℕ
check_node_by m h theta phi = check_tried m theta (ordered h phi)

-- the sums of a variable node from θ's vector and φ's in the order of c, θ's symbol being u
unfoldable pub sums_from : (u : ℕ) (theta ordered : List ℕ) → List ℕ
sums_from u theta ordered = tabulate 64 (sum_at theta ordered u)

-- the sums of a variable node, θ's symbol being u: c gets θ's penalty at u ⊕ c plus φ's at h ⊙ c
unfoldable pub sums : (h u : ℕ) (theta phi : List ℕ) → List ℕ
sums h u theta phi = sums_from u theta (ordered h phi)

-- a vector less its least entry, and what was taken off
pub record Lowered : Type 0 where
  pub rest : List ℕ
  pub taken : ℕ

-- the step that subtracts the least of the 64
unfoldable pub subtract_least : List ℕ → Lowered
subtract_least v = record { rest = less_least v; taken = least v }

-- what exceeds the cap, clipped to it
unfoldable pub clipped : (cap : ℕ) → List ℕ → List ℕ
clipped cap v = tabulate 64 (λ c. min cap (get_or v c 0))

-- how many of the 64 entries exceed the cap
unfoldable pub exceeding : (cap : ℕ) → List ℕ → ℕ
exceeding cap v = sum_to 64 (λ c. cond (ltb cap (get_or v c 0)) 1 0)

-- the sums of a variable node, the least of the 64 subtracted, from θ's vector and φ's in the order of c
unfoldable pub less_from : (u : ℕ) (theta ordered : List ℕ) → Lowered
less_from u theta ordered = subtract_least (sums_from u theta ordered)

-- a variable node before the cap: its sums, the least of the 64 subtracted
unfoldable pub lowered : (h u : ℕ) (theta phi : List ℕ) → Lowered
lowered h u theta phi = less_from u theta (ordered h phi)

-- a variable node: the least is subtracted, and then what exceeds the cap is clipped to it
unfoldable pub variable_node : (cap h u : ℕ) (theta phi : List ℕ) → List ℕ
variable_node cap h u theta phi = clipped cap (lowered h u theta phi).rest

-- its count of clipped entries
unfoldable pub clipped_entries : (cap h u : ℕ) (theta phi : List ℕ) → ℕ
clipped_entries cap h u theta phi = exceeding cap (lowered h u theta phi).rest
