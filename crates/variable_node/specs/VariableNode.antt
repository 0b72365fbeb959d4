-- What a variable node leaves.
use Rattle.std.specs.Prelude.{ℕ, ◌≤◌, ◌≡◌, List}
use Rattle.gf64.specs.Field.{low_six}
use Rattle.scms.specs.Nodes.{Lowered, less_from, clipped, exceeding}
use Rattle.reorder.specs.Order.{low_bits}
use Rattle.variable_node.specs.declared.variable.VariableNode.{VariableNode}

module _ (cap u : ℕ) (theta ordered : List ℕ) where
  -- its sums, less the least of them. Of theta's symbol the six low bits count
  abbrev less : Lowered
  less = less_from (low_six u) (low_bits theta) (low_bits ordered)

  -- what a variable node gives: its penalties, its count of clipped entries, of which there are at most 64, and what
  -- was taken off
  pub record IsVariableNode (node : VariableNode) : Type 0 where
    pub llrs_are : node.llrs ≡ clipped cap less.rest
    pub count_is : node.count ≡ exceeding cap less.rest
    pub few : node.count ≤ 64
    pub taken_is : node.taken ≡ less.taken
