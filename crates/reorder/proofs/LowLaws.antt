-- The laws of penalties and the bits of them that count.
use mathlib.Core.Path.{◌≡◌, sym, subst}
use mathlib.Core.List.{List}
use Prim.Native.Nat.{ℕ, ◌%◌, ◌<◌}
use native.Mathlib.Omega.{arith}
use lib.ListN.{get_or}
use Rattle.vector.proofs.Laws.{length_tabulate, get_d_tabulate, tabulate_by}
use Rattle.reorder.specs.Order.{low_bits, Small}

-- what counts is small
pub low_small : {w : List ℕ} (v : List ℕ) → w ≡ low_bits v → Small w
unfolding low_bits
low_small v e = subst Small (sym e) (record {
  long = length_tabulate 64 (λ b. get_or v b 0 % 8192);
  most = λ b l. rw get_d_tabulate (omega arith);
})

-- of penalties that are small all of it counts
pub low_same : (v : List ℕ) → Small v → low_bits v ≡ v
unfolding low_bits
low_same v s = sym (tabulate_by 0 64 (λ b. get_or v b 0 % 8192) v s.long (λ b l. let m = s.most b l in omega arith))

-- the bits that count of one entry
pub low_at : (v : List ℕ) (b : ℕ) → b < 64 → get_or (low_bits v) b 0 ≡ get_or v b 0 % 8192
unfolding low_bits
low_at v b l = get_d_tabulate 0 64 (λ k. get_or v k 0 % 8192) b l
