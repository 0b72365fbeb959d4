-- What holds of all 64 × 64 pairs of symbols, by one computed check over them.
use mathlib.Core.Path.{◌≡◌, sym, ap, ◌∙◌}
use mathlib.Core.Bool.{Bool, ◌&&◌}
use Prim.Native.Nat.{ℕ, suc, ◌<◌}
use native.Mathlib.Nat.{le_of_suc-le-suc}
use native.Mathlib.Decide.{dec_lt}
use native.Mathlib.Omega.{arith}
use lib.Dec.{T, ltb, eqb, ltb→lt, eqb→eq}
use Rattle.vector.proofs.All.{and_left, and_right, all, all_at}
use Rattle.gf64.proofs.SumLaws.{sum_comm}
use Rattle.gf64.specs.Field.{◌⊕◌, ◌⊙◌, times_a, product_bits, low_six}

-- the test of one pair: the product is the same both ways round, and a times a symbol is a symbol and distributes over
-- the sum
pair_ok : ℕ → ℕ → Bool
pair_ok x y = eqb (x ⊙ y) (y ⊙ x) && (ltb (times_a x) 64 && eqb (times_a (x ⊕ y)) (times_a x ⊕ times_a y))

-- the test of the pairs of one x with all y up to it: the laws are the same both ways round
row_ok : ℕ → Bool
unfolding all pair_ok
row_ok x = all (pair_ok x) (suc x)

-- the one check, over all pairs one way round
pairs : T (all row_ok 64)
unfolding all row_ok ◌⊙◌ product_bits times_a low_six ◌⊕◌
pairs = tt

-- what the check says of one pair
pub record Pair (x y : ℕ) : Type 0 where
  pub swap : x ⊙ y ≡ y ⊙ x
  pub a_symbol : times_a x < 64
  pub a_sum : times_a (x ⊕ y) ≡ times_a x ⊕ times_a y

-- the check at one pair whose second symbol is not the larger one
checked : (x y : ℕ) → x < 64 → y < suc x → Pair x y
unfolding row_ok pair_ok
checked x y hx hy =
    let a = eqb (x ⊙ y) (y ⊙ x) in
    let b = ltb (times_a x) 64 in
    let c = eqb (times_a (x ⊕ y)) (times_a x ⊕ times_a y) in
    let t = all_at (pair_ok x) (suc x) (all_at row_ok 64 pairs x hx) y hy in
    let t1 = and_right a (b && c) t in
    record {
      swap = eqb→eq (x ⊙ y) (y ⊙ x) (and_left a (b && c) t);
      a_symbol = ltb→lt (times_a x) 64 (and_left b c t1);
      a_sum = eqb→eq (times_a (x ⊕ y)) (times_a x ⊕ times_a y) (and_right b c t1);
    }

-- the laws at any pair
pub pair : (x y : ℕ) → x < 64 → y < 64 → Pair x y
pair x y hx hy = go (dec_lt y (suc x))
  where
    go : Dec (y < suc x) → Pair x y
    go (yes l) = checked x y hx l
    go (no l) =
        let p = checked y x hy (omega arith) in
        record {
          swap = sym p.swap;
          a_symbol = (checked x x hx (omega arith)).a_symbol;
          a_sum = ap times_a (sum_comm x y) ∙ p.a_sum ∙ sum_comm (times_a y) (times_a x);
        }

-- ---- the inverse

-- x times the square of p: of the k-th power of x the one of 2 k + 1
unfoldable pub step_up : ℕ → ℕ → ℕ
step_up x p = x ⊙ (p ⊙ p)

-- the 31st power by such steps, from the first on
unfoldable pub power31 : ℕ → ℕ
power31 x = step_up x (step_up x (step_up x (step_up x (x ⊙ 1))))

-- each symbol but 0 has an inverse: the square of its 31st power
inverse_ok : ℕ → Bool
inverse_ok x = eqb (power31 (suc x) ⊙ power31 (suc x) ⊙ suc x) 1

-- the check over the 63 symbols but 0
inverses : T (all inverse_ok 63)
unfolding all inverse_ok power31 step_up ◌⊙◌ product_bits times_a low_six ◌⊕◌
inverses = tt

-- the check at one symbol
pub inverse_at : (x : ℕ) → suc x < 64 → power31 (suc x) ⊙ power31 (suc x) ⊙ suc x ≡ 1
unfolding inverse_ok
inverse_at x h = eqb→eq (power31 (suc x) ⊙ power31 (suc x) ⊙ suc x) 1 (all_at inverse_ok 63 inverses x (le_of_suc-le-suc h))
