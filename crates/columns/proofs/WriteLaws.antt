-- Writing a number column by column, from the last column to the first: what is left to write, and what is already
-- there, make up the whole.
use mathlib.Core.Path.{◌≡◌, refl}
use mathlib.Core.List.{List, [], ◌∷◌, ◌++◌}
use Prim.Native.Nat.{ℕ, zero, suc, ◌+◌, ◌-◌, ◌/◌, ◌≤◌, ◌<◌}
use native.Mathlib.Nat.{not-suc-le-zero}
use native.Mathlib.Omega.{arith}
use lib.ListN.{length, drop, set}
use Rattle.std.proofs.lemmas.Grind.{common_steps}
use Rattle.columns.specs.Columns.{digit, column, before, field}

-- the bytes from the one just stored on
stored : (out : List ℕ) (j x : ℕ) → j < length out → drop j (set out j x) ≡ x ∷ drop (suc j) out
stored out j x l = grind (arith, common_steps)

-- no column
pub no_column : (v : ℕ) (out : List ℕ) → length out ≡ 0 → out ≡ field (length out) v
unfolding field
no_column v [] e = refl
no_column v (x ∷ xs) e = absurd (omega arith)

-- the last column
pub last_column : (v : ℕ) (out : List ℕ) (last x : ℕ) → length out ≡ last + 1 → x ≡ digit v
    → before last (v / 10) ++ drop last (set out last x) ≡ field (length out) v
unfolding field
last_column v [] last x long e = absurd (omega arith)
last_column v (y ∷ ys) last x long e = grind (arith, common_steps)

-- one column more
pub more_columns : (k left : ℕ) (out : List ℕ) (x : ℕ) → 0 < k → k ≤ length out → x ≡ column left
    → before (k - 1) (left / 10) ++ drop (k - 1) (set out (k - 1) x) ≡ before k left ++ drop k out
unfolding before
more_columns zero left out x l m e = absurd (not-suc-le-zero l)
more_columns (suc j) left out x l m e =
    let k : suc j - 1 ≡ j = omega arith in
    let s = stored out j x (omega arith) in
    grind (arith, common_steps)

-- no column is left
pub nothing_left : (left : ℕ) (out : List ℕ) → before 0 left ++ drop 0 out ≡ out
unfolding before
nothing_left left out = refl

-- where writing starts and ends
pub ruleset ends = (no_column, last_column, nothing_left)
