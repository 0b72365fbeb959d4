-- The laws that the proofs of this crate's functions share.
use mathlib.Core.Path.{◌≡◌, refl}
use mathlib.Core.List.{List, [], ◌∷◌}
use Prim.Native.Nat.{ℕ}
use native.Mathlib.Omega.{arith}
use lib.ListN.{length, set}

-- the only entry of a list written
pub set_only : (xs : List ℕ) (x : ℕ) → length xs ≡ 1 → set xs 0 x ≡ x ∷ []
set_only [] x e = absurd (omega arith)
set_only (y ∷ []) x e = refl
set_only (y ∷ (z ∷ zs)) x e = absurd (omega arith)
