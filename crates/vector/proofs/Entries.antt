-- The entries of a list: within it the default is not looked at; a property of all; two of them stored to.
use mathlib.Core.Path.{◌≡◌, refl, ◌∙◌}
use mathlib.Core.List.{List, [], ◌∷◌}
use Prim.Native.Nat.{ℕ, zero, suc, ◌<◌}
use native.Mathlib.Nat.{le_of_suc-le-suc, not-suc-le-zero}
use native.Mathlib.Omega.{arith}
use lib.ListN.{length, get_or, set, length-set}
use lib.Seq.{get_or-set_same, get_or-set_other}

-- within a list the default is not looked at
pub get_d_any : (xs : List ℕ) (i d e : ℕ) → i < length xs → get_or xs i d ≡ get_or xs i e
get_d_any [] i d e l = absurd (not-suc-le-zero l)
get_d_any (x ∷ xs) zero d e l = refl
get_d_any (x ∷ xs) (suc i) d e l = get_d_any xs i d e (le_of_suc-le-suc l)

-- a property of every entry of a list, and of the default past its end
pub get_d_each : {A : Type 0} (P : A → Type 0) (d : A) (xs : List A) → P d → ((i : ℕ) → i < length xs → P (get_or xs i d)) → (i : ℕ) → P (get_or xs i d)
get_d_each P d [] p h i = p
get_d_each P d (x ∷ xs) p h zero = h zero (omega arith)
get_d_each P d (x ∷ xs) p h (suc i) = get_d_each P d xs p (λ j l. h (suc j) (omega arith)) i

-- two places of a list stored to
module _ {A : Type 0} (d : A) (xs : List A) (i j : ℕ) (x y : A) (li : i < length xs) (lj : j < length xs) (ne : i < j) where
  abbrev both : List A
  both = set (set xs i x) j y

  -- the length stays
  pub both_long : length both ≡ length xs
  both_long = length-set (set xs i x) j y ∙ length-set xs i x

  -- what stands at the first place
  pub both_first : get_or both i d ≡ x
  both_first = get_or-set_other (set xs i x) j i y d (λ q. absurd (omega arith)) ∙ get_or-set_same xs i x d li

  -- at the second
  pub both_second : get_or both j d ≡ y
  both_second = get_or-set_same (set xs i x) j y d (let e = length-set xs i x in omega arith)

  -- and at any other
  pub both_other : (k : ℕ) → (k ≡ i → ⊥) → (k ≡ j → ⊥) → get_or both k d ≡ get_or xs k d
  both_other k a b = get_or-set_other (set xs i x) j k y d b ∙ get_or-set_other xs i k x d a
