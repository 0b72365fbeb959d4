-- The decision at one place, from the 64 penalties held for it.
use Rattle.std.specs.Prelude.{ℕ, zero, suc, cond, List, ltb, get_or}
use Rattle.polar_code.specs.declared.kinds.Kind.{Kind}
use Rattle.polar_code.specs.declared.kinds.Kind.TheVariants.{Message as message, Frozen as frozen}

-- the smallest of 0, 1, .., k at which f is least
unfoldable pub smallest_to : ℕ → (ℕ → ℕ) → ℕ
smallest_to zero f = 0
smallest_to (suc k) f = let p = smallest_to k f in cond (ltb (f (suc k)) (f p)) (suc k) p

-- the smallest value whose penalty is least
unfoldable pub smallest : List ℕ → ℕ
smallest v = smallest_to 63 (λ b. get_or v b 0)

-- a message place takes that value, a frozen place the symbol that it always holds
unfoldable pub decision : Kind → List ℕ → ℕ
decision message v = smallest v
decision (frozen s) v = s
