-- The smallest value whose penalty is least, found by a search from 0 on.
use mathlib.Core.Path.{◌≡◌, sym, ap, ◌∙◌}
use mathlib.Core.List.{List}
use Prim.Native.Nat.{ℕ, ◌<◌, ◌≤◌}
use Rattle.std.specs.Prelude.{Option, Some, None, MatchOption, unwrap_or}
use native.Mathlib.Decide.{dec_lt}
use native.Mathlib.Omega.{arith}
use lib.ListN.{get_or}
use Rattle.vector.specs.Vector.{least}
use Rattle.vector.proofs.Laws.{least_le, least_at}
use Rattle.scms.specs.Decision.{smallest}
use Rattle.scms.proofs.DecisionLaws.{smallest_lt, smallest_least, smallest_first}

-- the first of the 64 values at which the least is found is the smallest whose penalty is least
pub smallest_found : {m : ℕ} (v : List ℕ) (b : ℕ) → m ≡ least v → b < 64 → ((k : ℕ) → k < b → get_or v k 0 ≡ m → ⊥) → get_or v b 0 ≡ m → b ≡ smallest v
smallest_found {m} v b e l none here = go (dec_lt b (smallest v)) (dec_lt (smallest v) b)
  where
    -- the smallest value's penalty is the least
    at_least : get_or v (smallest v) 0 ≡ m
    at_least =
        let p = least_at v in
        let low = smallest_least v p.0 p.1 in
        let high = least_le v (smallest v) (smallest_lt v) in
        let q = p.2 in
        omega arith

    go : Dec (b < smallest v) → Dec (smallest v < b) → b ≡ smallest v
    go (yes t) u = absurd (let f = smallest_first v b t in let q = at_least in omega arith)
    go (no t) (yes u) = absurd (none (smallest v) u at_least)
    go (no t) (no u) = omega arith

-- where it is not among the first 63, it is the last
pub smallest_last : {m : ℕ} (v : List ℕ) → m ≡ least v → ((k : ℕ) → k < 63 → get_or v k 0 ≡ m → ⊥) → 63 ≡ smallest v
smallest_last {m} v e none = smallest_found v 63 e (omega arith) none (go (least_at v))
  where
    go : (b : ℕ) × (b < 64) × (get_or v b 0 ≡ least v) → get_or v 63 0 ≡ m
    go p = end p (dec_lt p.0 63)
      where
        end : (p : (b : ℕ) × (b < 64) × (get_or v b 0 ≡ least v)) → Dec (p.0 < 63) → get_or v 63 0 ≡ m
        end p (yes t) = absurd (none p.0 t (p.2 ∙ sym e))
        end p (no t) =
            let k : 63 ≡ p.0 = (let l = p.1 in omega arith) in
            ap (λ (j : ℕ). get_or v j 0) k ∙ p.2 ∙ sym e

-- what a search among the first 63 gives, or else the last
pub smallest_search : {m : ℕ} (v : List ℕ) (r : Option ℕ) (lo : ℕ) → lo ≡ 0 → m ≡ least v
    → MatchOption r ((k : ℕ) → lo ≤ k → k < 63 → get_or v k 0 ≡ m → ⊥) (λ b. (lo ≤ b) × (b < 63) × (get_or v b 0 ≡ m) × ((k : ℕ) → lo ≤ k → k < b → get_or v k 0 ≡ m → ⊥))
    → unwrap_or r 63 ≡ smallest v
smallest_search v None lo z e none = smallest_last v e (λ k l. none k (omega arith) l)
smallest_search v (Some b) lo z e here = smallest_found v b e (omega arith) (λ k l. here.3 k (omega arith) l) here.2
