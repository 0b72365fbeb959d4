-- The least of numbers by index, as it is taken from the list of them.
use mathlib.Core.Path.{◌≡◌, refl, ap, ◌∙◌}
use mathlib.Core.List.{[], ◌∷◌, map}
use Prim.Native.Nat.{ℕ, zero, suc, ◌+◌, min}
use native.Mathlib.Omega.{arith}
use Rattle.std.specs.Prelude.{Some}
use Rattle.std.specs.List.{fold, reduce, range_with_len}
use Rattle.std.proofs.lemmas.List.FromFn.{map-range_with_len_more}
use Rattle.std.proofs.lemmas.List.Sums.{fold-append}
use Rattle.vector.specs.Vector.{least_to}

-- the first number, and then one after the other
folded : (k : ℕ) (f : ℕ → ℕ) → fold min (f 0) (map f (range_with_len 1 k)) ≡ least_to k f
unfolding least_to
folded zero f = refl
folded (suc k) f =
    let e : suc k ≡ k + 1 = omega arith in
    ap (λ (n : ℕ). fold min (f 0) (map f (range_with_len 1 n))) e
    ∙ ap (fold min (f 0)) (map-range_with_len_more f 1 k (suc k) (omega arith))
    ∙ fold-append min (f 0) (map f (range_with_len 1 k)) (f (suc k) ∷ [])
    ∙ ap (λ (m : ℕ). min m (f (suc k))) (folded k f)

-- the least of the numbers 0 to k
pub least_reduced : (k : ℕ) (f : ℕ → ℕ) → reduce min (map f (range_with_len 0 (suc k))) ≡ Some (least_to k f)
least_reduced k f = ap Some (folded k f)
