-- The laws of copies of a vector.
use Rattle.std.proofs.Common.{◌≡◌, ℕ, ◌+◌, ◌*◌, ◌/◌, ◌%◌, ◌<◌, ◌≤◌, List, length, get_or, sym, ap, ◌∙◌, subst, arith}
use native.Mathlib.Decide.{dec_lt}
use Rattle.vector.specs.Vector.{vector_at, stored}
use Rattle.vector.proofs.SliceLaws.{vector_entry, stored_long, stored_is, stored_other}
use Rattle.gf64.specs.Field.{◌⊕◌}
use Rattle.reorder.specs.Order.{swapped}
use Rattle.reorder.proofs.SwapLaws.{swapped_at, swapped_long}
use Rattle.check_node.specs.Steps.{AreCopies}

-- one copy more
pub copies_more : {v w after u : List ℕ} (n : ℕ) → AreCopies n v w → n < 8 → after ≡ stored w n u → u ≡ swapped v n → AreCopies (n + 1) v after
copies_more {v} {w} {after} {u} n h l e f =
    let room : 64 * (n + 1) ≤ length w = (let k = h.long in omega arith) in
    let long : length u ≡ 64 = ap length f ∙ swapped_long v n in
    record {
      long = ap length e ∙ stored_long w n room u ∙ h.long;
      copy = λ k s. go room long k s (dec_lt k n);
    }
  where
    go : 64 * (n + 1) ≤ length w → length u ≡ 64 → (k : ℕ) → k < n + 1 → Dec (k < n) → vector_at after k ≡ swapped v k
    go room long k s (yes t) = ap (λ (z : List ℕ). vector_at z k) e ∙ stored_other w n room u k (λ q. absurd (omega arith)) ∙ h.copy k t
    go room long k s (no t) =
        let q : n ≡ k = omega arith in
        subst (λ (j : ℕ). vector_at after j ≡ swapped v j) q (ap (λ (z : List ℕ). vector_at z n) e ∙ stored_is w n room u long ∙ f)

-- an entry of the copies
pub copies_at : {v w : List ℕ} → AreCopies 8 v w → (n : ℕ) → n < 512 → get_or w n 0 ≡ get_or v ((n % 64) ⊕ (n / 64)) 0
copies_at {v} {w} h n l =
    let e : n ≡ 64 * (n / 64) + n % 64 = omega arith in
    ap (λ (k : ℕ). get_or w k 0) e
    ∙ sym (vector_entry w (n / 64) (n % 64) (omega arith))
    ∙ ap (λ (z : List ℕ). get_or z (n % 64) 0) (h.copy (n / 64) (omega arith))
    ∙ swapped_at v (n / 64) (n % 64) (omega arith)
