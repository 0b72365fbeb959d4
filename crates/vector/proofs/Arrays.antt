-- Arrays made by `array::from_fn` with a closure that changes none of its captures: that it may be called at each index,
-- and which list it makes.
use Rattle.std.proofs.Common.{◌≡◌, ℕ, zero, suc, ◌+◌, ◌≤◌, ◌<◌, ◌∙◌, List, [], ◌∷◌, get_or, sym, subst, arith}
use native.Mathlib.Decide.{dec_lt}
use denote.Param.Members.{Mut, Called}
use Rattle.std.specs.Iterator.{CallableAtEachTurn}
use Rattle.std.specs.List.{FoldsTo}
use Rattle.std.specs.Array.{index_steps, IsFromFnResult, IsFromFnResultFrom}
use Rattle.vector.specs.Vector.{tabulate}
use Rattle.vector.proofs.Laws.{tabulate_by}

module _ {F : Type 0} (R : F → ℕ → F → Type 0) (f : F) (stays : (x : ℕ) (q : F) → R f x q → q ≡ f) where
  -- steps that change nothing lead nowhere else
  unmoved : (xs : List ℕ) (q : F) → FoldsTo R f xs q → q ≡ f
  unmoved [] q w = sym w
  unmoved (x ∷ xs) q w = unmoved xs q (subst (λ p. FoldsTo R p xs q) (stays x w.0 w.1) w.2)

  -- a closure that changes nothing may be called at each index below n, if as it comes it may be
  pub callable_each : (Q : F → ℕ → Type 0) (n : ℕ) → ((x : ℕ) → x < n → Q f x) → CallableAtEachTurn (index_steps n) R Q 0 f
  callable_each Q n h = record {
    at = λ xs t q x u y w e. subst (λ k. Q k x) (sym (unmoved xs q w)) (h x (omega (arith, e.0, e.1)));
  }

module _ {F B : Type 0} (g : Mut F (ℕ × Unit {0}) B) (f : F) (ys : List B) (h : ℕ → B) where
  -- the entries from index i on are h's, if each call gives h's answer and changes nothing
  made_from : (d : B) (n i : ℕ) → IsFromFnResultFrom g f ys i n → ((j : ℕ) (y : B) (q : F) → i ≤ j → j < i + n → Called g f (j, tt) y q → (q ≡ f) × (y ≡ h j))
      → (k : ℕ) → i ≤ k → k < i + n → get_or ys k d ≡ h k
  made_from d zero i w gives k a b = absurd (omega arith)
  made_from d (suc n) i w gives k a b =
      let here = gives i w.1 w.0 (omega arith) (omega arith) w.3 in
      go here.1 (λ l. made_from d n (i + 1) (subst (λ q. IsFromFnResultFrom g q ys (i + 1) n) here.0 w.4) (λ j y q s t c. gives j y q (omega arith) (omega arith) c) k l (omega arith)) (dec_lt i k)
    where
      go : (w.1 ≡ h i) → (i + 1 ≤ k → get_or ys k d ≡ h k) → Dec (i < k) → get_or ys k d ≡ h k
      go here later (yes l) = later (omega arith)
      go here later (no l) = let e : i ≡ k = omega arith in subst (λ j. get_or ys j d ≡ h j) e (w.2.1 d ∙ here)

  -- so the array is the table of h
  pub made_of : (d : B) (n : ℕ) → IsFromFnResult g f ys n → ((j : ℕ) (y : B) (q : F) → j < n → Called g f (j, tt) y q → (q ≡ f) × (y ≡ h j)) → ys ≡ tabulate n h
  made_of d n r gives = tabulate_by d n h ys r.long (λ k l. made_from d n 0 r.each (λ j y q s t c. gives j y q (omega arith) c) k (omega arith) (omega arith))
