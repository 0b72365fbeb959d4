-- Parts of a frame that are lent: their lengths, and the frame with one of them written.
use mathlib.Core.Path.{◌≡◌, sym, ap, ap₂, ◌∙◌, subst}
use mathlib.Core.List.{List, ◌++◌}
use Prim.Native.Nat.{ℕ, ◌+◌, ◌-◌, ◌*◌, ◌≤◌, ◌<◌}
use native.Mathlib.Omega.{arith}
use borrow.Rule.Slice.PartMut.{put_mid}
use borrow.Author.Count.{below_more}
use lib.ListN.{length, get_or, take, drop, length-drop}
use lib.Seq.{length-take-le, drop-drop}
use Rattle.vector.specs.Vector.{tabulate, vector_at, with_vector, AtMost, HasZero}
use Rattle.vector.proofs.SliceLaws.{with_there, with_other, entries_of}

-- the 64 numbers of a place
pub place_long : (place : ℕ) (frame : List ℕ) → 64 * place + 64 ≤ length frame → length (take (64 * place + 64 - 64 * place) (drop (64 * place) frame)) ≡ 64
place_long place frame l =
    let d = length-drop (64 * place) frame in
    let e = length-take-le (64 * place + 64 - 64 * place) (drop (64 * place) frame) (omega arith) in
    omega arith

-- a frame with the 64 numbers of a place put in: vector `place` is these numbers, and every other vector is as it was
module _ (place : ℕ) (frame numbers : List ℕ) (l : 64 * place + 64 ≤ length frame) (long : length numbers ≡ 64) where
  put_is : put_mid (64 * place) (64 * place + 64 - 64 * place) frame numbers ≡ with_vector frame place (λ c. get_or numbers c 0)
  unfolding with_vector
  put_is =
      let e : 64 * place + 64 - 64 * place ≡ 64 = omega arith in
      ap₂ (λ (k : ℕ) (xs : List ℕ). take (64 * place) frame ++ (xs ++ drop k (drop (64 * place) frame))) e (sym (entries_of numbers long))
      ∙ ap (λ (ys : List ℕ). take (64 * place) frame ++ (tabulate 64 (λ c. get_or numbers c 0) ++ ys)) (drop-drop 64 (64 * place) frame)

  pub put_there : vector_at (put_mid (64 * place) (64 * place + 64 - 64 * place) frame numbers) place ≡ numbers
  put_there =
      ap (λ (xs : List ℕ). vector_at xs place) put_is ∙ with_there frame place (λ c. get_or numbers c 0) (omega arith) ∙ entries_of numbers long

  pub put_other : (i : ℕ) → (i ≡ place → ⊥) → vector_at (put_mid (64 * place) (64 * place + 64 - 64 * place) frame numbers) i ≡ vector_at frame i
  put_other i h = ap (λ (xs : List ℕ). vector_at xs i) put_is ∙ with_other frame place (λ c. get_or numbers c 0) (omega arith) i h

  -- so if the vectors before it hold penalties, and these numbers are penalties, the vectors up to it do
  pub penalties_more : ((i : ℕ) → i < place → AtMost 31 (vector_at frame i) × HasZero (vector_at frame i)) → AtMost 31 numbers → HasZero numbers
      → (i : ℕ) → i < place + 1
      → AtMost 31 (vector_at (put_mid (64 * place) (64 * place + 64 - 64 * place) frame numbers) i)
      × HasZero (vector_at (put_mid (64 * place) (64 * place + 64 - 64 * place) frame numbers) i)
  penalties_more before small zero =
      let good : List ℕ → Type 0 = λ v. AtMost 31 v × HasZero v in
      below_more _ place (λ i k. subst good (sym (put_other i (λ q. absurd (omega arith)))) (before i k)) (subst good (sym put_there) (small, zero))
