-- The vectors of a slice: where they lie, those of parts and of joined slices, and what a vector stored leaves.
use mathlib.Core.Path.{◌≡◌, refl, sym, ap, ap₂, ◌∙◌, subst}
use mathlib.Core.List.{List, ◌++◌, append_assoc}
use Prim.Native.Nat.{ℕ, ◌+◌, ◌-◌, ◌*◌, ◌/◌, ◌≤◌, ◌<◌}
use native.Mathlib.Decide.{dec_le, dec_lt}
use native.Mathlib.Nat.{le_of_eq}
use native.Mathlib.Numerals.{add-one}
use native.Mathlib.Omega.{arith}
use borrow.Author.Tests.{lt-ltb, le-ltb}
use lib.ListN.{length, get_or, take, drop, set, length-set, length-append, length-drop, take-append-drop}
use lib.Seq.{length-take-le, take_all, take_at, drop_at, take-append-le, drop-append-le, take-append-add, drop-append-add, get_or-take, get_or-drop, drop-drop, paste, paste-zero, paste-suc}
use Rattle.vector.specs.Vector.{tabulate, vector_at, joined, with_vector, stored}
use Rattle.vector.proofs.Laws.{length_tabulate, get_d_tabulate, tabulate_by}
use Rattle.vector.proofs.JoinedLaws.{joined_parts}

-- ---- where a vector lies

-- a vector of a slice has 64 entries
pub vector_long : {A : Type 0} (xs : List A) (i : ℕ) → 64 * (i + 1) ≤ length xs → length (vector_at xs i) ≡ 64
unfolding vector_at
vector_long xs i l = length-take-le 64 (drop (64 * i) xs) (simp length-drop (omega arith))

-- its entry b is the slice's at 64 × i + b
pub vector_entry_of : {A : Type 0} (d : A) (xs : List A) (i b : ℕ) → b < 64 → get_or (vector_at xs i) b d ≡ get_or xs (64 * i + b) d
unfolding vector_at
vector_entry_of d xs i b l = get_or-take 64 (drop (64 * i) xs) b d l ∙ get_or-drop (64 * i) xs b d

-- in a slice of numbers
pub vector_entry : (xs : List ℕ) (i b : ℕ) → b < 64 → get_or (vector_at xs i) b 0 ≡ get_or xs (64 * i + b) 0
vector_entry = vector_entry_of 0

-- ---- parts of a slice, and slices joined

-- the vectors of the first of two joined slices
pub vector_first : (n : ℕ) (xs ys : List ℕ) (i : ℕ) → length xs ≡ 64 * n → i < n → vector_at (xs ++ ys) i ≡ vector_at xs i
unfolding vector_at
vector_first n xs ys i e l =
    ap (take 64) (drop-append-le (64 * i) xs ys (omega arith)) ∙ take-append-le 64 (drop (64 * i) xs) ys (simp length-drop (omega arith))

-- and those of the second
pub vector_second : (n : ℕ) (xs ys : List ℕ) (i : ℕ) → length xs ≡ 64 * n → vector_at (xs ++ ys) (n + i) ≡ vector_at ys i
unfolding vector_at
vector_second n xs ys i e =
    let q : 64 * (n + i) ≡ length xs + 64 * i = omega arith in
    ap (λ (k : ℕ). take 64 (drop k (xs ++ ys))) q ∙ ap (take 64) (drop-append-add xs ys (64 * i))

-- the vectors of a slice's first n vectors
vector_take : (n : ℕ) (xs : List ℕ) (i : ℕ) → i < n → vector_at (take (64 * n) xs) i ≡ vector_at xs i
vector_take n xs i l = go (dec_le (64 * n) (length xs))
  where
    go : Dec (64 * n ≤ length xs) → vector_at (take (64 * n) xs) i ≡ vector_at xs i
    go (yes k) =
        sym (vector_first n (take (64 * n) xs) (drop (64 * n) xs) i (length-take-le (64 * n) xs k) l)
        ∙ ap (λ (ys : List ℕ). vector_at ys i) (take-append-drop (64 * n) xs)
    go (no k) = ap (λ (ys : List ℕ). vector_at ys i) (take_all (64 * n) xs (omega arith))

-- and of what is left without them
pub vector_drop : (n : ℕ) (xs : List ℕ) (i : ℕ) → vector_at (drop (64 * n) xs) i ≡ vector_at xs (n + i)
unfolding vector_at
vector_drop n xs i =
    let q : 64 * n + 64 * i ≡ 64 * (n + i) = omega arith in
    ap (take 64) (drop-drop (64 * i) (64 * n) xs ∙ ap (λ (k : ℕ). drop k xs) q)

-- a slice is its vectors, one after the other
pub joined_by : (n : ℕ) (f : ℕ → List ℕ) (xs : List ℕ) → length xs ≡ 64 * n → ((i : ℕ) → i < n → vector_at xs i ≡ f i) → xs ≡ joined n f
unfolding vector_at
joined_by n f xs e h = joined_parts 64 f xs n e h

-- ---- a vector stored: f 0, f 1, .., f 63 as vector i of a slice that has one

module _ (xs : List ℕ) (i : ℕ) (f : ℕ → ℕ) (l : 64 * (i + 1) ≤ length xs) where
  -- what stands before the vector is as long as the number where it begins
  front : length (take (64 * i) xs) ≡ 64 * i
  front = length-take-le (64 * i) xs (omega arith)

  -- the slice keeps its length
  pub with_long : length (with_vector xs i f) ≡ length xs
  unfolding with_vector
  with_long =
      let a = front in
      let b = length_tabulate 64 f in
      simp (length-append, length-drop) (omega arith)

  -- the vector is there
  pub with_there : vector_at (with_vector xs i f) i ≡ tabulate 64 f
  unfolding with_vector vector_at
  with_there =
      ap (take 64) (drop_at (take (64 * i) xs) (tabulate 64 f ++ drop (64 * i + 64) xs) (64 * i) front)
      ∙ take_at (tabulate 64 f) (drop (64 * i + 64) xs) 64 (length_tabulate 64 f)

  -- a vector before it is as it was
  with_before : (j : ℕ) → j < i → vector_at (with_vector xs i f) j ≡ vector_at xs j
  unfolding with_vector
  with_before j k = vector_first i (take (64 * i) xs) (tabulate 64 f ++ drop (64 * i + 64) xs) j front k ∙ vector_take i xs j k

  -- and one after it
  with_after : (j : ℕ) → vector_at (with_vector xs i f) (i + 1 + j) ≡ vector_at xs (i + 1 + j)
  unfolding with_vector
  with_after j =
      let head = take (64 * i) xs ++ tabulate 64 f in
      let a = front in
      let b = length_tabulate 64 f in
      let long : length head ≡ 64 * (i + 1) = simp length-append (omega arith) in
      let q : 64 * i + 64 ≡ 64 * (i + 1) = omega arith in
      ap (λ (ys : List ℕ). vector_at ys (i + 1 + j)) (sym (append_assoc (take (64 * i) xs) (tabulate 64 f) (drop (64 * i + 64) xs)))
      ∙ vector_second (i + 1) head (drop (64 * i + 64) xs) j long
      ∙ ap (λ (k : ℕ). vector_at (drop k xs) j) q
      ∙ vector_drop (i + 1) xs j

  -- so every other vector is
  pub with_other : (j : ℕ) → (j ≡ i → ⊥) → vector_at (with_vector xs i f) j ≡ vector_at xs j
  with_other j ne = go (dec_lt j i)
    where
      go : Dec (j < i) → vector_at (with_vector xs i f) j ≡ vector_at xs j
      go (yes k) = with_before j k
      go (no k) = subst (λ (m : ℕ). vector_at (with_vector xs i f) m ≡ vector_at xs m) (omega arith) (with_after (j - (i + 1)))

-- a slice before the one that is stored to
pub with_append : (n : ℕ) (xs ys : List ℕ) (j : ℕ) (f : ℕ → ℕ) → length xs ≡ 64 * n → xs ++ with_vector ys j f ≡ with_vector (xs ++ ys) (n + j) f
unfolding with_vector
with_append n xs ys j f e =
    let p : length xs + 64 * j ≡ 64 * (n + j) = omega arith in
    let q : length xs + (64 * j + 64) ≡ 64 * (n + j) + 64 = omega arith in
    let T = tabulate 64 f in
    sym (append_assoc xs (take (64 * j) ys) (T ++ drop (64 * j + 64) ys))
    ∙ ap₂ (λ (ys zs : List ℕ). ys ++ (T ++ zs))
    (sym (take-append-add xs ys (64 * j)) ∙ ap (λ (k : ℕ). take k (xs ++ ys)) p)
    (sym (drop-append-add xs ys (64 * j + 64)) ∙ ap (λ (k : ℕ). drop k (xs ++ ys)) q)

-- ---- what `load` gives and `store` leaves

-- the table of a vector's entries is the vector
pub entries_of : (v : List ℕ) → length v ≡ 64 → tabulate 64 (λ c. get_or v c 0) ≡ v
entries_of v e = sym (tabulate_by 0 64 (λ c. get_or v c 0) v e (λ c l. refl))

module _ (xs : List ℕ) (i : ℕ) (l : 64 * (i + 1) ≤ length xs) where
  -- the slice has the vector
  fits : i < length xs / 64
  fits = omega arith

  -- `store` writes it
  pub stored_there : (v : List ℕ) → stored xs i v ≡ with_vector xs i (λ c. get_or v c 0)
  unfolding stored
  stored_there v = rw (lt-ltb i (length xs / 64) fits)

  module _ (v : List ℕ) where
    -- the slice keeps its length
    pub stored_long : length (stored xs i v) ≡ length xs
    stored_long = ap length (stored_there v) ∙ with_long xs i (λ c. get_or v c 0) l

    -- the vector is there
    pub stored_is : length v ≡ 64 → vector_at (stored xs i v) i ≡ v
    stored_is e = ap (λ (ys : List ℕ). vector_at ys i) (stored_there v) ∙ with_there xs i (λ c. get_or v c 0) l ∙ entries_of v e

    -- and every other is as it was
    pub stored_other : (j : ℕ) → (j ≡ i → ⊥) → vector_at (stored xs i v) j ≡ vector_at xs j
    stored_other j ne = ap (λ (ys : List ℕ). vector_at ys j) (stored_there v) ∙ with_other xs i (λ c. get_or v c 0) l j ne

-- where the slice has no such vector, `store` writes nothing
pub stored_none : (xs : List ℕ) (i : ℕ) (v : List ℕ) → length xs / 64 ≤ i → stored xs i v ≡ xs
unfolding stored
stored_none xs i v l = rw (le-ltb i (length xs / 64) l)

-- a loop that stores f 0, f 1, .., f 63 as vector i of a slice: those before c are stored
pub record StoredTo (xs : List ℕ) (i : ℕ) (f : ℕ → ℕ) (after : List ℕ) (c : ℕ) : Type 0 where
  pub few : c ≤ 64
  pub long : length after ≡ length xs
  pub is : after ≡ paste xs (64 * i) (tabulate 64 f) c

-- where it begins
pub store_none : (xs : List ℕ) (i : ℕ) (f : ℕ → ℕ) → StoredTo xs i f xs 0
store_none xs i f = record { few = omega arith; long = refl; is = paste-zero xs (64 * i) (tabulate 64 f) }

module _ {xs : List ℕ} {i : ℕ} {f : ℕ → ℕ} {after : List ℕ} {c : ℕ} (l : 64 * (i + 1) ≤ length xs) (s : StoredTo xs i f after c) where
  -- one entry more
  pub store_more : c < 64 → StoredTo xs i f (set after (64 * i + c) (f c)) (c + 1)
  store_more k =
      let T = tabulate 64 f in
      let e = length_tabulate 64 f in
      record {
        few = omega arith;
        long = length-set after (64 * i + c) (f c) ∙ s.long;
        is = ap₂ (λ (ys : List ℕ) (x : ℕ). set ys (64 * i + c) x) s.is (sym (get_d_tabulate 0 64 f c k))
            ∙ paste-suc xs (64 * i) T c 0 (omega arith) (omega arith) ∙ ap (paste xs (64 * i) T) (sym (add-one c));
      }

  -- where it ends the vector is stored
  pub store_all : 64 ≤ c → after ≡ with_vector xs i f
  unfolding with_vector
  store_all k =
      let T = tabulate 64 f in
      let q : c ≡ 64 = (let m = s.few in omega arith) in
      s.is ∙ ap (paste xs (64 * i) T) q
      ∙ append_assoc (take (64 * i) xs) (take 64 T) (drop (64 * i + 64) xs)
      ∙ ap (λ (ys : List ℕ). take (64 * i) xs ++ (ys ++ drop (64 * i + 64) xs)) (take_all 64 T (le_of_eq (length_tabulate 64 f)))
