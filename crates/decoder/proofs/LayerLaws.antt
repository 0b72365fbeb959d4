-- How the loops over the nodes of one layer go on: one more vector is stored after the block's own.
use mathlib.Core.Path.{◌≡◌, refl, sym, ap, ◌∙◌, subst}
use mathlib.Core.List.{List, ◌++◌}
use Prim.Native.Nat.{ℕ, ◌+◌, ◌-◌, ◌*◌, ◌≤◌, ◌<◌}
use native.Mathlib.Decide.{dec_lt}
use native.Mathlib.Omega.{arith}
use lib.ListN.{length, get_or, length-append}
use Rattle.vector.specs.Vector.{vector_at, with_vector, stored}
use Rattle.vector.proofs.SliceLaws.{vector_long, with_long, with_there, with_other, with_append, entries_of, stored_there, stored_long, stored_is, stored_other}
use Rattle.reorder.specs.Order.{Small, low_bits}
use Rattle.reorder.proofs.LowLaws.{low_same}
use Rattle.decoder.specs.Parts.{Kept, LayerGiven, OrderedGiven}
use Rattle.decoder.specs.declared.vectors.BlockAt.{BlockAt}

-- the vectors g 0, g 1, .., g (t − 1) stand after the block's, and what was before them is as it was
pub record StoredNodes (at half : ℕ) (frame work : List ℕ) (g : ℕ → List ℕ) (after : List ℕ) (t : ℕ) : Type 0 where
  pub few : t ≤ half
  pub long : length after ≡ length work
  pub kept : Kept (at + (half + half)) (frame ++ work) (frame ++ after)
  pub nodes : (s : ℕ) → s < t → vector_at (frame ++ after) (at + (half + half) + s) ≡ g s

-- where the loops begin
pub layer_none : {at half : ℕ} {frame work : List ℕ} {g : ℕ → List ℕ} → StoredNodes at half frame work g work 0
layer_none = record { few = omega arith; long = refl; kept = λ i l. refl; nodes = λ s l. absurd (omega arith) }

module _ {block : BlockAt} {half : ℕ} {frame work : List ℕ} (given : LayerGiven block half frame work) where
  -- the number of the block's first vector
  abbrev at : ℕ
  at = block.at

  -- how many vectors the frame has
  abbrev places : ℕ
  places = block.places

  -- a vector of the block is one that a node can be given
  pub source_small : (i : ℕ) → i < half + half → Small (vector_at (frame ++ work) (at + i))
  source_small i l = record {
    long = vector_long (frame ++ work) (at + i) (let k = given.long in simp length-append (omega arith));
    most = given.most i l;
  }

  module _ {g : ℕ → List ℕ} {after : List ℕ} {t : ℕ} (s : StoredNodes at half frame work g after t) where
    -- what has been loaded is the block's vector as it came
    pub loaded_is : (i : ℕ) → i < half + half → (v : List ℕ) → v ≡ vector_at (frame ++ after) (at + i) → v ≡ vector_at (frame ++ work) (at + i)
    loaded_is i l v e = e ∙ s.kept (at + i) (omega arith)

    -- and all of its bits count
    pub low_is : (i : ℕ) → i < half + half → (v : List ℕ) → v ≡ vector_at (frame ++ after) (at + i) → low_bits v ≡ vector_at (frame ++ work) (at + i)
    low_is i l v e = ap low_bits (loaded_is i l v e) ∙ low_same (vector_at (frame ++ work) (at + i)) (source_small i l)

    module _ (l : t < half) (v : List ℕ) (q : v ≡ g t) (e : length (g t) ≡ 64) where
      -- the number of the next vector in the work buffer
      abbrev there : ℕ
      there = at + (half + half) - places + t

      -- and in the frame and the work buffer together
      abbrev number : ℕ
      number = at + (half + half) + t

      -- the work buffer has that vector
      in_after : 64 * (there + 1) ≤ length after
      in_after =
          let a = given.whole in
          let b = given.in_work in
          let c = given.long in
          let d = s.long in
          omega arith

      -- and so have the two together
      in_both : 64 * (number + 1) ≤ length (frame ++ after)
      in_both =
          let c = given.long in
          let d = s.long in
          simp length-append (omega arith)

      -- v stored in the work buffer is v stored in the two together
      both : frame ++ stored after there v ≡ with_vector (frame ++ after) number (λ c. get_or v c 0)
      both =
          let b = given.in_work in
          let m : places + there ≡ number = omega arith in
          ap (λ (ys : List ℕ). frame ++ ys) (stored_there after there in_after v)
          ∙ with_append (places) frame after there (λ c. get_or v c 0) given.whole
          ∙ ap (λ (k : ℕ). with_vector (frame ++ after) k (λ c. get_or v c 0)) m

      -- so v is there
      here : vector_at (frame ++ stored after there v) number ≡ v
      here = ap (λ (ys : List ℕ). vector_at ys number) both ∙ with_there (frame ++ after) number (λ c. get_or v c 0) in_both ∙ entries_of v (ap length q ∙ e)

      -- and every other vector is as it was
      other : (i : ℕ) → (i ≡ number → ⊥) → vector_at (frame ++ stored after there v) i ≡ vector_at (frame ++ after) i
      other i ne = ap (λ (ys : List ℕ). vector_at ys i) both ∙ with_other (frame ++ after) number (λ c. get_or v c 0) in_both i ne

      -- one vector more
      pub layer_more : (next : List ℕ) → next ≡ stored after (at + (half + half) - places + t) v → StoredNodes at half frame work g next (t + 1)
      layer_more next w = subst (λ (x : List ℕ). StoredNodes at half frame work g x (t + 1)) (sym w) (record {
        few = omega arith;
        long = ap length (stored_there after there in_after v) ∙ with_long after there (λ c. get_or v c 0) in_after ∙ s.long;
        kept = λ i k. other i (λ z. absurd (omega arith)) ∙ s.kept i k;
        nodes = λ i k. go i k (dec_lt i t);
      })
        where
          go : (i : ℕ) → i < t + 1 → Dec (i < t) → vector_at (frame ++ stored after there v) (at + (half + half) + i) ≡ g i
          go i k (yes m) = other (at + (half + half) + i) (λ z. absurd (omega arith)) ∙ s.nodes i m
          go i k (no m) =
              let z : t ≡ i = omega arith in
              subst (λ (j : ℕ). vector_at (frame ++ stored after there v) (at + (half + half) + j) ≡ g j) z (here ∙ q)

-- the vectors g 0, g 1, .., g (t − 1) stand one after the other at the start of a slice with room for `half` of them
pub record StoredFirst (half : ℕ) (before : List ℕ) (g : ℕ → List ℕ) (after : List ℕ) (t : ℕ) : Type 0 where
  pub room : 64 * half ≤ length before
  pub long : length after ≡ length before
  pub vectors : (s : ℕ) → s < t → vector_at after s ≡ g s

-- one more
pub first_more : {half t : ℕ} {before after next v : List ℕ} {g : ℕ → List ℕ} → StoredFirst half before g after t → t < half → v ≡ g t → length (g t) ≡ 64
    → next ≡ stored after t v → StoredFirst half before g next (t + 1)
first_more {half} {t} {before} {after} {next} {v} {g} h l q e w =
    let room : 64 * (t + 1) ≤ length after = (let k = h.room in let m = h.long in omega arith) in
    subst (λ (x : List ℕ). StoredFirst half before g x (t + 1)) (sym w) (record {
      room = h.room;
      long = stored_long after t room v ∙ h.long;
      vectors = λ s k. go room s k (dec_lt s t);
    })
  where
    go : 64 * (t + 1) ≤ length after → (s : ℕ) → s < t + 1 → Dec (s < t) → vector_at (stored after t v) s ≡ g s
    go room s k (yes m) = stored_other after t room v s (λ z. absurd (omega arith)) ∙ h.vectors s m
    go room s k (no m) =
        let z : t ≡ s = omega arith in
        subst (λ (j : ℕ). vector_at (stored after t v) j ≡ g j) z (stored_is after t room v (ap length q ∙ e) ∙ q)

-- of a vector of φ's in the order of c that variable nodes are given all bits count
pub low_first : {half : ℕ} {ordered : List ℕ} → OrderedGiven half ordered → (t : ℕ) → t < half → (v : List ℕ) → v ≡ vector_at ordered t → low_bits v ≡ vector_at ordered t
low_first {half} {ordered} g t l v e =
    ap low_bits e ∙ low_same (vector_at ordered t) (record { long = vector_long ordered t (let k = g.long in omega arith); most = g.most t l })
