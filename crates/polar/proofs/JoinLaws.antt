-- How the loop over the kernels that join two halves goes on, and what it leaves by the table of products.
use mathlib.Core.Path.{◌≡◌, ap, ap₂, ◌∙◌, subst}
use mathlib.Core.Logic.{◌⊎◌, inl, inr}
use mathlib.Core.List.{List}
use Prim.Native.Nat.{ℕ, ◌+◌, ◌≤◌, ◌<◌}
use native.Mathlib.Omega.{arith}
use lib.ListN.{length, get_or, set}
use Rattle.gf64.specs.Field.{◌⊕◌}
use Rattle.gf64.specs.ProductTable.{product_table, entry_of}
use Rattle.gf64.proofs.ProductTableLaws.{entry_product}
use Rattle.polar.specs.Join.{Halves, JoinedWith, Joined}
use Rattle.vector.proofs.Entries.{get_d_any, both_long, both_first, both_second, both_other}
use Rattle.polar.proofs.Numbers.{lt_or_le}

-- kernel s has made `after` of the word
abbrev pub Done : (times : ℕ → ℕ → ℕ) (half start : ℕ) (cs word after : List ℕ) (s : ℕ) → Type 0
Done times half start cs word after s =
    (get_or after s 0 ≡ get_or word s 0 ⊕ get_or word (half + s) 0) × (get_or after (half + s) 0 ≡ times (get_or cs (start + s) 1) (get_or word (half + s) 0))

-- kernel s has not been at its places yet
abbrev pub Left : (half : ℕ) (word after : List ℕ) (s : ℕ) → Type 0
Left half word after s = (get_or after s 0 ≡ get_or word s 0) × (get_or after (half + s) 0 ≡ get_or word (half + s) 0)

-- the kernels before t are done, the others left
pub record JoinedTo (times : ℕ → ℕ → ℕ) (half start : ℕ) (cs word after : List ℕ) (t : ℕ) : Type 0 where
  pub few : t ≤ half
  pub long : length after ≡ length word
  pub done : (s : ℕ) → s < t → Done times half start cs word after s
  pub left : (s : ℕ) → t ≤ s → s < half → Left half word after s

-- one kernel more: its two places are stored to
module _ (times : ℕ → ℕ → ℕ) (half start : ℕ) (cs word after : List ℕ) (t : ℕ) (given : Halves half start cs word) (l : t < half)
    (j : JoinedTo times half start cs word after t) where
  abbrev next : ℕ → List ℕ
  next r = set (set after t (get_or after t 0 ⊕ get_or after (half + t) 0)) (half + t) r

  -- then kernel t is done too
  pub join_more : (r : ℕ) → r ≡ times (get_or cs (start + t) 0) (get_or after (half + t) 0) → JoinedTo times half start cs word (next r) (t + 1)
  join_more r e =
      let n = given.long in
      let m = j.long in
      let x = get_or after t 0 ⊕ get_or after (half + t) 0 in
      let lθ : t < length after = omega arith in
      let lφ : half + t < length after = omega arith in
      let ne : t < half + t = omega arith in
      let o = both_other 0 after t (half + t) x r lθ lφ ne in
      let old = j.left t (omega arith) l in
      let h : get_or cs (start + t) 0 ≡ get_or cs (start + t) 1 = get_d_any cs (start + t) 0 1 (let q = given.room in omega arith) in
      record {
        few = omega arith;
        long = both_long 0 after t (half + t) x r lθ lφ ne ∙ j.long;
        done = λ s k. go s k (lt_or_le s t) o (both_first 0 after t (half + t) x r lθ lφ ne ∙ ap₂ ◌⊕◌ old.0 old.1)
            (both_second 0 after t (half + t) x r lθ lφ ne ∙ e ∙ ap₂ times h old.1);
        left = λ s a b. let k = j.left s (omega arith) b in (
          o s (λ q. absurd (omega arith)) (λ q. absurd (omega arith)) ∙ k.0,
          o (half + s) (λ q. absurd (omega arith)) (λ q. absurd (omega arith)) ∙ k.1,
        );
      }
    where
      go : (s : ℕ) → s < t + 1 → (s < t) ⊎ (t ≤ s) → ((k : ℕ) → (k ≡ t → ⊥) → (k ≡ half + t → ⊥) → get_or (next r) k 0 ≡ get_or after k 0)
          → get_or (next r) t 0 ≡ get_or word t 0 ⊕ get_or word (half + t) 0
          → get_or (next r) (half + t) 0 ≡ times (get_or cs (start + t) 1) (get_or word (half + t) 0) → Done times half start cs word (next r) s
      go s k (inl a) o p q = let d = j.done s a in (
        o s (λ z. absurd (omega arith)) (λ z. absurd (omega arith)) ∙ d.0,
        o (half + s) (λ z. absurd (omega arith)) (λ z. absurd (omega arith)) ∙ d.1,
      )
      go s k (inr a) o p q = subst (Done times half start cs word (next r)) (omega arith) (p, q)

-- halves joined by the table of products are joined by the kernels of document 01
pub joined_products : {half start : ℕ} {cs word after : List ℕ} {table : List (List ℕ)} → table ≡ product_table
    → JoinedWith (entry_of table) half start cs word after → Joined half start cs word after
joined_products {half} {start} {cs} {word} e j = record {
  sums = j.sums;
  products = λ t l.
      let h = get_or cs (start + t) 1 in
      let r = get_or word (half + t) 0 in
      j.products t l ∙ ap (λ (table : List (List ℕ)). entry_of table h r) e ∙ entry_product h r;
}
