-- The laws of loops that map or fill the entries of a vector.
use mathlib.Core.Path.{◌≡◌, refl, ap, ◌∙◌, subst}
use mathlib.Core.List.{List}
use Prim.Native.Nat.{ℕ, ◌+◌, ◌≤◌, ◌<◌}
use native.Mathlib.Decide.{dec_lt}
use native.Mathlib.Omega.{arith}
use lib.ListN.{length, get_or, set, length-set}
use lib.Seq.{get_or-set_same, get_or-set_other}
use Rattle.reorder.specs.Order.{Mapped}

-- a loop that maps the entries of a list in rising order
module _ {f : ℕ → ℕ → ℕ} {lo : ℕ} {before : List ℕ} where
  -- where it begins
  pub map_none : {n : ℕ} → n ≡ lo → length before ≡ 64 → Mapped f lo n before before
  map_none z e = record { long = e; done = λ b l m. absurd (omega arith); earlier = λ b l. refl; later = λ b l. refl }

  -- one entry more
  pub map_more : {n m x : ℕ} {after : List ℕ} → Mapped f lo n before after → lo ≤ n → n < 64 → m ≡ n + 1 → x ≡ f n (get_or before n 0)
      → Mapped f lo m before (set after n x)
  map_more {n} {m} {x} {after} h l s k e = record {
    long = length-set after n x ∙ h.long;
    done = λ b p q. go b p q (dec_lt b n);
    earlier = λ b p. get_or-set_other after n b x 0 (λ q. absurd (omega arith)) ∙ h.earlier b p;
    later = λ b p. get_or-set_other after n b x 0 (λ q. absurd (omega arith)) ∙ h.later b (omega arith);
  }
    where
      go : (b : ℕ) → lo ≤ b → b < m → Dec (b < n) → get_or (set after n x) b 0 ≡ f b (get_or before b 0)
      go b p q (yes t) = get_or-set_other after n b x 0 (λ z. absurd (omega arith)) ∙ h.done b p t
      go b p q (no t) =
          let z : n ≡ b = omega arith in
          let w : n < length after = (let k = h.long in omega arith) in
          subst (λ (j : ℕ). get_or (set after n x) j 0 ≡ f j (get_or before j 0)) z (get_or-set_same after n x 0 w ∙ e)

-- where it ends
pub map_all : {f : ℕ → ℕ → ℕ} {lo n m : ℕ} {before after : List ℕ} → Mapped f lo n before after → n ≡ m → Mapped f lo m before after
map_all {f} {lo} {n} {m} {before} {after} h e = subst (λ (k : ℕ). Mapped f lo k before after) e h

-- by another function that does the same there
pub map_ext : {f g : ℕ → ℕ → ℕ} {lo n : ℕ} {before after : List ℕ} → Mapped f lo n before after → ((b z : ℕ) → lo ≤ b → b < n → f b z ≡ g b z)
    → Mapped g lo n before after
map_ext {f} {g} {lo} {n} {before} {after} h e = record {
  long = h.long;
  done = λ b p q. h.done b p q ∙ e b (get_or before b 0) p q;
  earlier = h.earlier;
  later = h.later;
}

-- one part mapped after the other
pub map_join : {f : ℕ → ℕ → ℕ} {lo mid n : ℕ} {before between after : List ℕ} → lo ≤ mid → mid ≤ n → Mapped f lo mid before between → Mapped f mid n between after
    → Mapped f lo n before after
map_join {f} {lo} {mid} {n} {before} {between} {after} l m h k = record {
  long = k.long;
  done = λ b p q. go b p q (dec_lt b mid);
  earlier = λ b p. k.earlier b (omega arith) ∙ h.earlier b p;
  later = λ b p. k.later b p ∙ h.later b (omega arith);
}
  where
    go : (b : ℕ) → lo ≤ b → b < n → Dec (b < mid) → get_or after b 0 ≡ f b (get_or before b 0)
    go b p q (yes t) = k.earlier b t ∙ h.done b p t
    go b p q (no t) = k.done b (omega arith) q ∙ ap (f b) (h.later b (omega arith))
