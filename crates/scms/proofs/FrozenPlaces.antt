-- Frozen places and message places by halves; and what it says of the halves that all frozen places come first.
use mathlib.Core.Path.{◌≡◌, sym, ap, ◌∙◌}
use mathlib.Core.Logic.{◌⊎◌, inl, inr}
use mathlib.Core.List.{List, []}
use Prim.Native.Nat.{ℕ, zero, suc, ◌+◌, ◌-◌, ◌^◌, ◌≤◌, ◌<◌}
use native.Mathlib.Omega.{arith}
use lib.ListN.{get_or, take, drop}
use lib.Pow.{pow_pos}
use lib.Seq.{get_or-take, get_or-drop}
use Rattle.polar_code.specs.Code.{code_of, kind_of, message_count}
use Rattle.polar_code.specs.declared.kinds.Kind.{Kind}
use Rattle.polar_code.specs.declared.kinds.Kind.TheVariants.{Message as message, Frozen as frozen}
use Rattle.polar.specs.Tree.{Tree, All, All2, tree_of}
use Rattle.polar.proofs.Numbers.{two_pow, lt_or_le}
use Rattle.polar.proofs.TreeLaws.{all_tree_of}
use Rattle.scms.specs.Totals.{FrozenFirst}
use Rattle.scms.proofs.DecisionLaws.{KindCases, kind_cases}

-- a frozen place
abbrev pub IsFrozen : ℕ → Type 0
IsFrozen byte = (s : ℕ) × (kind_of byte ≡ frozen s)

-- a message place
abbrev pub IsMessage : ℕ → Type 0
IsMessage byte = kind_of byte ≡ message

-- no place is both
pub not_both : (kind : Kind) (s : ℕ) → kind ≡ message → kind ≡ frozen s → ⊥
unfolding message_count
not_both kind s a b = let e : ◌≡◌ {A = ℕ} 1 0 = sym (ap message_count a) ∙ ap message_count b in absurd (omega arith)

-- a frozen place has the symbol that it always holds
abbrev pub Holds : ℕ → ℕ → Type 0
Holds byte s = (f : ℕ) → kind_of byte ≡ frozen f → s ≡ f

-- all frozen places of a map come first, whatever the code's coefficients are
abbrev pub FrozenFirstIn : (m : ℕ) → List ℕ → Type 0
FrozenFirstIn m map = FrozenFirst (code_of m map [])

-- all frozen places first, by halves: all of the first half are frozen, or all of the second are message places
unfoldable pub FirstFrozen : (m : ℕ) → Tree ℕ m → Type 0
FirstFrozen zero map = Unit {0}
FirstFrozen (suc m) map = (All m IsFrozen map.0 × FirstFrozen m map.1) ⊎ (FirstFrozen m map.0 × All m IsMessage map.1)

-- a half that is all frozen has one word
pub frozen_one : (m : ℕ) (map s u : Tree ℕ m) → All m IsFrozen map → All2 m Holds map s → All2 m Holds map u → u ≡ s
unfolding All All2
frozen_one zero map s u h hs hu = hu h.0 h.1 ∙ sym (hs h.0 h.1)
frozen_one (suc m) map s u h hs hu =
    λ i. (frozen_one m map.0 s.0 u.0 h.0 hs.0 hu.0 i, frozen_one m map.1 s.1 u.1 h.1 hs.1 hu.1 i)

-- one that is all message places has every word
pub message_all : (m : ℕ) (map u : Tree ℕ m) → All m IsMessage map → All2 m Holds map u
unfolding All All2
message_all zero map u h = λ f e. absurd (not_both (kind_of map) f h e)
message_all (suc m) map u h = (message_all m map.0 u.0 h.0, message_all m map.1 u.1 h.1)

-- and is a case of frozen places first
pub message_first : (m : ℕ) (map : Tree ℕ m) → All m IsMessage map → FirstFrozen m map
unfolding All FirstFrozen
message_first zero map h = tt
message_first (suc m) map h = inr (message_first m map.0 h.0, h.1)

-- frozen places first, by halves: what the last place of the first half is decides which half is of one kind
pub first_value : (m : ℕ) (map : List ℕ) → FrozenFirstIn m map → FirstFrozen m (tree_of 0 m map)
unfolding FirstFrozen tree_of
first_value zero map h = tt
first_value (suc m) map h = go (kind_cases (kind_of (get_or map (2 ^ m - 1) 0))) (first_value m)
  where
    q : 2 ^ suc m ≡ 2 ^ m + 2 ^ m
    q = two_pow m

    pos : 0 < 2 ^ m
    pos = pow_pos m

    -- the halves
    front : FrozenFirstIn m (take (2 ^ m) map)
    front i j s l lj a b = h i j s l (omega (arith, q))
        (ap kind_of (sym (get_or-take (2 ^ m) map i 0 (omega arith))) ∙ a) (ap kind_of (sym (get_or-take (2 ^ m) map j 0 lj)) ∙ b)

    back : FrozenFirstIn m (drop (2 ^ m) map)
    back i j s l lj a b = h (2 ^ m + i) (2 ^ m + j) s (omega arith) (omega (arith, q))
        (ap kind_of (sym (get_or-drop (2 ^ m) map i 0)) ∙ a) (ap kind_of (sym (get_or-drop (2 ^ m) map j 0)) ∙ b)

    -- a message place at the end of the first half: none of the second is frozen
    second_message_at : kind_of (get_or map (2 ^ m - 1) 0) ≡ message → (j : ℕ) → j < 2 ^ m → IsMessage (get_or (drop (2 ^ m) map) j 0)
    second_message_at e j lj = pick (kind_cases (kind_of (get_or (drop (2 ^ m) map) j 0)))
      where
        pick : KindCases (kind_of (get_or (drop (2 ^ m) map) j 0)) → IsMessage (get_or (drop (2 ^ m) map) j 0)
        pick (inl a) = a
        pick (inr a) = absurd (h (2 ^ m - 1) (2 ^ m + j) a.0 (omega (arith, pos)) (omega (arith, q)) e (ap kind_of (sym (get_or-drop (2 ^ m) map j 0)) ∙ a.1))

    -- a frozen place there: all of the first half are frozen
    first_frozen_at : (s : ℕ) → kind_of (get_or map (2 ^ m - 1) 0) ≡ frozen s → (j : ℕ) → j < 2 ^ m → IsFrozen (get_or (take (2 ^ m) map) j 0)
    first_frozen_at s e j lj = pick (kind_cases (kind_of (get_or (take (2 ^ m) map) j 0))) (lt_or_le j (2 ^ m - 1))
      where
        same : kind_of (get_or (take (2 ^ m) map) j 0) ≡ kind_of (get_or map j 0)
        same = ap kind_of (get_or-take (2 ^ m) map j 0 lj)

        pick : KindCases (kind_of (get_or (take (2 ^ m) map) j 0)) → (j < 2 ^ m - 1) ⊎ (2 ^ m - 1 ≤ j)
            → IsFrozen (get_or (take (2 ^ m) map) j 0)
        pick (inr a) b = a
        pick (inl a) (inl b) = absurd (h j (2 ^ m - 1) s b (omega (arith, q, pos)) (sym same ∙ a) e)
        pick (inl a) (inr b) =
            let z : j ≡ 2 ^ m - 1 = omega (arith, pos) in
            absurd (not_both (kind_of (get_or map j 0)) s (sym same ∙ a) (ap (λ (x : ℕ). kind_of (get_or map x 0)) z ∙ e))

    go : KindCases (kind_of (get_or map (2 ^ m - 1) 0))
        → ((map : List ℕ) → FrozenFirstIn m map → FirstFrozen m (tree_of 0 m map))
        → (All m IsFrozen (tree_of 0 m (take (2 ^ m) map)) × FirstFrozen m (tree_of 0 m (drop (2 ^ m) map)))
        ⊎ (FirstFrozen m (tree_of 0 m (take (2 ^ m) map)) × All m IsMessage (tree_of 0 m (drop (2 ^ m) map)))
    go (inl e) ih = inr (ih (take (2 ^ m) map) front, all_tree_of 0 IsMessage m (drop (2 ^ m) map) (second_message_at e))
    go (inr e) ih = inl (all_tree_of 0 IsFrozen m (take (2 ^ m) map) (first_frozen_at e.0 e.1), ih (drop (2 ^ m) map) back)
