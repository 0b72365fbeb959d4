-- Trees and lists say the same.
use mathlib.Core.Path.{◌≡◌, refl, sym, ap, ap₂, ◌∙◌, subst}
use mathlib.Core.Logic.{◌⊎◌, inl, inr}
use mathlib.Core.List.{List, [], ◌∷◌, ◌++◌}
use Prim.Native.Nat.{ℕ, zero, suc, ◌+◌, ◌^◌, ◌-◌, ◌≤◌, ◌<◌}
use native.Mathlib.Omega.{arith}
use lib.Arith.{lt-one}
use lib.ListN.{length, get_or, take, drop, length-append, length-drop, take-append-drop}
use lib.Seq.{take_at, drop_at, length-take-le, get_or-take, get_or-drop}
use Rattle.polar.specs.Tree.{Tree, map1, map2, map3, map4, All, All2, leaves, tree_of, Place, here, first, second, at, number}
use Rattle.polar.proofs.Numbers.{two_pow, lt_or_le}

-- a place's number is below 2^m
pub number_lt : {m : ℕ} (p : Place m) → number p < 2 ^ m
unfolding number
number_lt here = omega arith
number_lt (first {m} p) = let l = number_lt p in let q = two_pow m in omega arith
number_lt (second {m} p) = let l = number_lt p in let q = two_pow m in omega arith

-- the place with a number
pub place_of : (m i : ℕ) → i < 2 ^ m → (p : Place m) × (number p ≡ i)
unfolding number
place_of zero i l = (here, sym (lt-one l))
place_of (suc m) i l = go (lt_or_le i (2 ^ m)) (place_of m)
  where
    go : (i < 2 ^ m) ⊎ (2 ^ m ≤ i) → ((j : ℕ) → j < 2 ^ m → (p : Place m) × (number p ≡ j)) → (p : Place (suc m)) × (number p ≡ i)
    go (inl h) ih = let r = ih i h in (first r.0, r.1)
    go (inr h) ih =
        let q = two_pow m in
        let r = ih (i - 2 ^ m) (omega arith) in
        (second r.0, ap (λ (x : ℕ). 2 ^ m + x) r.1 ∙ omega arith)

-- what `map2` gives at a place
pub map2_at : {A B C : Type 0} {m : ℕ} (f : A → B → C) (p : Place m) (a : Tree A m) (b : Tree B m) → at (map2 m f a b) p ≡ f (at a p) (at b p)
unfolding at map2
map2_at f here a b = refl
map2_at f (first p) a b = map2_at f p a.0 b.0
map2_at f (second p) a b = map2_at f p a.1 b.1

-- what `map1` gives at a place
pub map1_at : {A B : Type 0} {m : ℕ} (f : A → B) (p : Place m) (a : Tree A m) → at (map1 m f a) p ≡ f (at a p)
unfolding at map1
map1_at f here a = refl
map1_at f (first p) a = map1_at f p a.0
map1_at f (second p) a = map1_at f p a.1

-- `map3`
pub map3_at : {A B C D : Type 0} {m : ℕ} (f : A → B → C → D) (p : Place m) (a : Tree A m) (b : Tree B m) (c : Tree C m)
    → at (map3 m f a b c) p ≡ f (at a p) (at b p) (at c p)
unfolding at map3
map3_at f here a b c = refl
map3_at f (first p) a b c = map3_at f p a.0 b.0 c.0
map3_at f (second p) a b c = map3_at f p a.1 b.1 c.1

-- and `map4`
pub map4_at : {A B C D E : Type 0} {m : ℕ} (f : A → B → C → D → E) (p : Place m) (a : Tree A m) (b : Tree B m) (c : Tree C m) (d : Tree D m)
    → at (map4 m f a b c d) p ≡ f (at a p) (at b p) (at c p) (at d p)
unfolding at map4
map4_at f here a b c d = refl
map4_at f (first p) a b c d = map4_at f p a.0 b.0 c.0 d.0
map4_at f (second p) a b c d = map4_at f p a.1 b.1 c.1 d.1

module _ {A B : Type 0} (P : A → B → Type 0) where
  -- a relation at each place is one of the trees
  pub all2_by : (m : ℕ) (a : Tree A m) (b : Tree B m) → ((p : Place m) → P (at a p) (at b p)) → All2 m P a b
  unfolding All2 at
  all2_by zero a b h = h here
  all2_by (suc m) a b h = (all2_by m a.0 b.0 (λ p. h (first p)), all2_by m a.1 b.1 (λ p. h (second p)))

  -- and the other way round
  pub all2_at : {m : ℕ} (p : Place m) (a : Tree A m) (b : Tree B m) → All2 m P a b → P (at a p) (at b p)
  unfolding All2 at
  all2_at here a b h = h
  all2_at (first p) a b h = all2_at p a.0 b.0 h.0
  all2_at (second p) a b h = all2_at p a.1 b.1 h.1

module _ {A : Type 0} (P : A → Type 0) where
  -- a property at each place is one of the tree
  pub all_by : (m : ℕ) (t : Tree A m) → ((p : Place m) → P (at t p)) → All m P t
  unfolding All at
  all_by zero t h = h here
  all_by (suc m) t h = (all_by m t.0 (λ p. h (first p)), all_by m t.1 (λ p. h (second p)))

  -- and the other way round
  pub all_at : {m : ℕ} (p : Place m) (t : Tree A m) → All m P t → P (at t p)
  unfolding All at
  all_at here t h = h
  all_at (first p) t h = all_at p t.0 h.0
  all_at (second p) t h = all_at p t.1 h.1

-- a tree of depth m has 2^m things
pub length_leaves : (A : Type 0) (m : ℕ) (t : Tree A m) → length (leaves m t) ≡ 2 ^ m
unfolding leaves
length_leaves A zero t = refl
length_leaves A (suc m) t =
    length-append (leaves m t.0) (leaves m t.1) ∙ ap₂ (λ (x y : ℕ). x + y) (length_leaves A m t.0) (length_leaves A m t.1) ∙ sym (two_pow m)

module _ {A : Type 0} where
  -- trees that agree at each place are equal
  pub ext_at : (m : ℕ) (a b : Tree A m) → ((p : Place m) → at a p ≡ at b p) → a ≡ b
  unfolding at
  ext_at zero a b h = h here
  ext_at (suc m) a b h = λ i. (ext_at m a.0 b.0 (λ p. h (first p)) i, ext_at m a.1 b.1 (λ p. h (second p)) i)

  module _ (d : A) where
    -- a tree's list gives the tree back
    pub tree_of_leaves : (m : ℕ) (t : Tree A m) → tree_of d m (leaves m t) ≡ t
    unfolding leaves tree_of
    tree_of_leaves zero t = refl
    tree_of_leaves (suc m) t =
        let e = length_leaves A m t.0 in
        λ i. (
          (ap (tree_of d m) (take_at (leaves m t.0) (leaves m t.1) (2 ^ m) e) ∙ tree_of_leaves m t.0) i,
          (ap (tree_of d m) (drop_at (leaves m t.0) (leaves m t.1) (2 ^ m) e) ∙ tree_of_leaves m t.1) i,
        )

    one_list : (xs : List A) → length xs ≡ 1 → get_or xs 0 d ∷ [] ≡ xs
    one_list [] e = absurd (omega arith)
    one_list (x ∷ []) e = refl
    one_list (x ∷ y ∷ xs) e = absurd (omega arith)

    -- a list's tree gives the list back
    pub leaves_tree_of : (m : ℕ) (xs : List A) → length xs ≡ 2 ^ m → leaves m (tree_of d m xs) ≡ xs
    unfolding leaves tree_of
    leaves_tree_of zero xs e = one_list xs e
    leaves_tree_of (suc m) xs e =
        let q = two_pow m in
        ap₂ (λ (x y : List A). x ++ y)
        (leaves_tree_of m (take (2 ^ m) xs) (length-take-le (2 ^ m) xs (omega arith)))
        (leaves_tree_of m (drop (2 ^ m) xs) (length-drop (2 ^ m) xs ∙ omega arith))
        ∙ take-append-drop (2 ^ m) xs

    -- what stands at a place stands in the list at its number
    pub tree_of_at : {m : ℕ} (xs : List A) (p : Place m) → at (tree_of d m xs) p ≡ get_or xs (number p) d
    unfolding tree_of at number
    tree_of_at xs here = refl
    tree_of_at xs (first {m} p) = tree_of_at (take (2 ^ m) xs) p ∙ get_or-take (2 ^ m) xs (number p) d (number_lt p)
    tree_of_at xs (second {m} p) = tree_of_at (drop (2 ^ m) xs) p ∙ get_or-drop (2 ^ m) xs (number p) d

    -- and the other way round
    pub leaves_at : {m : ℕ} (p : Place m) (t : Tree A m) → get_or (leaves m t) (number p) d ≡ at t p
    leaves_at {m} p t = sym (tree_of_at (leaves m t) p) ∙ ap (λ (x : Tree A m). at x p) (tree_of_leaves m t)

    -- by the number
    pub leaves_number : (m i : ℕ) (l : i < 2 ^ m) (t : Tree A m) → get_or (leaves m t) i d ≡ at t (place_of m i l).0
    leaves_number m i l t = let q = place_of m i l in ap (λ (x : ℕ). get_or (leaves m t) x d) (sym q.1) ∙ leaves_at q.0 t

    -- a list is a tree's if each place's thing stands at its number
    pub leaves_by : (m : ℕ) (xs : List A) (t : Tree A m) → length xs ≡ 2 ^ m → ((p : Place m) → get_or xs (number p) d ≡ at t p) → xs ≡ leaves m t
    leaves_by m xs t e h = sym (leaves_tree_of m xs e) ∙ ap (leaves m) (ext_at m (tree_of d m xs) t (λ p. tree_of_at xs p ∙ h p))

    -- a property of each thing of a list is one of each place of its tree
    pub all_tree_of : (P : A → Type 0) (m : ℕ) (xs : List A) → ((i : ℕ) → i < 2 ^ m → P (get_or xs i d)) → All m P (tree_of d m xs)
    all_tree_of P m xs h = all_by P m (tree_of d m xs) (λ p. subst P (sym (tree_of_at xs p)) (h (number p) (number_lt p)))

    -- and the other way round
    pub all_leaves : (P : A → Type 0) (m : ℕ) (t : Tree A m) → All m P t → (i : ℕ) → i < 2 ^ m → P (get_or (leaves m t) i d)
    all_leaves P m t h i l = subst P (sym (leaves_number m i l t)) (all_at P (place_of m i l).0 t h)
