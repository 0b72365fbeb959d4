-- 2^m things as two halves of 2^(m−1) things each. A proof device: the transform and the decoder go by halves.
use Rattle.std.specs.Prelude.{ℕ, zero, suc, ◌+◌, ◌^◌, List, [], ◌∷◌, ◌++◌, get_or, take, drop}

-- one thing, or two trees of half the size
abbrev pub Tree : Type 0 → ℕ → Type 0
Tree A zero = A
Tree A (suc m) = Tree A m × Tree A m

module _ {A B : Type 0} where
  -- a function of what stands at each place
  unfoldable pub map1 : (m : ℕ) → (A → B) → Tree A m → Tree B m
  map1 zero f a = f a
  map1 (suc m) f a = (map1 m f a.0, map1 m f a.1)

module _ {A B C : Type 0} where
  -- a function of what stands at the same place of two trees
  unfoldable pub map2 : (m : ℕ) → (A → B → C) → Tree A m → Tree B m → Tree C m
  map2 zero f a b = f a b
  map2 (suc m) f a b = (map2 m f a.0 b.0, map2 m f a.1 b.1)

module _ {A B C D : Type 0} where
  -- of three
  unfoldable pub map3 : (m : ℕ) → (A → B → C → D) → Tree A m → Tree B m → Tree C m → Tree D m
  map3 zero f a b c = f a b c
  map3 (suc m) f a b c = (map3 m f a.0 b.0 c.0, map3 m f a.1 b.1 c.1)

module _ {A B C D E : Type 0} where
  -- of four
  unfoldable pub map4 : (m : ℕ) → (A → B → C → D → E) → Tree A m → Tree B m → Tree C m → Tree D m → Tree E m
  map4 zero f a b c d = f a b c d
  map4 (suc m) f a b c d = (map4 m f a.0 b.0 c.0 d.0, map4 m f a.1 b.1 c.1 d.1)

-- the sum of the numbers at all places
unfoldable pub tree_sum : (m : ℕ) → Tree ℕ m → ℕ
tree_sum zero a = a
tree_sum (suc m) a = tree_sum m a.0 + tree_sum m a.1

module _ {A : Type 0} where
  -- a property of every place
  unfoldable pub All : (m : ℕ) → (A → Type 0) → Tree A m → Type 0
  All zero P a = P a
  All (suc m) P a = All m P a.0 × All m P a.1

  -- the tree's things in rising order of their places
  unfoldable pub leaves : (m : ℕ) → Tree A m → List A
  leaves zero a = a ∷ []
  leaves (suc m) a = leaves m a.0 ++ leaves m a.1

module _ {A B : Type 0} where
  -- a relation between what stands at the same place of two trees
  unfoldable pub All2 : (m : ℕ) → (A → B → Type 0) → Tree A m → Tree B m → Type 0
  All2 zero P a b = P a b
  All2 (suc m) P a b = All2 m P a.0 b.0 × All2 m P a.1 b.1

module _ {A : Type 0} (d : A) where
  -- the tree of the first 2^m things of a list, d for each that is missing
  unfoldable pub tree_of : (m : ℕ) → List A → Tree A m
  tree_of zero xs = get_or xs 0 d
  tree_of (suc m) xs = (tree_of m (take (2 ^ m) xs), tree_of m (drop (2 ^ m) xs))

-- a place among 2^m: in which half it lies, and so on down
pub data Place : ℕ → Type 0 where
  here : Place zero
  first : {m : ℕ} → Place m → Place (suc m)
  second : {m : ℕ} → Place m → Place (suc m)

module _ {A : Type 0} where
  -- what stands at a place
  unfoldable pub at : {m : ℕ} → Tree A m → Place m → A
  at a here = a
  at a (first i) = at a.0 i
  at a (second i) = at a.1 i

-- a place's number, counted from 0
unfoldable pub number : {m : ℕ} → Place m → ℕ
number here = 0
number (first i) = number i
number (second {m} i) = 2 ^ m + number i
