-- Lists one after the other: made of the numbers of a list, cut from a whole, and written into a buffer.
use mathlib.Core.Path.{◌≡◌, refl, sym, ap, ap₂, ◌∙◌}
use mathlib.Core.List.{List, [], ◌∷◌, ◌++◌, append-nil, append_assoc}
use Prim.Native.Nat.{ℕ, zero, suc, ◌+◌, ◌*◌, ◌-◌, ◌≤◌, ◌<◌}
use native.Mathlib.Nat.{mul-zero, mul-suc, mul-le-mul_left, le_refl, le_of_eq}
use native.Mathlib.Numerals.{add-one}
use native.Mathlib.Omega.{arith}
use borrow.Rule.Slice.PartMut.{mid_of, put_mid, same_len_mid}
use lib.ListN.{length, get_or, take, drop, length-append, length-drop}
use lib.Seq.{length-take-le, take_all, take_at, take-add, take-length}
use Rattle.vector.specs.Vector.{joined}

-- ---- made of the numbers of a list

module _ {A : Type 0} where
  -- the first of the lists stands in front
  joined_first : (n : ℕ) (f : ℕ → List A) → joined (suc n) f ≡ f 0 ++ joined n (λ i. f (suc i))
  unfolding joined
  joined_first zero f = sym (append-nil (f 0))
  joined_first (suc n) f =
      ap (λ (xs : List A). xs ++ f (suc n)) (joined_first n f)
      ∙ append_assoc (f 0) (joined n (λ i. f (suc i))) (f (suc n))

  -- what is made number by number, from the first on, is what is made of each by its index
  pub joined_each : (made : ℕ → List A) (all : List ℕ → List A) → all [] ≡ []
      → ((v : ℕ) (vs : List ℕ) → all (v ∷ vs) ≡ made v ++ all vs)
      → (vs : List ℕ) → all vs ≡ joined (length vs) (λ i. made (get_or vs i 0))
  unfolding joined
  joined_each made all none more [] = none
  joined_each made all none more (v ∷ vs) =
      more v vs ∙ ap (λ (xs : List A). made v ++ xs) (joined_each made all none more vs)
      ∙ sym (joined_first (length vs) (λ i. made (get_or (v ∷ vs) i 0)))

  -- ---- cut from a whole, in parts of w entries
  module _ (w : ℕ) (f : ℕ → List A) (xs : List A) where
    -- the first n parts
    parts_front : (n : ℕ) → ((i : ℕ) → i < n → take w (drop (w * i) xs) ≡ f i) → joined n f ≡ take (w * n) xs
    unfolding joined
    parts_front zero h = ap (λ (k : ℕ). take k xs) (sym (mul-zero w))
    parts_front (suc n) h =
        ap₂ (λ (ys zs : List A). ys ++ zs) (parts_front n (λ i l. h i (omega arith))) (sym (h n (le_refl (suc n))))
        ∙ sym (take-add (w * n) w xs) ∙ ap (λ (k : ℕ). take k xs) (sym (mul-suc w n))

    -- a list of n parts is its parts
    pub joined_parts : (n : ℕ) → length xs ≡ w * n → ((i : ℕ) → i < n → take w (drop (w * i) xs) ≡ f i)
        → xs ≡ joined n f
    joined_parts n e h = sym (parts_front n h ∙ ap (λ (k : ℕ). take k xs) (sym e) ∙ take-length xs)

-- ---- written into a buffer

-- the part of a buffer that k bytes are written into
pub part_long : (at k : ℕ) (out : List ℕ) → at + k ≤ length out → length (mid_of at (at + k - at) out) ≡ k
part_long at k out l =
    let d = length-drop at out in
    let w : at + k - at ≡ k = omega arith in
    length-take-le (at + k - at) (drop at out) (omega arith) ∙ w

-- the part has come back with k bytes: what stood before it, and these
put_after : (at k : ℕ) (out front part : List ℕ) → at + k ≤ length out → take at out ≡ front → length part ≡ k
    → take (at + k) (put_mid at (at + k - at) out part) ≡ front ++ part
put_after at k out front part l e long =
    let rest = drop (at + k - at) (drop at out) in
    let front_long = length-take-le at out (omega arith) in
    let both = length-append (take at out) part in
    ap (take (at + k)) (sym (append_assoc (take at out) part rest))
    ∙ take_at (take at out ++ part) rest (at + k) (omega arith)
    ∙ ap (λ (xs : List ℕ). xs ++ part) e

-- a loop that puts n lists of w bytes each into a buffer, one after the other: the first i of them stand at its start
pub record PutTo (w n : ℕ) (f : ℕ → List ℕ) (out after : List ℕ) (i : ℕ) : Type 0 where
  pub few : i ≤ n
  pub room : w * n ≤ length out
  pub long : length after ≡ length out
  pub front : take (w * i) after ≡ joined i f

module _ {w n : ℕ} {f : ℕ → List ℕ} {out : List ℕ} where
  -- where it begins
  pub put_none : w * n ≤ length out → PutTo w n f out out 0
  unfolding joined
  put_none l = record {
    few = omega arith;
    room = l;
    long = refl;
    front = ap (λ (k : ℕ). take k out) (mul-zero w);
  }

  module _ {after : List ℕ} {i : ℕ} (s : PutTo w n f out after i) where
    -- there is room for one more
    pub put_room : i < n → w * i + w ≤ length after
    put_room l =
        let more = mul-le-mul_left w l in
        let next = mul-suc w i in
        let a = s.room in
        let b = s.long in
        omega arith

    -- one more
    pub put_more : i < n → (part : List ℕ) → length part ≡ length (mid_of (w * i) (w * i + w - w * i) after) → part ≡ f i
        → PutTo w n f out (put_mid (w * i) (w * i + w - w * i) after part) (i + 1)
    unfolding joined
    put_more l part kept is =
        let to : w * (i + 1) ≡ w * i + w = ap (λ (k : ℕ). w * k) (add-one i) ∙ mul-suc w i in
        let size = kept ∙ part_long (w * i) w after (put_room l) in
        record {
          few = omega arith;
          room = s.room;
          long = same_len_mid (w * i) (w * i + w - w * i) after part kept ∙ s.long;
          front = ap (λ (k : ℕ). take k (put_mid (w * i) (w * i + w - w * i) after part)) to
              ∙ put_after (w * i) w after (joined i f) part (put_room l) s.front size
              ∙ ap (λ (xs : List ℕ). joined i f ++ xs) is
              ∙ ap (λ (k : ℕ). joined k f) (sym (add-one i));
        }

    -- where it ends all of them are there
    pub put_all : n ≤ i → take (w * n) after ≡ joined n f
    put_all l =
        let last : n ≡ i = (let most = s.few in omega arith) in
        ap (λ (k : ℕ). take (w * k) after) last ∙ s.front ∙ ap (λ (k : ℕ). joined k f) (sym last)

-- what is put up to the end of a buffer ends it
pub last_put : (at k : ℕ) (out front part : List ℕ) → length out ≡ at + k → take at out ≡ front → length part ≡ k
    → put_mid at (at + k - at) out part ≡ front ++ part
last_put at k out front part long e size =
    let whole = put_mid at (at + k - at) out part in
    let there = part_long at k out (le_of_eq (sym long)) in
    let same = same_len_mid at (at + k - at) out part (size ∙ sym there) in
    sym (take_all (at + k) whole (le_of_eq (same ∙ long)))
    ∙ put_after at k out front part (le_of_eq (sym long)) e size
