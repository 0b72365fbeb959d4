-- The laws of tabulated lists, of sums and of the least by index.
use mathlib.Core.Path.{◌≡◌, refl, sym, ap, ap₂, ◌∙◌, subst}
use mathlib.Core.Logic.{◌⊎◌, inl, inr}
use mathlib.Core.List.{List, [], ◌∷◌, ◌++◌, map}
use Prim.Native.Nat.{ℕ, zero, suc, ◌+◌, ◌-◌, ◌*◌, ◌/◌, ◌%◌, ◌≤◌, ◌<◌, min, suc-le-suc}
use native.Mathlib.Nat.{add-zero, zero-add, add-suc, suc-add, add_comm, add_assoc, mul-zero, mul-add, mul-le-mul_left, le_of_suc-le-suc, not-suc-le-zero, eq-or-lt_of_le, min-le_left, min-le_right, min-eq_left, min-eq_right, le_trans, le_refl, le_of_lt, le_of_eq, mul-suc, add-sub_of_le}
use native.Mathlib.Decide.{dec_lt}
use native.Mathlib.Numerals.{add-one}
use native.Mathlib.Omega.{arith}
use lib.ListN.{length, get_or, take, drop, set, length-append, length-drop, length-set}
use lib.Seq.{take_all, drop_at, take-append-le, drop-append-le, ext_get_or, get_or-set_same, get_or-set_other}
use Rattle.std.specs.List.{fold}
use Rattle.std.proofs.lemmas.List.Sums.{fold_more}
use Rattle.vector.specs.Vector.{tabulate, joined, sum_to, least_to, least, less_least}

module _ {A : Type 0} where
  -- a tabulated list has as many entries as it was given
  pub length_tabulate : (n : ℕ) (f : ℕ → A) → length (tabulate n f) ≡ n
  unfolding tabulate
  length_tabulate zero f = refl
  length_tabulate (suc n) f = ap suc (length_tabulate n (λ i. f (suc i)))

  -- its entry i is f i
  pub get_d_tabulate : (d : A) (n : ℕ) (f : ℕ → A) (i : ℕ) → i < n → get_or (tabulate n f) i d ≡ f i
  unfolding tabulate
  get_d_tabulate d zero f i l = absurd (not-suc-le-zero l)
  get_d_tabulate d (suc n) f zero l = refl
  get_d_tabulate d (suc n) f (suc i) l = get_d_tabulate d n (λ j. f (suc j)) i (le_of_suc-le-suc l)

  -- a list is the tabulated one if its entries are
  pub tabulate_by : (d : A) (n : ℕ) (f : ℕ → A) (xs : List A) → length xs ≡ n → ((i : ℕ) → i < n → get_or xs i d ≡ f i) → xs ≡ tabulate n f
  tabulate_by d n f xs e h =
      ext_get_or d xs (tabulate n f) (e ∙ sym (length_tabulate n f)) (λ i l. let s : i < n = omega arith in h i s ∙ sym (get_d_tabulate d n f i s))

  -- two tabulated lists are equal by their entries
  pub tabulate_ext : (n : ℕ) (f g : ℕ → A) → ((i : ℕ) → i < n → f i ≡ g i) → tabulate n f ≡ tabulate n g
  unfolding tabulate
  tabulate_ext zero f g h = refl
  tabulate_ext (suc n) f g h =
      ap₂ (λ (x : A) (xs : List A). x ∷ xs) (h 0 (omega arith)) (tabulate_ext n (λ i. f (suc i)) (λ i. g (suc i)) (λ i l. h (suc i) (omega arith)))

  -- a tabulated list in two parts
  pub tabulate_parts : (m n : ℕ) (f : ℕ → A) → tabulate (m + n) f ≡ tabulate m f ++ tabulate n (λ i. f (m + i))
  unfolding tabulate
  tabulate_parts zero n f = ap (λ (k : ℕ). tabulate k f) (zero-add n) ∙ tabulate_ext n f (λ i. f (0 + i)) (λ i l. ap f (sym (zero-add i)))
  tabulate_parts (suc m) n f =
      ap (λ (k : ℕ). tabulate k f) (suc-add m n)
      ∙ ap (λ (xs : List A). f 0 ∷ xs) (tabulate_parts m n (λ i. f (suc i)) ∙ ap (λ (xs : List A). tabulate m (λ i. f (suc i)) ++ xs) (tabulate_ext n _ _ (λ i l. ap f (sym (suc-add m i)))))

-- lists of w entries each, one after the other
module _ {A : Type 0} (w : ℕ) (f : ℕ → List A) where
  -- they have w entries for each
  pub length_joined : (n : ℕ) → ((i : ℕ) → i < n → length (f i) ≡ w) → length (joined n f) ≡ w * n
  unfolding joined
  length_joined zero long = sym (mul-zero w)
  length_joined (suc n) long =
      length-append (joined n f) (f n) ∙ ap₂ (λ (a b : ℕ). a + b) (length_joined n (λ i l. long i (omega arith))) (long n (le_refl (suc n))) ∙ sym (mul-suc w n)

  -- the w entries from w × i on are list i
  pub joined_part : (n : ℕ) → ((i : ℕ) → i < n → length (f i) ≡ w) → (i : ℕ) → i < n → take w (drop (w * i) (joined n f)) ≡ f i
  unfolding joined
  joined_part zero long i l = absurd (not-suc-le-zero l)
  joined_part (suc n) long i l = go (joined_part n (λ j k. long j (omega arith)) i) (eq-or-lt_of_le (le_of_suc-le-suc l))
    where
      total : length (joined n f) ≡ w * n
      total = length_joined n (λ j k. long j (omega arith))

      go : (i < n → take w (drop (w * i) (joined n f)) ≡ f i) → (i ≡ n) ⊎ (i < n) → take w (drop (w * i) (joined n f ++ f n)) ≡ f i
      go ih (inl e) =
          ap (λ (j : ℕ). take w (drop (w * j) (joined n f ++ f n))) e
          ∙ ap (take w) (drop_at (joined n f) (f n) (w * n) total)
          ∙ take_all w (f n) (le_of_eq (long n (le_refl (suc n)))) ∙ ap f (sym e)
      go ih (inr s) =
          let a = total in
          let b = mul-le-mul_left w s in
          let c = mul-suc w i in
          let d = length-drop (w * i) (joined n f) in
          ap (take w) (drop-append-le (w * i) (joined n f) (f n) (omega arith))
          ∙ take-append-le w (drop (w * i) (joined n f)) (f n) (omega arith)
          ∙ ih s

-- joined lists are equal by their parts
pub joined_ext : {A : Type 0} (n : ℕ) (f g : ℕ → List A) → ((i : ℕ) → i < n → f i ≡ g i) → joined n f ≡ joined n g
unfolding joined
joined_ext zero f g h = refl
joined_ext (suc n) f g h = ap₂ (λ (xs ys : List _). xs ++ ys) (joined_ext n f g (λ i l. h i (omega arith))) (h n (le_refl (suc n)))

-- vectors of 64, one after the other, as one tabulated list
pub joined_flat : {A : Type 0} (n : ℕ) (g : ℕ → ℕ → A) → joined n (λ i. tabulate 64 (g i)) ≡ tabulate (64 * n) (λ j. g (j / 64) (j % 64))
unfolding joined tabulate
joined_flat zero g = ap (λ (k : ℕ). tabulate k (λ j. g (j / 64) (j % 64))) (sym (mul-zero 64))
joined_flat (suc n) g =
    ap₂ (λ (xs ys : List _). xs ++ ys) (joined_flat n g) (tabulate_ext 64 (g n) _ (λ i l. ap₂ g (let e : n ≡ (64 * n + i) / 64 = omega arith in e) (let e : i ≡ (64 * n + i) % 64 = omega arith in e)))
    ∙ sym (tabulate_parts (64 * n) 64 (λ j. g (j / 64) (j % 64))) ∙ ap (λ (k : ℕ). tabulate k (λ j. g (j / 64) (j % 64))) (sym (mul-suc 64 n))

-- a function of each entry of a list
pub tabulate_map : {B : Type 0} (d : ℕ) (f : ℕ → B) (xs : List ℕ) → tabulate (length xs) (λ i. f (get_or xs i d)) ≡ map f xs
unfolding tabulate
tabulate_map d f [] = refl
tabulate_map d f (x ∷ xs) = ap (λ (ys : List _). f x ∷ ys) (tabulate_map d f xs)

-- a loop that fills a list of n entries in rising order: those before b are f's, whatever an entry past the list's end is read as
pub record Filled {A : Type 0} (n : ℕ) (f : ℕ → A) (xs : List A) (b : ℕ) : Type 0 where
  pub within : b ≤ n
  pub long : length xs ≡ n
  pub entries : (d : A) (i : ℕ) → i < b → get_or xs i d ≡ f i

module _ {A : Type 0} {n : ℕ} {f : ℕ → A} {xs : List A} where
  -- one entry more
  pub fill_more : {b : ℕ} {x : A} → Filled n f xs b → b < n → x ≡ f b → Filled n f (set xs b x) (b + 1)
  fill_more {b} {x} h l e = record { within = omega arith; long = length-set xs b x ∙ h.long; entries = λ d i s. go d i s (dec_lt i b) }
    where
      go : (d : A) (i : ℕ) → i < b + 1 → Dec (i < b) → get_or (set xs b x) i d ≡ f i
      go d i s (yes t) = get_or-set_other xs b i x d (λ q. absurd (omega arith)) ∙ h.entries d i t
      go d i s (no t) =
          let q : b ≡ i = omega arith in
          let w : b < length xs = (let k = h.long in omega arith) in
          subst (λ (j : ℕ). get_or (set xs b x) j d ≡ f j) q (get_or-set_same xs b x d w ∙ e)

  -- where it ends the list is the tabulated one
  pub fill_all : {b : ℕ} → Filled n f xs b → n ≤ b → xs ≡ tabulate n f
  fill_all {b} h l = tabulate_by (f 0) n f xs h.long (λ i s. h.entries (f 0) i (omega arith))

-- sums are equal by their terms
pub sum_ext : (n : ℕ) (f g : ℕ → ℕ) → ((i : ℕ) → i < n → f i ≡ g i) → sum_to n f ≡ sum_to n g
unfolding sum_to
sum_ext zero f g h = refl
sum_ext (suc n) f g h = ap₂ (λ (a b : ℕ). a + b) (sum_ext n f g (λ i l. h i (omega arith))) (h n (le_refl (suc n)))

-- one term more
pub sum_more : (n : ℕ) (f : ℕ → ℕ) → sum_to (n + 1) f ≡ sum_to n f + f n
unfolding sum_to
sum_more n f = ap (λ (m : ℕ). sum_to m f) (add-one n)

-- the first term, and the others
pub sum_first : (n : ℕ) (f : ℕ → ℕ) → sum_to (suc n) f ≡ f 0 + sum_to n (λ i. f (suc i))
unfolding sum_to
sum_first zero f = add_comm 0 (f 0)
sum_first (suc n) f = ap (λ (a : ℕ). a + f (suc n)) (sum_first n f) ∙ add_assoc (f 0) (sum_to n (λ i. f (suc i))) (f (suc n))

-- the first m terms, and the others
pub sum_split : (m n : ℕ) (f : ℕ → ℕ) → sum_to (m + n) f ≡ sum_to m f + sum_to n (λ i. f (m + i))
unfolding sum_to
sum_split m zero f = ap (λ (k : ℕ). sum_to k f) (add-zero m) ∙ sym (add-zero (sum_to m f))
sum_split m (suc n) f =
    ap (λ (k : ℕ). sum_to k f) (add-suc m n) ∙ ap (λ (a : ℕ). a + f (m + n)) (sum_split m n f)
    ∙ add_assoc (sum_to m f) (sum_to n (λ i. f (m + i))) (f (m + n))

-- so the sum of the first terms is at most that of all
pub sum_part : (m n : ℕ) (f : ℕ → ℕ) → m ≤ n → sum_to m f ≤ sum_to n f
sum_part m n f l =
    let e = ap (λ (k : ℕ). sum_to k f) (add-sub_of_le l) in
    let s = sum_split m (n - m) f in
    omega arith

-- each term times a
pub sum_scale : (a n : ℕ) (f : ℕ → ℕ) → sum_to n (λ i. a * f i) ≡ a * sum_to n f
unfolding sum_to
sum_scale a zero f = sym (mul-zero a)
sum_scale a (suc n) f = ap (λ (x : ℕ). x + a * f n) (sum_scale a n f) ∙ sym (mul-add a (sum_to n f) (f n))

-- the terms of a whole period, from any term on
pub sum_turn : (n : ℕ) (f : ℕ → ℕ) → ((i : ℕ) → f (i + n) ≡ f i) → (s : ℕ) → sum_to n (λ i. f (i + s)) ≡ sum_to n f
sum_turn n f h zero = sum_ext n (λ i. f (i + 0)) f (λ i l. ap f (add-zero i))
sum_turn n f h (suc s) =
    sum_ext n (λ i. f (i + suc s)) (λ i. f (suc i + s)) (λ i l. ap f (add-suc i s ∙ sym (suc-add i s)))
    ∙ step ∙ sum_turn n f h s
  where
    step : sum_to n (λ i. f (suc i + s)) ≡ sum_to n (λ i. f (i + s))
    step =
        let a = sum_first n (λ i. f (i + s)) in
        let b = sum_more n (λ i. f (i + s)) in
        let c = ap (λ (m : ℕ). sum_to m (λ i. f (i + s))) (add-one n) in
        let e : f (n + s) ≡ f (0 + s) = ap f (add_comm n s) ∙ h s ∙ ap f (sym (zero-add s)) in
        omega arith

-- a sum of n numbers of at most m each
pub sum_le : (m n : ℕ) (f : ℕ → ℕ) → ((i : ℕ) → i < n → f i ≤ m) → sum_to n f ≤ m * n
unfolding sum_to
sum_le m zero f h = omega arith
sum_le m (suc n) f h =
    let a = sum_le m n f (λ i l. h i (omega arith)) in
    let b = h n (le_refl (suc n)) in
    rw mul-suc (omega arith)

-- a sum is 0 if all its terms are
pub sum_none : (n : ℕ) (f : ℕ → ℕ) → ((i : ℕ) → i < n → f i ≡ 0) → sum_to n f ≡ 0
unfolding sum_to
sum_none zero f h = refl
sum_none (suc n) f h = let a = sum_none n f (λ i l. h i (omega arith)) in let b = h n (le_refl (suc n)) in omega arith

-- and no term is above the sum
pub term_le : (n : ℕ) (f : ℕ → ℕ) (i : ℕ) → i < n → f i ≤ sum_to n f
unfolding sum_to
term_le zero f i l = absurd (not-suc-le-zero l)
term_le (suc n) f i l = go (term_le n f i) (eq-or-lt_of_le (le_of_suc-le-suc l))
  where
    go : (i < n → f i ≤ sum_to n f) → (i ≡ n) ⊎ (i < n) → f i ≤ sum_to n f + f n
    go ih (inl e) = subst (λ (j : ℕ). f j ≤ sum_to n f + f n) (sym e) (omega arith)
    go ih (inr s) = let r = ih s in omega arith

-- the sum of two terms each
pub sum_add : (n : ℕ) (f g : ℕ → ℕ) → sum_to n (λ i. f i + g i) ≡ sum_to n f + sum_to n g
unfolding sum_to
sum_add zero f g = refl
sum_add (suc n) f g = let e = sum_add n f g in omega arith

-- no number is below the least
pub least_to_le : (k : ℕ) (f : ℕ → ℕ) (b : ℕ) → b ≤ k → least_to k f ≤ f b
unfolding least_to
least_to_le zero f zero h = le_refl (f zero)
least_to_le zero f (suc b) h = absurd (not-suc-le-zero h)
least_to_le (suc k) f b h = go (least_to_le k f) (eq-or-lt_of_le h)
  where
    go : ((j : ℕ) → j ≤ k → least_to k f ≤ f j) → (b ≡ suc k) ⊎ (b < suc k) → min (least_to k f) (f (suc k)) ≤ f b
    go ih (inl e) = subst (λ (x : ℕ). min (least_to k f) (f (suc k)) ≤ f x) (sym e) (min-le_right (least_to k f) (f (suc k)))
    go ih (inr l) = le_trans (min-le_left (least_to k f) (f (suc k))) (ih b (le_of_suc-le-suc l))

-- and one number is the least
pub least_to_at : (k : ℕ) (f : ℕ → ℕ) → (b : ℕ) × (b ≤ k) × (f b ≡ least_to k f)
unfolding least_to
least_to_at zero f = (zero, le_refl zero, refl)
least_to_at (suc k) f = go (least_to_at k f) (dec_lt (least_to k f) (f (suc k)))
  where
    go : (b : ℕ) × (b ≤ k) × (f b ≡ least_to k f) → Dec (least_to k f < f (suc k)) → (b : ℕ) × (b ≤ suc k) × (f b ≡ min (least_to k f) (f (suc k)))
    go p (yes l) = let h = p.1 in (p.0, omega arith, p.2 ∙ sym (min-eq_left (le_of_lt l)))
    go p (no l) = (suc k, le_refl (suc k), sym (min-eq_right (omega arith)))

-- the least so far, and one number more; from the first number on, which is then met twice
pub least_next : (b m : ℕ) (f : ℕ → ℕ) → m ≡ least_to (b - 1) f → (f b < m → f b ≡ least_to (b + 1 - 1) f) × (m ≤ f b → m ≡ least_to (b + 1 - 1) f)
unfolding least_to
least_next zero m f e = ((λ s. absurd (omega arith)), (λ s. e))
least_next (suc k) m f e =
    let a : suc k - 1 ≡ k = omega arith in
    let n : suc k + 1 - 1 ≡ suc k = omega arith in
    let e2 : m ≡ least_to k f = e ∙ ap (λ (x : ℕ). least_to x f) a in
    let back = ap (λ (x : ℕ). least_to x f) (sym n) in (
      (λ s. sym (min-eq_right (le_trans (le_of_lt s) (le_of_eq e2))) ∙ back),
      (λ s. e2 ∙ sym (min-eq_left (le_trans (le_of_eq (sym e2)) s)) ∙ back),
    )

-- the same from the second number on
pub least_more : (b m : ℕ) (f : ℕ → ℕ) → 1 ≤ b → m ≡ least_to (b - 1) f → (f b < m → f b ≡ least_to (b + 1 - 1) f) × (m ≤ f b → m ≡ least_to (b + 1 - 1) f)
least_more b m f l e = least_next b m f e

-- the least of the first entries by a fold that begins with the first
least_front : (v : List ℕ) (k : ℕ) → k < length v → fold min (get_or v 0 0) (take (k + 1) v) ≡ least_to k (λ b. get_or v b 0)
unfolding least_to
least_front v zero l = fold_more min (get_or v 0 0) v 0 0 l ∙ min-eq_left (le_refl (get_or v 0 0))
least_front v (suc k) l =
    fold_more min (get_or v 0 0) v (suc k) 0 l
    ∙ ap (λ (m : ℕ). min m (get_or v (suc k) 0)) (ap (λ (n : ℕ). fold min (get_or v 0 0) (take n v)) (sym (add-one k)) ∙ least_front v k (omega arith))

-- so of all 64
pub least_fold : (v : List ℕ) (n : ℕ) → length v ≡ 64 → 64 ≤ n → fold min (get_or v 0 0) (take n v) ≡ least v
unfolding least
least_fold v n e l = ap (fold min (get_or v 0 0)) (take_all n v (omega arith) ∙ sym (take_all 64 v (le_of_eq e))) ∙ least_front v 63 (omega arith)

-- no entry of a vector is below its least
pub least_le : (v : List ℕ) (b : ℕ) → b < 64 → least v ≤ get_or v b 0
unfolding least
least_le v b l = least_to_le 63 (λ i. get_or v i 0) b (le_of_suc-le-suc l)

-- some entry is the least
pub least_at : (v : List ℕ) → (b : ℕ) × (b < 64) × (get_or v b 0 ≡ least v)
unfolding least
least_at v = let p = least_to_at 63 (λ i. get_or v i 0) in (p.0, suc-le-suc p.1, p.2)

-- an entry less the least
pub less_least_at : (v : List ℕ) (b : ℕ) → b < 64 → get_or (less_least v) b 0 ≡ get_or v b 0 - least v
unfolding less_least
less_least_at v b l = get_d_tabulate 0 64 (λ i. get_or v i 0 - least v) b l

-- one entry less the least is 0
pub less_least_zero : (v : List ℕ) → (b : ℕ) × (b < 64) × (get_or (less_least v) b 0 ≡ 0)
less_least_zero v =
    let p = least_at v in
    let q = less_least_at v p.0 p.1 in
    let e = p.2 in
    (p.0, p.1, omega arith)
