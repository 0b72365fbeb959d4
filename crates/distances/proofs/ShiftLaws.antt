-- The laws of the list of near shifts: how it is written, and what it has.
use mathlib.Core.Path.{◌≡◌, refl, sym, ap, ap₂, ◌∙◌, subst}
use mathlib.Core.Bool.{Bool, cond}
use mathlib.Core.List.{List, [], ◌∷◌, ◌++◌, append-nil, append_assoc}
use Prim.Native.Nat.{ℕ, zero, suc, ◌+◌, ◌-◌, ◌≤◌, ◌<◌}
use native.Mathlib.Nat.{not-suc-le-zero, add-sub_of_le}
use native.Mathlib.Numerals.{add-one}
use native.Mathlib.Decide.{dec_lt, ℕ_discrete}
use native.Mathlib.Omega.{arith}
use borrow.Author.Tests.{lt-ltb, le-ltb}
use lib.Dec.{lit<}
use lib.ListN.{length, get_or, take, set, replicate, length-append, length-set, get_or-replicate, get_or-append, replicate-append-replicate}
use lib.Seq.{take_all, take-suc-set, take-set-lt, set-append_seam, get_or-append_seam, get_or-append-add}
use Rattle.refusal.specs.Tests.{Within}
use Rattle.refusal.proofs.Laws.{accepted_none}
use Rattle.refusal.proofs.Within.{false_equal}
use Rattle.vector.specs.Vector.{joined}
use Rattle.distances.specs.Distance.{shift_distance}
use Rattle.distances.specs.Shifts.{near_shift, near_to, with_zeros, shifts_refusal, NearList}

module _ (base d : ℕ) where
  -- one shift more, which is within d chips
  near_kept : (n : ℕ) → shift_distance base (n + 1) ≤ d → near_to base d (suc n) ≡ near_to base d n ++ ((n + 1) ∷ [])
  unfolding near_to near_shift joined
  near_kept n l =
      ap (λ (t : Bool). near_to base d n ++ cond t [] ((n + 1) ∷ [])) (le-ltb d (shift_distance base (n + 1)) l)

  -- one that is not
  near_left : (n : ℕ) → d < shift_distance base (n + 1) → near_to base d (suc n) ≡ near_to base d n
  unfolding near_to near_shift joined
  near_left n l =
      ap (λ (t : Bool). near_to base d n ++ cond t [] ((n + 1) ∷ [])) (lt-ltb d (shift_distance base (n + 1)) l)
      ∙ append-nil (near_to base d n)

  -- ---- what it has

  -- of the shifts from 1 to n: each that is listed is one within d chips, they rise, and each such shift is listed
  record Listed (n : ℕ) (xs : List ℕ) : Type 0 where
    near : (i : ℕ) → i < length xs → Within 1 n (get_or xs i 0) × (shift_distance base (get_or xs i 0) ≤ d)
    rising : (i j : ℕ) → i < j → j < length xs → get_or xs i 0 < get_or xs j 0
    all : (s : ℕ) → Within 1 n s → shift_distance base s ≤ d → (i : ℕ) × (i < length xs) × (get_or xs i 0 ≡ s)

  module _ (n : ℕ) (xs : List ℕ) (h : Listed n xs) where
    -- a shift that is listed, of one shift more
    wider : (i : ℕ) → i < length xs → Within 1 (suc n) (get_or xs i 0)
    wider i l =
        let w = (h.near i l).0 in
        let m = w.most in
        record { least = w.least; most = omega arith }

    -- the next shift is not within d chips
    listed_left : d < shift_distance base (n + 1) → Listed (suc n) xs
    listed_left far = record {
      near = λ i l. (wider i l, (h.near i l).1);
      rising = h.rising;
      all = λ s w close. go s w close (ℕ_discrete s (n + 1));
    }
      where
        go : (s : ℕ) → Within 1 (suc n) s → shift_distance base s ≤ d → Dec (s ≡ n + 1)
            → (i : ℕ) × (i < length xs) × (get_or xs i 0 ≡ s)
        go s w close (yes e) = absurd (let q = ap (shift_distance base) e in omega arith)
        go s w close (no e) = let m = w.most in h.all s (record { least = w.least; most = omega arith }) close

    -- the next shift is
    listed_kept : shift_distance base (n + 1) ≤ d → Listed (suc n) (xs ++ ((n + 1) ∷ []))
    listed_kept close = record {
      near = λ i l. near i l (dec_lt i (length xs));
      rising = λ i j k l. rising i j k l (dec_lt j (length xs));
      all = λ s w c. all s w c (ℕ_discrete s (n + 1));
    }
      where
        ys : List ℕ
        ys = xs ++ ((n + 1) ∷ [])

        long : length ys ≡ length xs + 1
        long = length-append xs ((n + 1) ∷ [])

        old : (i : ℕ) → i < length xs → get_or ys i 0 ≡ get_or xs i 0
        old i l = get_or-append xs ((n + 1) ∷ []) 0 i l

        new : (i : ℕ) → i < length ys → (i < length xs → ⊥) → get_or ys i 0 ≡ n + 1
        new i l m =
            let e = long in
            let last : i ≡ length xs = omega arith in
            ap (λ (j : ℕ). get_or ys j 0) last ∙ get_or-append_seam xs (n + 1) [] 0

        Near : ℕ → Type 0
        Near x = Within 1 (suc n) x × (shift_distance base x ≤ d)

        near : (i : ℕ) → i < length ys → Dec (i < length xs) → Near (get_or ys i 0)
        near i l (yes m) = subst Near (sym (old i m)) (wider i m, (h.near i m).1)
        near i l (no m) = subst Near (sym (new i l m)) (record { least = omega arith; most = omega arith }, close)

        rising : (i j : ℕ) → i < j → j < length ys → Dec (j < length xs) → get_or ys i 0 < get_or ys j 0
        rising i j k l (yes m) =
            let a = old i (omega arith) in
            let b = old j m in
            let r = h.rising i j k m in
            omega arith
        rising i j k l (no m) =
            let e = long in
            let low : i < length xs = omega arith in
            let a = old i low in
            let b = new j l m in
            let w = (h.near i low).0.most in
            omega arith

        all : (s : ℕ) → Within 1 (suc n) s → shift_distance base s ≤ d → Dec (s ≡ n + 1)
            → (i : ℕ) × (i < length ys) × (get_or ys i 0 ≡ s)
        all s w c (yes e) = let l = long in (length xs, omega arith, get_or-append_seam xs (n + 1) [] 0 ∙ sym e)
        all s w c (no e) =
            let b = w.most in
            let p = h.all s (record { least = w.least; most = omega arith }) c in
            let l = long in
            let m = p.1 in
            (p.0, omega arith, old p.0 m ∙ p.2)

  -- so for each n
  listed : (n : ℕ) → Listed n (near_to base d n)
  unfolding near_to joined
  listed zero = record {
    near = λ i l. absurd (not-suc-le-zero l);
    rising = λ i j k l. absurd (not-suc-le-zero l);
    all = λ s w c. absurd (let a = w.least in let b = w.most in omega arith);
  }
  listed (suc n) = go (listed n) (dec_lt d (shift_distance base (n + 1)))
    where
      go : Listed n (near_to base d n) → Dec (d < shift_distance base (n + 1)) → Listed (suc n) (near_to base d (suc n))
      go h (yes far) = subst (Listed (suc n)) (sym (near_left n far)) (listed_left n (near_to base d n) h far)
      go h (no near) =
          let close : shift_distance base (n + 1) ≤ d = omega arith in
          subst (Listed (suc n)) (sym (near_kept n close)) (listed_kept n (near_to base d n) h close)

  -- what the buffer then holds
  pub near_list : (bytes : List ℕ) → bytes ≡ with_zeros 63 (near_to base d 63)
      → NearList base d (length (near_to base d 63)) bytes
  unfolding with_zeros
  near_list bytes e = subst (NearList base d (length xs)) (sym e) (record {
    near = λ i l. subst (λ (x : ℕ). Within 1 63 x × (shift_distance base x ≤ d)) (sym (front i l)) (h.near i l);
    rising = λ i j k l. let a = front i (omega arith) in let b = front j l in let r = h.rising i j k l in omega arith;
    all = λ s w c. let p = h.all s w c in (p.0, p.1, front p.0 p.1 ∙ p.2);
    rest = λ i l m.
        ap (λ (j : ℕ). get_or (xs ++ zeros) j 0) (sym (add-sub_of_le l))
        ∙ get_or-append-add xs zeros (i - length xs) 0
        ∙ get_or-replicate (63 - length xs) (i - length xs) 0 0 (omega arith);
  })
    where
      xs : List ℕ
      xs = near_to base d 63

      zeros : List ℕ
      zeros = replicate (63 - length xs) 0

      h : Listed 63 xs
      h = listed 63

      front : (i : ℕ) → i < length xs → get_or (xs ++ zeros) i 0 ≡ get_or xs i 0
      front i l = get_or-append xs zeros 0 i l

  -- ---- how it is written

  -- after n turns: the first n bytes are the shifts from 1 to n that are near, and zeros
  pub record Written (bytes : List ℕ) (count n : ℕ) : Type 0 where
    pub few : n ≤ 63
    pub long : length bytes ≡ 63
    pub counted : count ≡ length (near_to base d n)
    pub room : count ≤ n
    pub start : take n bytes ≡ with_zeros n (near_to base d n)

  -- before the first
  pub written_none : (bytes : List ℕ) → length bytes ≡ 63 → Written bytes 0 0
  unfolding near_to joined with_zeros
  written_none bytes e = record { few = omega arith; long = e; counted = refl; room = omega arith; start = refl }

  module _ (bytes : List ℕ) (count n : ℕ) (h : Written bytes count n) (l : n < 63) where
    -- the next byte is set to 0: one zero more
    zeroed : take (suc n) (set bytes n 0) ≡ near_to base d n ++ replicate (suc (n - count)) 0
    unfolding with_zeros
    zeroed =
        let e = h.long in
        let c = h.counted in
        let rest = n - length (near_to base d n) in
        let more : rest + 1 ≡ suc (n - count) = omega arith in
        take-suc-set bytes n 0 (omega arith)
        ∙ ap (λ (xs : List ℕ). xs ++ (0 ∷ [])) h.start
        ∙ append_assoc (near_to base d n) (replicate rest 0) (0 ∷ [])
        ∙ ap (λ (xs : List ℕ). near_to base d n ++ xs)
        (replicate-append-replicate rest 1 0 ∙ ap (λ (k : ℕ). replicate k 0) more)

    -- the next shift is not near: that is all
    pub written_left : d < shift_distance base (n + 1) → Written (set bytes n 0) count (n + 1)
    unfolding with_zeros
    written_left far =
        let r = h.room in
        let same : near_to base d (n + 1) ≡ near_to base d n = ap (near_to base d) (add-one n) ∙ near_left n far in
        let c = h.counted in
        let size = ap length same in
        let rest : suc (n - count) ≡ n + 1 - length (near_to base d (n + 1)) = omega arith in
        record {
          few = omega arith;
          long = length-set bytes n 0 ∙ h.long;
          counted = c ∙ ap length (sym same);
          room = omega arith;
          start = ap (λ (k : ℕ). take k (set bytes n 0)) (add-one n) ∙ zeroed
              ∙ ap₂ (λ (xs : List ℕ) (k : ℕ). xs ++ replicate k 0) (sym same) rest;
        }

    -- it is: it goes to the first byte that holds none
    pub written_kept : shift_distance base (n + 1) ≤ d
        → Written (set (set bytes n 0) count (n + 1)) (count + 1) (n + 1)
    unfolding with_zeros
    written_kept near =
        let xs = near_to base d n in
        let r = h.room in
        let c = h.counted in
        let more : near_to base d (n + 1) ≡ xs ++ ((n + 1) ∷ []) = ap (near_to base d) (add-one n) ∙ near_kept n near in
        let size = ap length more ∙ length-append xs ((n + 1) ∷ []) in
        let rest : n - count ≡ n + 1 - length (near_to base d (n + 1)) = omega arith in
        record {
          few = omega arith;
          long = length-set (set bytes n 0) count (n + 1) ∙ length-set bytes n 0 ∙ h.long;
          counted = let q : count + 1 ≡ length (near_to base d (n + 1)) = omega arith in q;
          room = omega arith;
          start = ap (λ (k : ℕ). take k (set (set bytes n 0) count (n + 1))) (add-one n)
              ∙ take-set-lt (suc n) (set bytes n 0) count (n + 1) (omega arith)
              ∙ ap₂ (λ (ys : List ℕ) (k : ℕ). set ys k (n + 1)) zeroed c
              ∙ set-append_seam xs 0 (replicate (n - count) 0) (n + 1)
              ∙ sym (append_assoc xs ((n + 1) ∷ []) (replicate (n - count) 0))
              ∙ ap₂ (λ (ys : List ℕ) (k : ℕ). ys ++ replicate k 0) (sym more) rest;
        }

  -- after the last
  pub written_all : (bytes : List ℕ) (count n : ℕ) → Written bytes count n → 63 ≤ n
      → (count ≡ length (near_to base d 63)) × (bytes ≡ with_zeros 63 (near_to base d 63))
  written_all bytes count n h l =
      let f = h.few in
      let e : n ≡ 63 = omega arith in
      let long = h.long in (
        h.counted ∙ ap (λ (k : ℕ). length (near_to base d k)) e,
        sym (take_all n bytes (omega arith)) ∙ h.start ∙ ap (λ (k : ℕ). with_zeros k (near_to base d k)) e,
      )

-- an accepted call has a buffer of 63 bytes
pub sixty_three : (base : ℕ) (buffer : List ℕ) → shifts_refusal base buffer ≡ 0 → length buffer ≡ 63
unfolding shifts_refusal
sixty_three base buffer e = false_equal (length buffer) 63 (accepted_none _ (lit< tt, (lit< tt, tt)) e).0
