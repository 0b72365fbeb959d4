-- The symbols answered: each is decided from the vector held at its place, and no other word is.
use mathlib.Core.Path.{◌≡◌, sym, ap, ◌∙◌, subst}
use mathlib.Core.Logic.{◌⊎◌, inl, inr}
use mathlib.Core.List.{List}
use Prim.Native.Nat.{ℕ, zero, suc, ◌*◌, ◌/◌, ◌%◌, ◌^◌, ◌≤◌, ◌<◌}
use native.Mathlib.Nat.{le_refl, le_of_suc-le-suc, eq-or-lt_of_le, not-suc-le-zero, zero-div, zero-mul}
use native.Mathlib.Omega.{arith}
use lib.Dec.{lit<}
use lib.Pow.{pow_pos}
use lib.ListN.{length, get_or, length-set, length-replicate, get_or-replicate}
use lib.Seq.{get_or-set_same, get_or-set_other, ext_get_or}
use Rattle.vector.specs.Vector.{vector_at}
use Rattle.vector.proofs.Laws.{length_tabulate, get_d_tabulate, sum_none, joined_part, length_joined}
use Rattle.polar_code.specs.Code.{Code, kind_of, IsWord}
use Rattle.polar.proofs.Numbers.{lt_or_le}
use Rattle.scms.specs.Mode.{Mode}
use Rattle.scms.specs.Decision.{decision}
use Rattle.scms.specs.Decoder.{taken_in, taken_off, held_at, decided_to, held, symbols, report, totals}
use Rattle.scms.specs.Claims.{Agree, FirstTotal}
use Rattle.scms.proofs.DecisionLaws.{decision_lt}
use Rattle.scms.proofs.VectorLaws.{vector_long}
use Rattle.scms.proofs.Earlier.{only_earlier}

module _ (code : Code) (mode : Mode) (frame : List ℕ) where
  -- the number of layers
  abbrev n : ℕ
  n = code.n

  -- the frozen map
  abbrev map : List ℕ
  map = code.map

  -- the word when the places before place i are decided
  abbrev D : ℕ → List ℕ
  D i = decided_to code mode frame i

  -- what is decided at place i
  abbrev decided_there : ℕ → ℕ
  decided_there i = decision (kind_of (get_or map i 0)) (held code mode frame i)

  -- the word has N places all along
  pub decided_long : (i : ℕ) → length (D i) ≡ 2 ^ n
  unfolding decided_to
  decided_long zero = length-replicate (2 ^ n) 0
  decided_long (suc i) = length-set (D i) i (decision (kind_of (get_or map i 0)) (held_at code mode frame (D i) i)) ∙ decided_long i

  -- one place more
  there : (i : ℕ) → i < 2 ^ n → get_or (D (suc i)) i 0 ≡ decided_there i
  unfolding decided_to held
  there i l = get_or-set_same (D i) i (decision (kind_of (get_or map i 0)) (held_at code mode frame (D i) i)) 0 (subst (λ (x : ℕ). i < x) (sym (decided_long i)) l)

  -- leaves the others
  elsewhere : (i j : ℕ) → (j ≡ i → ⊥) → get_or (D (suc i)) j 0 ≡ get_or (D i) j 0
  unfolding decided_to
  elsewhere i j ne = get_or-set_other (D i) i j (decision (kind_of (get_or map i 0)) (held_at code mode frame (D i) i)) 0 ne

  -- every place holds a symbol all along
  decided_symbol : (i j : ℕ) → i ≤ 2 ^ n → j < 2 ^ n → get_or (D i) j 0 < 64
  unfolding decided_to
  decided_symbol zero j l lj = subst (λ (x : ℕ). x < 64) (sym (get_or-replicate (2 ^ n) j 0 0 lj)) (lit< tt)
  decided_symbol (suc i) j l lj = go (lt_or_le j i) (lt_or_le i j) (decided_symbol i j (omega arith) lj)
    where
      go : (j < i) ⊎ (i ≤ j) → (i < j) ⊎ (j ≤ i) → get_or (D i) j 0 < 64 → get_or (D (suc i)) j 0 < 64
      go (inl a) b h = subst (λ (x : ℕ). x < 64) (sym (elsewhere i j (λ q. absurd (omega arith)))) h
      go (inr a) (inl b) h = subst (λ (x : ℕ). x < 64) (sym (elsewhere i j (λ q. absurd (omega arith)))) h
      go (inr a) (inr b) h =
          let q : i ≡ j = omega arith in
          subst (λ (k : ℕ). get_or (D (suc i)) k 0 < 64) q
          (subst (λ (x : ℕ). x < 64) (sym (there i l)) (decision_lt (get_or map i 0) (held code mode frame i)))

  -- a symbol once decided stays
  stays : (i k : ℕ) → i < k → k ≤ 2 ^ n → get_or (D k) i 0 ≡ decided_there i
  stays i zero l h = absurd (not-suc-le-zero l)
  stays i (suc k) l h = go (eq-or-lt_of_le (le_of_suc-le-suc l)) (stays i k)
    where
      go : (i ≡ k) ⊎ (i < k) → (i < k → k ≤ 2 ^ n → get_or (D k) i 0 ≡ decided_there i) → get_or (D (suc k)) i 0 ≡ decided_there i
      go (inl e) ih = subst (λ (j : ℕ). get_or (D (suc j)) i 0 ≡ decided_there i) e (there i (omega arith))
      go (inr s) ih = elsewhere k i (λ q. absurd (omega arith)) ∙ ih s (omega arith)

  -- the answer is a word
  pub symbols_word : IsWord n (symbols code mode frame)
  unfolding symbols
  symbols_word = record { long = decided_long (2 ^ n); symbols = λ j l. decided_symbol (2 ^ n) j (le_refl (2 ^ n)) l }

  -- each symbol is decided from what is held at its place
  pub symbol_decided : (i : ℕ) → i < 2 ^ n → get_or (symbols code mode frame) i 0 ≡ decision (kind_of (get_or map i 0)) (held code mode frame i)
  unfolding symbols
  symbol_decided i l = stays i (2 ^ n) l (le_refl (2 ^ n))

  -- what is held at a place may be read off any word with the symbols decided before it
  pub held_by : (r : List ℕ) (i : ℕ) → length r ≡ 2 ^ n → i < 2 ^ n → Agree i (D i) r → held code mode frame i ≡ held_at code mode frame r i
  unfolding held
  held_by r i lr l a = (only_earlier code mode frame (D i) r (decided_long i) lr).held_earlier i l a

  -- off the answer itself, too
  pub held_final : (i : ℕ) → i < 2 ^ n → held code mode frame i ≡ held_at code mode frame (symbols code mode frame) i
  held_final i l = held_by (symbols code mode frame) i symbols_word.long l (λ j lj. stays j i lj (omega arith) ∙ sym (symbol_decided j (omega arith)))

  -- a word each of whose symbols is decided from what is held with it is the answer
  module _ (r : List ℕ) (lr : length r ≡ 2 ^ n)
      (h : (i : ℕ) → i < 2 ^ n → get_or r i 0 ≡ decision (kind_of (get_or map i 0)) (held_at code mode frame r i)) where
    -- before each place it has what was decided there
    agrees : (i : ℕ) → i ≤ 2 ^ n → Agree i (D i) r
    agrees zero l j lj = absurd (not-suc-le-zero lj)
    agrees (suc i) l j lj = go (eq-or-lt_of_le (le_of_suc-le-suc lj)) (agrees i (omega arith))
      where
        go : (j ≡ i) ⊎ (j < i) → Agree i (D i) r → get_or (D (suc i)) j 0 ≡ get_or r j 0
        go (inl e) ih =
            subst (λ (k : ℕ). get_or (D (suc i)) k 0 ≡ get_or r k 0) (sym e)
            (there i l ∙ ap (decision (kind_of (get_or map i 0))) (held_by r i lr l ih) ∙ sym (h i l))
        go (inr s) ih = elsewhere i j (λ q. absurd (omega arith)) ∙ ih j s

    -- so at the end it is the answer
    pub answer_is : symbols code mode frame ≡ r
    unfolding symbols
    answer_is = ext_get_or 0 (D (2 ^ n)) r (decided_long (2 ^ n) ∙ sym lr) (λ i l. agrees (2 ^ n) (le_refl (2 ^ n)) i (subst (λ (x : ℕ). i < x) (decided_long (2 ^ n)) l))

  -- ---- the report

  -- what is held has 64 entries
  pub held_long : 1 ≤ n → (i : ℕ) → i < 2 ^ n → length (held code mode frame i) ≡ 64
  unfolding held held_at
  held_long hn i l = vector_long code mode frame (D i) hn i l

  -- the report has 64 entries for each place
  pub report_long : 1 ≤ n → length (report code mode frame) ≡ 64 * 2 ^ n
  unfolding report
  report_long hn = length_joined 64 (held code mode frame) (2 ^ n) (held_long hn)

  -- and those of place i are what was held there
  pub report_place : 1 ≤ n → (i : ℕ) → i < 2 ^ n → vector_at (report code mode frame) i ≡ held code mode frame i
  unfolding report vector_at
  report_place hn i l = joined_part 64 (held code mode frame) (2 ^ n) (held_long hn) i l

  -- ---- the totals

  -- a number for each place
  pub totals_long : length (totals code mode frame) ≡ 2 ^ n
  unfolding totals
  totals_long = length_tabulate (2 ^ n) (taken_off code mode frame (symbols code mode frame))

  -- the number of place i
  pub total_place : (i : ℕ) → i < 2 ^ n → get_or (totals code mode frame) i 0 ≡ taken_off code mode frame (symbols code mode frame) i
  unfolding totals
  total_place i l = get_d_tabulate 0 (2 ^ n) (taken_off code mode frame (symbols code mode frame)) i l

  -- that of place 0
  pub first_total : FirstTotal code mode frame
  unfolding taken_off taken_in
  first_total =
      total_place 0 (pow_pos n) ∙ sum_none _ _ (λ d l. none_counted _ _)
    where
      -- place 0 is in the first half of every block
      none_counted : (half x : ℕ) → 0 / half % 2 * x ≡ 0
      none_counted half x = ap (λ (q : ℕ). q % 2 * x) (zero-div half) ∙ zero-mul x
