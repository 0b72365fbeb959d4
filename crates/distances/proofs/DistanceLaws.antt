-- The laws of distances: how the code counts one, and what holds of the least.
use mathlib.Core.Path.{◌≡◌, sym, ap, ap₂, ◌∙◌, subst}
use mathlib.Core.Bool.{Bool, true, false, cond}
use Prim.Native.Nat.{ℕ, ◌+◌, ◌*◌, ◌-◌, ◌%◌, ◌^◌, ◌≤◌, ◌<◌}
use native.Mathlib.Nat.{mod-eq_of_lt}
use native.Mathlib.Omega.{arith}
use borrow.Author.Tests.{eqb-false}
use lib.Bits.{bit_xor}
use lib.Count.{ones}
use lib.Dec.{eqb, lit<}
use Rattle.refusal.specs.Tests.{Within}
use Rattle.refusal.proofs.Laws.{accepted_none}
use Rattle.vector.proofs.Laws.{sum_ext, sum_le, least_to_le, least_to_at}
use Rattle.ccsk.specs.Chips.{symbol_chip, turned, differing}
use Rattle.ccsk.proofs.ChipLaws.{turned_chip, turned_lt, turned_mod, turned_zero}
use Rattle.ccsk.proofs.DistanceLaws.{even, two_differ}
use Rattle.distances.specs.Distance.{shift_distance, least_distance, base_refusal, Least}
use Rattle.distances.specs.Between.{chips_apart}
use Rattle.distances.proofs.CountLaws.{ones_apart}

-- the numbers that two symbols are sent as differ in as many chips as the symbols
pub turned_apart : (base s t : ℕ) → chips_apart (turned base s) (turned base t) ≡ differing base s t
unfolding chips_apart differing
turned_apart base s t =
    sum_ext 64 _ _ (λ k l. ap₂ (λ (a b : ℕ). cond (eqb a b) 0 1) (turned_chip base s k l) (turned_chip base t k l))

-- the ones of the exclusive or of the base and its rotation are the distance of the shift
pub ones_distance : (base s : ℕ) → base < 2 ^ 64 → ones (bit_xor base (turned base s)) ≡ shift_distance base s
unfolding shift_distance
ones_distance base s fits =
    ones_apart base (turned base s) fits (turned_lt base s)
    ∙ ap₂ chips_apart (sym (turned_zero base ∙ mod-eq_of_lt fits)) (sym (turned_mod base s))
    ∙ turned_apart base 0 (s % 64)

module _ (base : ℕ) where
  -- a shift below 64 is counted as it is
  pub distance_below : (s : ℕ) → s < 64 → shift_distance base s ≡ differing base 0 s
  unfolding shift_distance
  distance_below s l = ap (differing base 0) (mod-eq_of_lt l)

  -- every distance is even
  pub distance_even : (s : ℕ) → (half : ℕ) × (shift_distance base s ≡ 2 * half)
  unfolding shift_distance
  distance_even s = even base (s % 64)

  -- no shift from 1 to 63 is nearer than the least
  pub least_bound : (s : ℕ) → Within 1 63 s → least_distance base ≤ shift_distance base s
  unfolding least_distance
  least_bound s w =
      let l = w.least in
      let m = w.most in
      let here : s - 1 + 1 ≡ s = omega arith in
      subst (λ (t : ℕ). least_distance base ≤ shift_distance base t) here
      (least_to_le 62 (λ i. shift_distance base (i + 1)) (s - 1) (omega arith))

  -- and one of them has it
  pub least_attained : (s : ℕ) × Within 1 63 s × (shift_distance base s ≡ least_distance base)
  unfolding least_distance
  least_attained =
      let p = least_to_at 62 (λ i. shift_distance base (i + 1)) in
      let l = p.1 in
      (p.0 + 1, record { least = omega arith; most = omega arith }, p.2)

  -- it is at most 64: a shift differs from shift 0 in no more chips than there are
  pub least_few : least_distance base ≤ 64
  unfolding shift_distance differing
  least_few =
      let p = least_attained in
      let e = p.2 in
      let l = sum_le 1 64 _ (λ k h. one (symbol_chip base 0 k) (symbol_chip base (p.0 % 64) k)) in
      omega arith
    where
      one : (a b : ℕ) → cond (eqb a b) 0 1 ≤ 1
      one a b = go (eqb a b)
        where
          go : (t : Bool) → cond t 0 1 ≤ 1
          go true = omega arith
          go false = omega arith

  -- a base that is accepted is not itself turned by 32 chips
  pub turns : base_refusal base ≡ 0 → turned base 32 ≡ base → ⊥
  unfolding base_refusal
  turns e = eqb-false (turned base 32) base (accepted_none _ (lit< tt, tt) e).0

  -- all that holds of the least distance of such a base
  pub least_is : base < 2 ^ 64 → base_refusal base ≡ 0 → Least base (least_distance base)
  least_is fits e =
      let p = least_attained in
      let w = p.1 in
      let here : p.0 < 64 = (let m = w.most in omega arith) in
      let at : differing base 0 p.0 ≡ least_distance base = sym (distance_below p.0 here) ∙ p.2 in
      let h = distance_even p.0 in
      record {
        at = p.0;
        at_shift = w;
        attained = p.2;
        bound = least_bound;
        half = h.0;
        even = sym p.2 ∙ h.1;
        at_least_two = subst (λ (x : ℕ). 2 ≤ x) at (two_differ base fits (turns e) p.0 w);
      }
