-- The laws of a set without its smallest values.
use Rattle.std.proofs.Common.{◌≡◌, ℕ, ◌+◌, ◌-◌, ◌<◌, ◌≤◌, Bool, cond, sym, refl, ap, ◌∙◌, arith, le-ltb, lt-ltb}
use native.Mathlib.Decide.{dec_lt}
use lib.Bits.{bit_and}
use lib.Count.{count_trailing_zeros}
use Rattle.vector.specs.Vector.{sum_to}
use Rattle.vector.proofs.Laws.{sum_split, sum_none, sum_more}
use Rattle.short_check_node.specs.Masks.{Flags, mask_of, from, Cut}
use Rattle.short_check_node.proofs.MaskLaws.{mask_ext, mask_none, without, without_same, without_other, lowest}

-- a value before e is left out
pub from_before : (e : ℕ) (f : ℕ → ℕ) (c : ℕ) → c < e → from e f c ≡ 0
from_before e f c l = ap (λ (t : Bool). cond t 0 (f c)) (lt-ltb c e l)

-- one from e on is kept
pub from_after : (e : ℕ) (f : ℕ → ℕ) (c : ℕ) → e ≤ c → from e f c ≡ f c
from_after e f c l = ap (λ (t : Bool). cond t 0 (f c)) (le-ltb c e l)

-- what is left is a part of the set
pub from_le : (e : ℕ) (f : ℕ → ℕ) (c : ℕ) → from e f c ≤ f c
from_le e f c = go (dec_lt c e)
  where
    go : Dec (c < e) → from e f c ≤ f c
    go (yes l) = let z = from_before e f c l in omega arith
    go (no l) = let z = from_after e f c (omega arith) in omega arith

-- nothing is taken yet
pub cut_none : (f : ℕ → ℕ) (mask : ℕ) → mask ≡ mask_of 64 f → Cut f 0 mask
unfolding sum_to
cut_none f mask e = record {
  at = 0;
  within = omega arith;
  before = refl;
  is_left = e ∙ mask_ext 64 f (from 0 f) (λ i l. sym (from_after 0 f i (omega arith)));
}

module _ {f : ℕ → ℕ} {k left : ℕ} (h : Flags f) (p : Cut f k left) (l : k < sum_to 64 f) where
  -- what is left has no value more than 1
  left_flags : Flags (from p.at f)
  left_flags c = let a = from_le p.at f c in let b = h c in omega arith

  -- something is left
  pub cut_more_left : 0 < left
  cut_more_left = go (dec_lt 0 left)
    where
      go : Dec (0 < left) → 0 < left
      go (yes s) = s
      go (no s) =
          let z : mask_of 64 (from p.at f) ≡ 0 = (let q = p.is_left in omega arith) in
          let w = p.within in
          let none : (i : ℕ) → i < 64 - p.at → f (p.at + i) ≡ 0
          = λ i m. sym (from_after p.at f (p.at + i) (omega arith)) ∙ mask_none 64 (from p.at f) z (p.at + i) (omega arith) in
          let total : sum_to 64 f ≡ sum_to p.at f + sum_to (64 - p.at) (λ i. f (p.at + i))
          = ap (λ (n : ℕ). sum_to n f) (let e : 64 ≡ p.at + (64 - p.at) = omega arith in e) ∙ sum_split p.at (64 - p.at) f in
          let rest = sum_none (64 - p.at) (λ i. f (p.at + i)) none in
          let b = p.before in
          absurd (omega arith)

  -- one value more is taken, the smallest that is left
  pub cut_more : Cut f (k + 1) (bit_and left (left - 1))
  cut_more =
      let g = from p.at f in
      let q = lowest 64 g left left_flags p.is_left cut_more_left in
      let c = count_trailing_zeros 64 left in
      let w = q.within in
      let after : p.at ≤ c = first c q.is_set in
      let one : f c ≡ 1 = sym (from_after p.at f c after) ∙ q.is_set in
      let none : (i : ℕ) → i < c - p.at → f (p.at + i) ≡ 0
      = λ i m. sym (from_after p.at f (p.at + i) (omega arith)) ∙ q.none (p.at + i) (omega arith) in
      let total : sum_to c f ≡ sum_to p.at f + sum_to (c - p.at) (λ i. f (p.at + i))
      = ap (λ (n : ℕ). sum_to n f) (let e : c ≡ p.at + (c - p.at) = omega arith in e) ∙ sum_split p.at (c - p.at) f in
      let rest = sum_none (c - p.at) (λ i. f (p.at + i)) none in
      let b = p.before in
      let m = sum_more c f in
      record {
        at = c + 1;
        within = omega arith;
        before = omega arith;
        is_left = q.cleared ∙ mask_ext 64 (without c g) (from (c + 1) f) (λ i s. same c after q.none i (dec_lt i c) (dec_lt c i));
      }
    where
      -- a value that is left is not before those taken
      first : (c : ℕ) → from p.at f c ≡ 1 → p.at ≤ c
      first c e = go (dec_lt c p.at)
        where
          go : Dec (c < p.at) → p.at ≤ c
          go (yes s) = let z = from_before p.at f c s in absurd (omega arith)
          go (no s) = omega arith

      same : (c : ℕ) → p.at ≤ c → ((d : ℕ) → d < c → from p.at f d ≡ 0) → (i : ℕ) → Dec (i < c) → Dec (c < i)
          → without c (from p.at f) i ≡ from (c + 1) f i
      same c a none i (yes s) _ =
          without_other c (from p.at f) i (λ e. absurd (omega arith)) ∙ none i s ∙ sym (from_before (c + 1) f i (omega arith))
      same c a none i (no s) (yes t) =
          without_other c (from p.at f) i (λ e. absurd (omega arith)) ∙ from_after p.at f i (omega arith)
          ∙ sym (from_after (c + 1) f i (omega arith))
      same c a none i (no s) (no t) =
          let e : i ≡ c = omega arith in
          ap (without c (from p.at f)) e ∙ without_same c (from p.at f) ∙ sym (from_before (c + 1) f i (omega arith))
