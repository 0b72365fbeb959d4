-- A sample is a signed byte: its sign, and its magnitude.
use mathlib.Core.Path.{◌≡◌, refl, sym, ap, ◌∙◌}
use mathlib.Core.Bool.{Bool, true, false, cond, ◌&&◌}
use Prim.Native.Nat.{ℕ, ◌%◌, ◌≤◌}
use native.Mathlib.Decide.{ℕ_discrete}
use native.Mathlib.Omega.{arith}
use borrow.Author.Tests.{eq-eqb, ne_eqb}
use lib.Dec.{eqb}
use lib.IntN.{ℤ, pos, negsuc, nat_abs}
use lib.Signed.{lt_z}
use mir.Syntax.{w8}
use mir.Val.{to_z, of_z, SFits}
use mir.ValLaws.{to_z-of_z}
use Rattle.demapper.specs.Samples.{is_lost, magnitude}
use Rattle.demapper.proofs.LostLaws.{kept_magnitude}

-- without its sign a signed byte is at most 128
at_most : (y : ℤ) → SFits w8 y → nat_abs y ≤ 128
at_most (pos n) f = let l = f.sfits in omega arith
at_most (negsuc n) f = let l = f.sfits in omega arith

-- and one that is not below 0 at most 127
at_most_kept : (y : ℤ) → SFits w8 y → lt_z y (pos 0) ≡ false → nat_abs y ≤ 127
at_most_kept (pos n) f e = let l = f.sfits in omega arith
at_most_kept (negsuc n) f e = absurd (let z : ◌≡◌ {A = ℕ} 0 1 = cc in omega arith)

-- the remainder on division by 128 is 0 for 128, and the number itself below
remainder : (n : ℕ) → n ≤ 128 → n % 128 ≡ cond (eqb n 128) 0 n
remainder n l = go (ℕ_discrete n 128)
  where
    go : Dec (n ≡ 128) → n % 128 ≡ cond (eqb n 128) 0 n
    go (yes e) = ap (λ (m : ℕ). m % 128) e ∙ sym (ap (λ (b : Bool). cond b 0 n) (eq-eqb n 128 e))
    go (no h) = let e : n % 128 ≡ n = omega arith in e ∙ sym (ap (λ (b : Bool). cond b 0 n) (ne_eqb n 128 h))

module _ (y : ℤ) (small : SFits w8 y) where
  -- read back from its bits it is the same
  pub plain : to_z w8 (of_z w8 y) ≡ y
  plain = to_z-of_z w8 y small

  -- so its sign is that of what is read back
  pub sign : {b : Bool} → lt_z (to_z w8 (of_z w8 y)) (pos 0) ≡ b → lt_z y (pos 0) ≡ b
  sign e = ap (λ (z : ℤ). lt_z z (pos 0)) (sym plain) ∙ e

  -- the magnitude is what the sample has without its sign, which is at most 128, less the lost one
  pub sized : nat_abs y % 128 ≡ magnitude y
  unfolding magnitude is_lost
  sized = go (lt_z y (pos 0)) refl
    where
      go : (b : Bool) → lt_z y (pos 0) ≡ b → nat_abs y % 128 ≡ magnitude y
      go true e = remainder (nat_abs y) (at_most y small) ∙ sym (ap (λ (b : Bool). cond (b && eqb (nat_abs y) 128) 0 (nat_abs y)) e)
      go false e = let l = at_most_kept y small e in let r : nat_abs y % 128 ≡ nat_abs y = omega arith in r ∙ sym (kept_magnitude y l)
