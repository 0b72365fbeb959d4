-- The samples of an amplitude of at most 127 are signed bytes.
use mathlib.Core.Path.{◌≡◌, refl, sym, ap, ◌∙◌, subst}
use mathlib.Core.Bool.{Bool, true, false, cond}
use Prim.Native.Nat.{ℕ, zero, suc, ◌-◌, ◌≤◌}
use native.Mathlib.Omega.{arith}
use borrow.Author.Tests.{lt-ltb}
use lib.Dec.{eqb}
use lib.IntN.{ℤ, pos, negsuc, neg_ℤ, ◌-ℤ◌}
use mir.Syntax.{w8}
use mir.Val.{to_z, of_z, SFits}
use mir.ValLaws.{to_z-of_z}
use Rattle.demapper.specs.Noiseless.{sent_sample}

-- an amplitude, taken off 0, is its negative
off_zero : (a : ℕ) → pos 0 -ℤ pos a ≡ neg_ℤ (pos a)
off_zero zero = refl
off_zero (suc a) =
    ap (λ (b : Bool). cond b (negsuc (suc a - 1)) (pos (0 - suc a))) (lt-ltb 0 (suc a) (omega arith))
    ∙ ap negsuc (let e : suc a - 1 ≡ a = omega arith in e)

-- the negative of one fits a signed byte
negative_fits : (a : ℕ) → a ≤ 127 → SFits w8 (neg_ℤ (pos a))
negative_fits zero l = record { sfits = omega arith }
negative_fits (suc a) l = record { sfits = omega arith }

module _ (a : ℕ) (l : a ≤ 127) where
  -- so does the amplitude itself
  positive_fits : SFits w8 (pos a)
  positive_fits = record { sfits = omega arith }

  -- which is read from the byte as it is
  pub plain : to_z w8 a ≡ pos a
  plain = to_z-of_z w8 (pos a) positive_fits

  -- what is read, taken off 0, is its negative
  pub negated : pos 0 -ℤ to_z w8 a ≡ neg_ℤ (pos a)
  negated = ap (λ (z : ℤ). pos 0 -ℤ z) plain ∙ off_zero a

  -- and fits too
  pub negated_fits : SFits w8 (pos 0 -ℤ to_z w8 a)
  negated_fits = subst (SFits w8) (sym negated) (negative_fits a l)

  -- so a sample is stored as it is
  pub stored : (c : ℕ) → to_z w8 (of_z w8 (sent_sample a c)) ≡ sent_sample a c
  unfolding sent_sample
  stored c = to_z-of_z w8 (sent_sample a c) (go (eqb c 0))
    where
      go : (b : Bool) → SFits w8 (cond b (pos a) (neg_ℤ (pos a)))
      go true = positive_fits
      go false = negative_fits a l
