-- The least penalty held for any other value is what its name says.
use mathlib.Core.Path.{◌≡◌, ◌∙◌, subst}
use mathlib.Core.List.{List}
use Prim.Native.Nat.{ℕ, suc, ◌-◌, ◌≤◌, ◌<◌}
use native.Mathlib.Decide.{dec_lt}
use native.Mathlib.Omega.{arith}
use Rattle.std.proofs.lemmas.Bool.Decides.{nat_tests}
use Rattle.vector.proofs.Laws.{least_to_le, least_to_at}
use Rattle.listing.specs.Listing.{held_for, other_value, least_other, IsLeastOther}

-- a value before the symbol
before : (symbol j : ℕ) → j < symbol → other_value symbol j ≡ j
unfolding other_value
before symbol j l = grind (arith, nat_tests)

-- one after it
after : (symbol j : ℕ) → symbol ≤ j → other_value symbol j ≡ suc j
unfolding other_value
after symbol j l = grind (arith, nat_tests)

-- each is a value other than the symbol
others : (symbol j : ℕ) → symbol < 64 → j ≤ 62 → (other_value symbol j < 64) × (other_value symbol j ≡ symbol → ⊥)
unfolding other_value
others symbol j small l = grind (arith, nat_tests)

-- and each value other than the symbol is one of them
found : (symbol b : ℕ) → b < 64 → symbol < 64 → (b ≡ symbol → ⊥) → (j : ℕ) × (j ≤ 62) × (other_value symbol j ≡ b)
found symbol b l small h = go (dec_lt b symbol)
  where
    go : Dec (b < symbol) → (j : ℕ) × (j ≤ 62) × (other_value symbol j ≡ b)
    go (yes s) = (b, omega arith, before symbol b s)
    go (no s) =
        let more : symbol ≤ b - 1 = omega arith in
        let back : suc (b - 1) ≡ b = omega arith in
        (b - 1, omega arith, after symbol (b - 1) more ∙ back)

-- for every symbol and all numbers held for the values of a place
pub is_least_other : (symbol : ℕ) (llrs : List ℕ) → symbol < 64 → IsLeastOther symbol llrs (least_other symbol llrs)
unfolding least_other
is_least_other symbol llrs small =
    let held : ℕ → ℕ = λ j. held_for (other_value symbol j) llrs in
    let at = least_to_at 62 held in
    let other = others symbol at.0 small at.1 in
    record {
      value = other_value symbol at.0;
      a_value = other.0;
      another = other.1;
      attained = at.2;
      none_less = λ b l h.
          let j = found symbol b l small h in
          subst (λ (v : ℕ). least_other symbol llrs ≤ held_for v llrs) j.2 (least_to_le 62 held j.0 j.1);
    }
