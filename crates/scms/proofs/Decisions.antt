-- Clipped or not: each held vector has a 0, a frozen place gets what it always holds, and a message place the smallest value whose held
-- penalty is 0.
use mathlib.Core.Path.{sym, ap, ◌∙◌, subst}
use mathlib.Core.List.{List}
use Prim.Native.Nat.{ℕ, ◌^◌, ◌<◌}
use native.Mathlib.Nat.{le_refl}
use native.Mathlib.Omega.{arith}
use lib.ListN.{get_or}
use Rattle.vector.specs.Vector.{HasZero}
use Rattle.polar_code.specs.Code.{Code, kind_of, Coefficients}
use Rattle.scms.specs.Mode.{Mode, TriesOne}
use Rattle.scms.specs.Decoder.{held_at, held, symbols}
use Rattle.scms.specs.Totals.{EachZero}
use Rattle.scms.specs.Claims.{Decided}
use Rattle.scms.proofs.DecisionLaws.{smallest_zero, smallest_first, decision_message, decision_frozen}
use Rattle.scms.proofs.Bounds.{vector_zero}
use Rattle.scms.proofs.AnswerLaws.{symbol_decided, held_final}

module _ (code : Code) (mode : Mode) (frame : List ℕ) (one : TriesOne mode) (g : Coefficients code.coefs)
    (z : EachZero code.n frame) where
  -- the number of layers
  abbrev n : ℕ
  n = code.n

  -- the coefficients
  abbrev cs : List ℕ
  cs = code.coefs

  -- the frozen map
  abbrev map : List ℕ
  map = code.map

  -- each held vector has a 0
  pub held_zero : (i : ℕ) → i < 2 ^ n → HasZero (held code mode frame i)
  unfolding held_at
  held_zero i l = subst HasZero (sym (held_final code mode frame i l)) (vector_zero code mode frame (symbols code mode frame) one g z n (le_refl n) i l)

  -- the decisions
  pub decided : (i : ℕ) → i < 2 ^ n → Decided code mode frame i
  decided i l =
      let v = held code mode frame i in
      let hz = held_zero i l in
      let sd = symbol_decided code mode frame i l in
      record {
        has_zero = hz;
        frozen_holds = λ s e. sd ∙ decision_frozen (kind_of (get_or map i 0)) v s e;
        message_zero = λ e. ap (λ (b : ℕ). get_or v b 0) (sd ∙ decision_message (kind_of (get_or map i 0)) v e) ∙ smallest_zero v hz;
        message_smallest = λ e b lb q.
            let k = smallest_first v b (subst (λ (x : ℕ). b < x) (sd ∙ decision_message (kind_of (get_or map i 0)) v e) lb) in
            absurd (omega arith);
      }
