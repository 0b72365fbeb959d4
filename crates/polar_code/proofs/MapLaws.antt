-- The laws of the map: which places hold message symbols, and how many.
use mathlib.Core.Path.{◌≡◌, refl, ap, ◌∙◌}
use mathlib.Core.Bool.{cond}
use mathlib.Core.List.{List}
use Prim.Native.Nat.{ℕ, suc, ◌+◌, ◌<◌}
use native.Mathlib.Omega.{arith}
use lib.ListN.{length, get_or, drop}
use lib.Seq.{drop-cons}
use Rattle.std.proofs.Common.{count_by, ◌==◌}
use Rattle.std.proofs.lemmas.List.Recursion.{is_count_by}
use Rattle.polar_code.specs.Code.{kind_of, message_count, message_places}
use Rattle.polar_code.specs.declared.kinds.Kind.{Kind}
use Rattle.polar_code.specs.declared.kinds.Kind.TheVariants.{Message as message, Frozen as frozen}

-- the map from place i on: the place itself, by its kind, and those after it
module _ (map : List ℕ) (i : ℕ) (l : i < length map) {k : Kind} (e : kind_of (get_or map i 0) ≡ k) where
  -- the message places from place i on
  pub places_from : message_places (drop i map) ≡ message_count k + message_places (drop (suc i) map)
  unfolding message_places
  places_from = ap message_places (drop-cons map i 0 l) ∙ ap (λ (x : Kind). message_count x + message_places (drop (suc i) map)) e

-- the message places, counted by a test on each byte
pub places_counted : (map : List ℕ) → message_places map ≡ count_by (λ byte. message_count (kind_of byte) == 1) map
unfolding message_places message_count
places_counted map = is_count_by message_places (λ byte. message_count (kind_of byte) == 1) refl (λ byte bytes. go (kind_of byte) (message_places bytes)) map
  where
    go : (k : Kind) (rest : ℕ) → message_count k + rest ≡ cond (message_count k == 1) (1 + rest) rest
    go message rest = refl
    go (frozen s) rest = omega arith
