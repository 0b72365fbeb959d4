-- What the rows that judge a code say of it, and the rows of a longer table that go by its sizes.
use mathlib.Core.Path.{◌≡◌, ap₂, ◌∙◌}
use mathlib.Core.List.{List, ◌++◌}
use Prim.Native.Nat.{ℕ, ◌*◌, ◌/◌, ◌^◌}
use borrow.Author.Tests.{ne_eqb, eqb-false}
use lib.ListN.{length}
use Rattle.refusal.specs.Table.{Row, refusal_of, NoneFits}
use Rattle.refusal.proofs.Laws.{same_after}
use Rattle.refusal.proofs.Within.{inside_within, within_inside, none_within, within_none, false_equal, equal_false}
use Rattle.polar_code.specs.Code.{Code, message_places, code_table, code_sizes, IsCode}
use Rattle.polar_code.specs.Sizes.{places_of, kernels_of}
use Rattle.polar_code.proofs.SizeLaws.{places_are, kernels_are}

module _ (code : Code) where
  -- the number of layers
  abbrev n : ℕ
  n = code.n

  -- the frozen map
  abbrev map : List ℕ
  map = code.map

  -- the coefficients
  abbrev cs : List ℕ
  cs = code.coefs

  -- none of the rows on its sizes fits, nor one of those on its bytes: a code
  pub rows_code : NoneFits (code_sizes code) → NoneFits (code_table map cs) → IsCode code
  rows_code sizes bytes = record {
    layers = inside_within 1 8 n sizes.0;
    map_long = false_equal (length map) (2 ^ n) sizes.1.0;
    coefs_long = false_equal (length cs) (n * (2 ^ n / 2)) sizes.1.1.0;
    map_bytes = none_within 0 1 0 map bytes.0;
    some_message = eqb-false (message_places map) 0 bytes.1.0;
    nonzero = none_within 1 63 1 cs bytes.1.1.0;
  }

  -- and the other way round: none of the rows on its layers and lengths fits a code
  pub sizes_of_code : IsCode code → NoneFits (code_sizes code)
  sizes_of_code c = (
    within_inside 1 8 n c.layers,
    (equal_false (length map) (2 ^ n) c.map_long, (equal_false (length cs) (n * (2 ^ n / 2)) c.coefs_long, tt)),
  )

  -- nor one on its bytes
  pub code_bytes : IsCode code → NoneFits (code_table map cs)
  code_bytes c = (
    within_none 0 1 0 map c.map_bytes,
    (ne_eqb (message_places map) 0 c.some_message, (within_none 1 63 1 cs c.nonzero, tt)),
  )

  -- rows that come after those on the sizes, by the places and the kernels that `place_count` and `kernel_count` give:
  -- where the row on n is passed, these are the code's
  pub after_both_sizes : (rest : (places kernels : ℕ) → List Row) {r : ℕ}
      → r ≡ refusal_of (code_sizes code ++ rest (places_of n) (kernels_of n))
      → r ≡ refusal_of (code_sizes code ++ rest (2 ^ n) (n * (2 ^ n / 2)))
  after_both_sizes rest e =
      e
      ∙ same_after (code_sizes code) (rest (places_of n) (kernels_of n)) (rest (2 ^ n) (n * (2 ^ n / 2))) (λ none.
      let few = (inside_within 1 8 n none.0).most in
      ap₂ (λ (places kernels : ℕ). refusal_of (rest places kernels)) (places_are n few) (kernels_are n few))

  -- and by the places alone
  pub after_sizes : (rest : ℕ → List Row) {r : ℕ} → r ≡ refusal_of (code_sizes code ++ rest (places_of n))
      → r ≡ refusal_of (code_sizes code ++ rest (2 ^ n))
  after_sizes rest = after_both_sizes (λ places kernels. rest places)
