-- The laws of a number in columns: writing is one to one, and reading undoes it.
use mathlib.Core.Path.{◌≡◌, refl, sym, ap, ap₂, ◌∙◌, subst}
use mathlib.Core.Bool.{true}
use mathlib.Core.List.{List, [], ◌∷◌, ◌++◌}
use Prim.Native.Nat.{ℕ, zero, suc, ◌+◌, ◌-◌, ◌*◌, ◌/◌, ◌%◌, ◌^◌, ◌<◌}
use native.Mathlib.Nat.{pow-suc}
use native.Mathlib.Omega.{arith}
use lib.ListN.{length, length-append}
use Rattle.std.proofs.lemmas.Bool.Decides.{nat_tests}
use Rattle.columns.specs.Columns.{digit, column, before, field}
use Rattle.columns.specs.Reading.{spelled_from, spelled, same, is_field}

-- ---- lengths

-- as many columns as were asked for
length_before : (w v : ℕ) → length (before w v) ≡ w
unfolding before
length_before zero v = refl
length_before (suc w) v =
    length-append (before w (v / 10)) (column v ∷ []) ∙ (let e = length_before w (v / 10) in omega arith)

-- so has a number in columns
pub length_field : (w v : ℕ) → length (field w v) ≡ w
unfolding field
length_field zero v = refl
length_field (suc w) v =
    length-append (before w (v / 10)) (digit v ∷ []) ∙ (let e = length_before w (v / 10) in omega arith)

-- ---- what is written spells the number

-- one column more
spelled_more : (v : ℕ) (bytes : List ℕ) (byte : ℕ) → spelled_from v (bytes ++ byte ∷ []) ≡ spelled_from v bytes * 10 + (byte - 48)
unfolding spelled_from
spelled_more v [] byte = refl
spelled_more v (b ∷ bytes) byte = spelled_more (v * 10 + (b - 48)) bytes byte

-- a digit counts as itself
digit_counts : (v : ℕ) → digit v - 48 ≡ v % 10
unfolding digit
digit_counts v = omega arith

-- and so does a column before the last; a blank counts as 0
column_counts : (v : ℕ) → column v - 48 ≡ v % 10
unfolding column
column_counts v = let d = digit_counts v in grind (arith, nat_tests)

-- the columns before the last spell what is left of the number, if it has no more digits than there are columns
before_spelled : (w v : ℕ) → v < 10 ^ w → spelled (before w v) ≡ v
unfolding before spelled spelled_from
before_spelled zero v l = omega arith
before_spelled (suc w) v l =
    let p = pow-suc 10 w in
    let ih = before_spelled w (v / 10) (omega arith) in
    spelled_more 0 (before w (v / 10)) (column v) ∙ ap₂ (λ (a b : ℕ). a * 10 + b) ih (column_counts v) ∙ (let e : v / 10 * 10 + v % 10 ≡ v = omega arith in e)

-- a number in columns spells the number
pub field_spelled : (w v : ℕ) → v < 10 ^ w → spelled (field w v) ≡ v
unfolding field spelled spelled_from
field_spelled zero v l = omega arith
field_spelled (suc w) v l =
    let p = pow-suc 10 w in
    let ih = before_spelled w (v / 10) (omega arith) in
    spelled_more 0 (before w (v / 10)) (digit v) ∙ ap₂ (λ (a b : ℕ). a * 10 + b) ih (digit_counts v) ∙ (let e : v / 10 * 10 + v % 10 ≡ v = omega arith in e)

-- so what is written is one to one
pub one_to_one : (w a b : ℕ) → a < 10 ^ w → b < 10 ^ w → field w a ≡ field w b → a ≡ b
one_to_one w a b l m e = sym (field_spelled w a l) ∙ ap spelled e ∙ field_spelled w b m

-- whatever is written in w columns spells a number of at most w digits
before_small : (w v : ℕ) → spelled (before w v) < 10 ^ w
unfolding before spelled spelled_from
before_small zero v = omega arith
before_small (suc w) v =
    let p = pow-suc 10 w in
    let ih = before_small w (v / 10) in
    let e = spelled_more 0 (before w (v / 10)) (column v) in
    let c = column_counts v in
    omega arith

-- so does a number in columns
pub field_small : (w v : ℕ) → spelled (field w v) < 10 ^ w
unfolding field spelled spelled_from
field_small zero v = omega arith
field_small (suc w) v =
    let p = pow-suc 10 w in
    let ih = before_small w (v / 10) in
    let e = spelled_more 0 (before w (v / 10)) (digit v) in
    let c = digit_counts v in
    omega arith

-- ---- the test of two lists

-- a list is the same as itself
pub same_refl : (xs : List ℕ) → same xs xs ≡ true
unfolding same
same_refl [] = refl
same_refl (x ∷ xs) = grind (arith, nat_tests, same_refl xs)

-- and lists that are the same are equal
pub same_true : (xs ys : List ℕ) → same xs ys ≡ true → xs ≡ ys
unfolding same
same_true [] [] e = refl
same_true [] (y ∷ ys) e = cc
same_true (x ∷ xs) [] e = cc
same_true (x ∷ xs) (y ∷ ys) e = grind (arith, nat_tests, same_true xs ys)

-- ---- reading

-- what is accepted is what is written for a number of at most w digits, namely the one that is spelled
pub accepted_written : (w : ℕ) (bytes : List ℕ) → is_field w bytes ≡ true → (bytes ≡ field w (spelled bytes)) × (spelled bytes < 10 ^ w)
unfolding is_field
accepted_written w bytes e =
    let q = same_true bytes (field w (spelled bytes)) e in
    (q, subst (λ (v : ℕ). v < 10 ^ w) (sym (ap spelled q)) (field_small w (spelled bytes)))

-- and what is written for such a number is accepted
pub written_accepted : (w v : ℕ) → v < 10 ^ w → is_field w (field w v) ≡ true
unfolding is_field
written_accepted w v l = ap (λ (k : ℕ). same (field w v) (field w k)) (field_spelled w v l) ∙ same_refl (field w v)
