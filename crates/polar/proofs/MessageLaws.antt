-- The laws of the word that a message makes.
use mathlib.Core.Path.{◌≡◌, refl, sym, ap, ap₂, ◌∙◌, subst}
use mathlib.Core.Bool.{Bool, true, false, cond}
use mathlib.Core.List.{List, [], ◌∷◌, ◌++◌}
use Prim.Native.Nat.{ℕ, zero, suc, ◌+◌, ◌<◌}
use native.Mathlib.Nat.{add-zero}
use native.Mathlib.Numerals.{add-one}
use native.Mathlib.Omega.{arith}
use lib.Dec.{eqb, lit<}
use lib.ListN.{length, get_or, take, drop, set}
use Rattle.std.proofs.Common.{Option, None, Some, Bor, Iter, MatchOption, option_copied, unwrap_or}
use Rattle.std.proofs.lemmas.List.{nil_from_length}
use lib.Seq.{drop-cons, drop-drop, get_or-drop, take-suc-set, append_snoc}
use Rattle.polar_code.specs.Code.{kind_of, message_count, message_places}
use Rattle.polar_code.specs.declared.kinds.Kind.{Kind}
use Rattle.polar_code.specs.declared.kinds.Kind.TheVariants.{Message as message, Frozen as frozen}
use Rattle.polar.specs.Encode.{symbol_at, rest_after, word_before}
use Rattle.polar.specs.Message.{with_place, message_of}

-- the word has a symbol for each map byte
pub length_word : (map symbols : List ℕ) → length (word_before map symbols) ≡ length map
unfolding word_before
length_word [] symbols = refl
length_word (b ∷ map) symbols = ap suc (length_word map (rest_after (kind_of b) symbols))

-- a place holds a symbol, and what is left of the message is symbols, if the message is
kind_symbol : (byte : ℕ) (symbols : List ℕ) → ((i : ℕ) → get_or symbols i 0 < 64) → symbol_at (kind_of byte) symbols < 64
unfolding symbol_at kind_of
kind_symbol byte symbols h = go (eqb byte 0)
  where
    go : (t : Bool) → symbol_at (cond t message (frozen 0)) symbols < 64
    go true = h 0
    go false = lit< tt

-- and the symbols that are left are symbols
rest_symbols : (kind : Kind) (symbols : List ℕ) → ((i : ℕ) → get_or symbols i 0 < 64) → (i : ℕ) → get_or (rest_after kind symbols) i 0 < 64
unfolding rest_after
rest_symbols message symbols h i = subst (λ (x : ℕ). x < 64) (sym (get_or-drop 1 symbols i 0)) (h (1 + i))
rest_symbols (frozen s) symbols h i = h i

-- the word before the transform of a message of symbols is one of symbols
pub word_symbols : (map symbols : List ℕ) → ((i : ℕ) → get_or symbols i 0 < 64) → (i : ℕ) → get_or (word_before map symbols) i 0 < 64
unfolding word_before
word_symbols [] symbols h i = lit< tt
word_symbols (b ∷ map) symbols h zero = kind_symbol b symbols h
word_symbols (b ∷ map) symbols h (suc i) = word_symbols map (rest_after (kind_of b) symbols) (rest_symbols (kind_of b) symbols h) i

-- a frozen place of the word holds the symbol of its kind
pub word_frozen : (map symbols : List ℕ) (i s : ℕ) → i < length map → kind_of (get_or map i 0) ≡ frozen s → get_or (word_before map symbols) i 0 ≡ s
unfolding word_before symbol_at
word_frozen [] symbols i s l e = absurd (omega arith)
word_frozen (b ∷ map) symbols zero s l e = holds (kind_of b) e
  where
    holds : (k : Kind) → k ≡ frozen s → symbol_at k symbols ≡ s
    holds k q = ap (λ (x : Kind). symbol_at x symbols) q
word_frozen (b ∷ map) symbols (suc i) s l e = word_frozen map (rest_after (kind_of b) symbols) i s (omega arith) e

-- a message is read back from its word
pub message_back : (map symbols : List ℕ) → length symbols ≡ message_places map → message_of map (word_before map symbols) ≡ symbols
unfolding message_of word_before message_places with_place symbol_at rest_after message_count
message_back [] [] e = refl
message_back [] (x ∷ symbols) e = absurd (omega arith)
message_back (b ∷ map) symbols e = go (kind_of b) symbols e (message_back map)
  where
    go : (k : Kind) (xs : List ℕ) → length xs ≡ message_count k + message_places map
        → ((ys : List ℕ) → length ys ≡ message_places map → message_of map (word_before map ys) ≡ ys)
        → with_place k (symbol_at k xs) (message_of map (word_before map (rest_after k xs))) ≡ xs
    go message [] q ih = absurd (omega arith)
    go message (x ∷ xs) q ih = ap (λ (ys : List ℕ). x ∷ ys) (ih xs (omega arith))
    go (frozen s) xs q ih = ih xs (omega arith)

-- the map from place i on: the place itself, by its kind, and those after it
module _ (map : List ℕ) (i : ℕ) (l : i < length map) {k : Kind} (e : kind_of (get_or map i 0) ≡ k) where
  -- a word that holds the right symbols before place i, with the right one stored there
  pub word_from : (symbols word : List ℕ) → i < length word
      → take i word ++ word_before (drop i map) symbols
      ≡ take (suc i) (set word i (symbol_at k symbols)) ++ word_before (drop (suc i) map) (rest_after k symbols)
  unfolding word_before
  word_from symbols word s =
      ap (λ (x : List ℕ). take i word ++ word_before x symbols) (drop-cons map i 0 l)
      ∙ ap (λ (x : Kind). take i word ++ symbol_at x symbols ∷ word_before (drop (suc i) map) (rest_after x symbols)) e
      ∙ sym (append_snoc (take i word) (symbol_at k symbols) (word_before (drop (suc i) map) (rest_after k symbols)))
      ∙ ap (λ (x : List ℕ). x ++ word_before (drop (suc i) map) (rest_after k symbols)) (sym (take-suc-set word i (symbol_at k symbols) s))

-- one place more: what is written before place j, and the word that the map makes from j on of the symbols that are left,
-- stay the whole word
module _ (map word left : List ℕ) (j : ℕ) {kind : Kind} (l : j < length map) (s : j < length word) (e : kind_of (get_or map j 0) ≡ kind) where
  -- the symbol stored is the one of the place's kind
  pub place_more : {x : ℕ} {after whole : List ℕ} → x ≡ symbol_at kind left → after ≡ rest_after kind left
      → take j word ++ word_before (drop j map) left ≡ whole → take (j + 1) (set word j x) ++ word_before (drop (j + 1) map) after ≡ whole
  place_more {x} {after} ex ea h =
      ap (λ (i : ℕ). take i (set word j x) ++ word_before (drop i map) after) (add-one j)
      ∙ ap₂ (λ (y : ℕ) (z : List ℕ). take (suc j) (set word j y) ++ word_before (drop (suc j) map) z) ex ea
      ∙ sym (word_from map j l e left word s) ∙ h

-- the next symbol of those that are left, 0 where none is, and those left after it
pub next_symbol : (r : Option (Bor ℕ)) (left after : Iter ℕ)
    → MatchOption r ((length left.rest.now ≡ 0) × (after ≡ left)) (λ y. left.rest.now ≡ y.now ∷ after.rest.now)
    → (unwrap_or (option_copied r) 0 ≡ symbol_at message left.rest.now) × (after.rest.now ≡ rest_after message left.rest.now)
unfolding symbol_at rest_after
next_symbol None left after h = let none = nil_from_length left.rest.now h.0 in (rw none refl, ap (λ (i : Iter ℕ). i.rest.now) h.1 ∙ none ∙ sym (ap (drop 1) none))
next_symbol (Some y) left after h = (rw h refl, rw h refl)

-- the next symbol of those that are left, by its index
pub next_placed : (symbols : List ℕ) (next : ℕ) → symbol_at message (drop next symbols) ≡ get_or symbols next 0
unfolding symbol_at
next_placed symbols next = get_or-drop next symbols 0 0 ∙ ap (λ (x : ℕ). get_or symbols x 0) (add-zero next)

-- and those left after it
pub next_left : (symbols : List ℕ) (next : ℕ) → rest_after message (drop next symbols) ≡ drop (next + 1) symbols
unfolding rest_after
next_left symbols next = drop-drop 1 next symbols
