-- Reading a message place by place: what is read before place j, and the message from j on, are the whole message.
use mathlib.Core.Path.{◌≡◌, sym, ap, ap₂, ◌∙◌, subst}
use mathlib.Core.List.{List, ◌++◌}
use Prim.Native.Nat.{ℕ, suc, ◌+◌, ◌≤◌, ◌<◌}
use native.Mathlib.Numerals.{add-one}
use native.Mathlib.Omega.{arith}
use lib.ListN.{length, get_or, take, drop, set, length-set}
use lib.Seq.{drop-cons, take-suc-set, append_snoc}
use Rattle.polar_code.specs.Code.{kind_of, message_count, message_places}
use Rattle.polar_code.specs.declared.kinds.Kind.{Kind}
use Rattle.polar_code.specs.declared.kinds.Kind.TheVariants.{Message as message, Frozen as frozen}
use Rattle.polar.specs.Encode.{symbol_at, rest_after}
use Rattle.polar.specs.Message.{with_place, message_of}
use Rattle.polar_code.proofs.MapLaws.{places_from}
use Rattle.polar.proofs.MessageLaws.{next_placed, next_left}

-- how far reading has come at place j: `next` symbols of the message are read
pub record ReadTo (map word before read : List ℕ) (next j : ℕ) : Type 0 where
  pub within : j ≤ length map
  pub long : length read ≡ length before
  pub left : next + message_places (drop j map) ≡ length before
  pub is : message_of map word ≡ take next read ++ message_of (drop j map) (drop j word)

-- the same of equal lists and numbers
pub as_read : {map word before read read' : List ℕ} {next next' j : ℕ} → read' ≡ read → next' ≡ next → ReadTo map word before read next j
    → ReadTo map word before read' next' j
as_read {map} {word} {before} {read} {read'} {next} {next'} {j} er en h =
    subst (λ (x : List ℕ). ReadTo map word before x next' j) (sym er) (subst (λ (x : ℕ). ReadTo map word before read x j) (sym en) h)

module _ (map word : List ℕ) (j : ℕ) (l : j < length map) {k : Kind} (e : kind_of (get_or map j 0) ≡ k) where
  -- the message from place j on: the place's own symbol, by its kind, and those after it
  message_from : message_of (drop j map) (drop j word) ≡ with_place k (get_or word j 0) (message_of (drop (j + 1) map) (drop (j + 1) word))
  unfolding message_of symbol_at rest_after
  message_from =
      ap (λ (x : List ℕ). message_of x (drop j word)) (drop-cons map j 0 l)
      ∙ ap (λ (x : Kind). with_place x (get_or (drop j word) 0 0) (message_of (drop (suc j) map) (drop 1 (drop j word)))) e
      ∙ ap₂ (λ (s : ℕ) (w : List ℕ). with_place k s (message_of (drop (suc j) map) w)) (next_placed word j) (next_left word j)
      ∙ ap (λ (x : ℕ). with_place k (get_or word j 0) (message_of (drop x map) (drop (j + 1) word))) (sym (add-one j))

module _ (map word before read : List ℕ) (next j : ℕ) (l : j < length map) (h : ReadTo map word before read next j) where
  -- a message place leaves room for its symbol
  pub room_left : kind_of (get_or map j 0) ≡ message → next < length read
  unfolding message_count
  room_left e = let p = places_from map j l e in let q = h.left in let s = h.long in omega arith

  -- one place more: a message place, whose symbol is read
  pub read_more : kind_of (get_or map j 0) ≡ message → ReadTo map word before (set read next (get_or word j 0)) (next + 1) (j + 1)
  unfolding message_count with_place
  read_more e =
      let p = places_from map j l e in
      let q = ap (λ (x : ℕ). message_places (drop x map)) (add-one j) in
      let rest = message_of (drop (j + 1) map) (drop (j + 1) word) in
      record {
        within = omega arith;
        long = length-set read next (get_or word j 0) ∙ h.long;
        left = let r = h.left in omega arith;
        is = h.is ∙ ap (λ (x : List ℕ). take next read ++ x) (message_from map word j l e)
            ∙ sym (append_snoc (take next read) (get_or word j 0) rest)
            ∙ ap (λ (x : List ℕ). x ++ rest) (sym (take-suc-set read next (get_or word j 0) (room_left e)))
            ∙ ap (λ (x : ℕ). take x (set read next (get_or word j 0)) ++ rest) (sym (add-one next));
      }

  -- or a frozen place, which is passed over
  pub read_past : {s : ℕ} → kind_of (get_or map j 0) ≡ frozen s → ReadTo map word before read next (j + 1)
  unfolding message_count with_place
  read_past e =
      let p = places_from map j l e in
      let q = ap (λ (x : ℕ). message_places (drop x map)) (add-one j) in
      record {
        within = omega arith;
        long = h.long;
        left = let r = h.left in omega arith;
        is = h.is ∙ ap (λ (x : List ℕ). take next read ++ x) (message_from map word j l e);
      }
