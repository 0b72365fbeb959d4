-- Unclipped, and no frozen place after a message place: no word of the code has a total below that of the word decided.
use mathlib.Core.Path.{◌≡◌, refl, sym, ap, ◌∙◌, subst}
use mathlib.Core.Logic.{◌⊎◌, inl, inr}
use mathlib.Core.List.{List}
use Prim.Native.Nat.{ℕ, zero, suc, ◌/◌, ◌^◌, ◌<◌}
use native.Mathlib.Nat.{le_trans, le_of_eq, le_antisymm}
use native.Mathlib.Omega.{arith}
use lib.ListN.{get_or}
use Rattle.polar_code.specs.Code.{Code, kind_of, Coefficients}
use Rattle.polar.specs.Transform.{transform}
use Rattle.polar.specs.Tree.{Tree, map2, tree_sum, All, All2, tree_of, number}
use Rattle.polar.specs.Halves.{Coefs, join, transform_tree, coefs_at}
use Rattle.polar.proofs.TreeLaws.{number_lt, all2_by, tree_of_at}
use Rattle.polar.proofs.OneToOne.{Symbol, AllNonZero, transform_symbols, coefs_nonzero}
use Rattle.scms.specs.Mode.{Mode, Full}
use Rattle.scms.specs.Decision.{decision}
use Rattle.scms.specs.Decoder.{symbols}
use Rattle.scms.specs.Totals.{total, Least, InCode, FrozenFirst, Unclipped}
use Rattle.scms.specs.Claims.{BestWord}
use Rattle.scms.specs.Halves.{Vectors, check_nodes, variable_nodes, clipped_nodes, decode_tree, frame_tree, decode_halves, decode_tree_by}
use Rattle.scms.proofs.DecisionLaws.{smallest_least, decision_lt, decision_frozen, decision_message, KindCases, kind_cases}
use Rattle.scms.proofs.AnswerLaws.{symbols_word, symbol_decided}
use Rattle.scms.proofs.ByHalves.{same_answer, halves_unclipped}
use Rattle.scms.proofs.TreeDecoder.{decoded_symbols, word_transform}
use Rattle.scms.proofs.TreeTotals.{llr_at, tree_total, variable_total}
use Rattle.scms.proofs.Exact.{sent_total, Words, least_check, least_variable}
use Rattle.scms.proofs.TreeLists.{tree_word, sent_tree, sent_leaves}
use Rattle.scms.proofs.FrozenPlaces.{IsFrozen, IsMessage, Holds, FirstFrozen, not_both, frozen_one, message_all, message_first, first_value}

-- what the decoder by halves answers is a word of the code
decoded_holds : (m : ℕ) (mode : Mode) (k : Coefs m) (map : Tree ℕ m) (f : Vectors m) → All2 m Holds map (decode_tree m mode k map f).symbols
unfolding All2 decode_tree_by
decoded_holds zero mode k map f = λ s e. decision_frozen (kind_of map) f s e
decoded_holds (suc m) mode k map f =
    let c = check_nodes m mode.candidates k.0 f.0 f.1 in (
      decoded_holds m mode k.1 map.0 c,
      decoded_holds m mode k.2 map.1 (variable_nodes m mode.cap k.0 f.0 f.1 (decode_tree m mode k.1 map.0 c).word),
    )

-- a least over the same words
least_same : {A : Type 0} {P Q : A → Type 0} {f : A → ℕ} {t : ℕ} → ((a : A) → P a → Q a) → ((a : A) → Q a → P a) → Least P f t → Least Q f t
least_same to from l = record { by = l.by; meets = to l.by l.meets; gives = l.gives; bound = λ a q. l.bound a (from a q) }

-- there is one least
least_unique : {A : Type 0} (P : A → Type 0) (f : A → ℕ) (t r : ℕ) → Least P f t → Least P f r → t ≡ r
least_unique P f t r l k =
    le_antisymm (le_trans (l.bound k.by k.meets) (le_of_eq k.gives)) (le_trans (k.bound l.by l.meets) (le_of_eq l.gives))

-- one layer, given the least over the second half with the first as decided, s: t, the total of the word decided
module _ (m : ℕ) (mode : Mode) (full : Full mode) (k : Coefs (suc m)) (map : Tree ℕ (suc m)) (f : Vectors (suc m)) (nz : AllNonZero (suc m) k)
    (s : Tree ℕ m) (ls : All m Symbol s) (hs : All2 m Holds map.0 s) (t : ℕ)
    (second : Least (Words (suc m) (λ u. (u.0 ≡ s) × All2 m Holds map.1 u.1)) (sent_total (suc m) k f) t) where
  -- the words of the code
  abbrev CodeWords : Tree ℕ (suc m) → Type 0
  CodeWords = Words (suc m) (All2 (suc m) Holds map)

  -- the first half is all frozen: s is its only word
  first_frozen : All m IsFrozen map.0 → Least CodeWords (sent_total (suc m) k f) t
  unfolding All2
  first_frozen h = least_same
      (λ u p. (p.0, (subst (All2 m Holds map.0) (sym p.1.0) hs, p.1.1)))
      (λ u p. (p.0, (frozen_one m map.0 s u.0 h hs p.1.0, p.1.1)))
      second

  -- the second half is all message places: the check nodes' least over the first half is attained at s
  second_message : All m IsMessage map.1
      → Least (Words m (All2 m Holds map.0)) (sent_total m k.1 (check_nodes m mode.candidates k.0 f.0 f.1)) (sent_total m k.1 (check_nodes m mode.candidates k.0 f.0 f.1) s)
      → Least CodeWords (sent_total (suc m) k f) t
  unfolding All2
  second_message h first =
      let g = sent_total m k.1 (check_nodes m mode.candidates k.0 f.0 f.1) in
      let p = least_check m mode k f nz full (All2 m Holds map.0) (g s) first in
      let q = least_check m mode k f nz full (λ u. u ≡ s) (g s)
      (record { by = s; meets = (ls, refl); gives = refl; bound = λ u a. le_of_eq (ap g (sym a.1)) }) in
      let e = least_unique (Words (suc m) (λ u. u.0 ≡ s)) (sent_total (suc m) k f) (g s) t q
      (least_same (λ u a. (a.0, a.1.0)) (λ u a. (a.0, (a.1, message_all m map.1 u.1 h))) second) in
      subst (Least CodeWords (sent_total (suc m) k f)) e
      (least_same (λ u a. (a.0, (a.1, message_all m map.1 u.1 h))) (λ u a. (a.0, a.1.0)) p)

-- one place
leaf_least : (byte : ℕ) (v : List ℕ) → Least (λ (u : ℕ). (u < 64) × Holds byte u) (llr_at v) (llr_at v (decision (kind_of byte) v))
leaf_least byte v = go (kind_cases (kind_of byte))
  where
    go : KindCases (kind_of byte) → Least (λ (u : ℕ). (u < 64) × Holds byte u) (llr_at v) (llr_at v (decision (kind_of byte) v))
    go (inl e) = record {
      by = decision (kind_of byte) v;
      meets = (decision_lt byte v, λ f q. absurd (not_both (kind_of byte) f e q));
      gives = refl;
      bound = λ a p. le_trans (le_of_eq (ap (llr_at v) (decision_message (kind_of byte) v e))) (smallest_least v a p.0);
    }
    go (inr e) = record {
      by = decision (kind_of byte) v;
      meets = (decision_lt byte v, λ f q. decision_frozen (kind_of byte) v f q);
      gives = refl;
      bound = λ a p. le_of_eq (ap (llr_at v) (decision_frozen (kind_of byte) v e.0 e.1 ∙ sym (p.1 e.0 e.1)));
    }

-- by halves
tree_best : (m : ℕ) (mode : Mode) (k : Coefs m) (map : Tree ℕ m) (f : Vectors m) → Full mode → AllNonZero m k → FirstFrozen m map → (decode_tree m mode k map f).count ≡ 0
    → Least (Words m (All2 m Holds map)) (sent_total m k f) (tree_total m f (decode_tree m mode k map f).word)
unfolding All All2 AllNonZero decode_tree_by transform_tree join tree_total tree_sum map2 FirstFrozen
tree_best zero mode k map f full nz ff e = leaf_least map f
tree_best (suc m) mode k map f full nz ff e =
    let c = check_nodes m mode.candidates k.0 f.0 f.1 in
    let a = decode_tree m mode k.1 map.0 c in
    let v = variable_nodes m mode.cap k.0 f.0 f.1 a.word in
    let b = decode_tree m mode k.2 map.1 v in
    let ls = decoded_symbols m mode k.1 map.0 c in
    let wa = word_transform m mode k.1 map.0 c in
    let ea : a.count ≡ 0 = omega arith in
    let en : clipped_nodes m mode.cap k.0 f.0 f.1 a.word ≡ 0 = omega arith in
    let eb : b.count ≡ 0 = omega arith in
    let lb : All m Symbol b.word
    = subst (All m Symbol) (sym (word_transform m mode k.2 map.1 v)) (transform_symbols m k.2 b.symbols (decoded_symbols m mode k.2 map.1 v)) in
    let t = tree_total (suc m) f (join m k.0 a.word b.word) in
    let whole = variable_total m mode.cap k.0 f.0 f.1 a.word b.word en lb in
    let second : FirstFrozen m map.1 → Least (Words (suc m) (λ u. (u.0 ≡ a.symbols) × All2 m Holds map.1 u.1)) (sent_total (suc m) k f) t
    = λ fs. subst (Least (Words (suc m) (λ u. (u.0 ≡ a.symbols) × All2 m Holds map.1 u.1)) (sent_total (suc m) k f)) whole
    (least_variable m mode k f nz a.symbols a.word ls wa en (All2 m Holds map.1) (tree_total m v b.word) (tree_best m mode k.2 map.1 v full nz.2 fs eb)) in
    let hs = decoded_holds m mode k.1 map.0 c in
    let first = tree_best m mode k.1 map.0 c full nz.1 in
    either ff
    (λ h fs. first_frozen m mode full k map f nz a.symbols ls hs t (second fs) h)
    (λ fs h. second_message m mode full k map f nz a.symbols ls hs t (second (message_first m map.1 h)) h
    (subst (λ (x : Tree ℕ m). Least (Words m (All2 m Holds map.0)) (sent_total m k.1 c) (tree_total m c x)) wa (first fs ea)))
  where
    either : {A B C D E : Type 0} → (A × B) ⊎ (C × D) → (A → B → E) → (C → D → E) → E
    either (inl p) x y = x p.0 p.1
    either (inr p) x y = y p.0 p.1

module _ (code : Code) (mode : Mode) (frame : List ℕ) where
  -- the number of layers
  abbrev n : ℕ
  n = code.n

  -- the coefficients
  abbrev cs : List ℕ
  cs = code.coefs

  -- the frozen map
  abbrev map : List ℕ
  map = code.map

  -- the word decided is a word of the code, clipped or not
  pub symbols_in_code : InCode code (symbols code mode frame)
  symbols_in_code = record {
    word = symbols_word code mode frame;
    holds = λ i s l e. symbol_decided code mode frame i l ∙ decision_frozen (kind_of (get_or map i 0)) _ s e;
  }

  -- a word of the code, as a tree
  code_tree : (u : List ℕ) → InCode code u → All2 n Holds (tree_of 0 n map) (tree_of 0 n u)
  code_tree u c = all2_by Holds n (tree_of 0 n map) (tree_of 0 n u) (λ p f e.
      tree_of_at 0 u p ∙ c.holds (number p) f (number_lt p) (ap kind_of (sym (tree_of_at 0 map p)) ∙ e))

  -- no word of the code has a smaller total
  pub best_word : Full mode → Coefficients cs → Unclipped code mode frame → FrozenFirst code → BestWord code mode frame
  unfolding decode_halves
  best_word full g un ff =
      let k = coefs_at n 0 (2 ^ n / 2) cs in
      let a = decode_halves code mode frame in
      let same = same_answer code mode frame in
      let l = tree_best n mode k (tree_of 0 n map) (frame_tree n frame) full (coefs_nonzero n 0 (2 ^ n / 2) cs g) (first_value n map ff) (halves_unclipped code mode frame un) in
      let t : total n frame (transform n cs (symbols code mode frame)) ≡ tree_total n (frame_tree n frame) a.word
      = ap (λ (x : List ℕ). total n frame (transform n cs x)) (sym same.same_symbols) ∙ sent_leaves n cs frame a.symbols
      ∙ ap (tree_total n (frame_tree n frame)) (sym (word_transform n mode k (tree_of 0 n map) (frame_tree n frame))) in
      record {
        in_code = symbols_in_code;
        bound = λ u c.
            le_trans (le_of_eq t) (le_trans (l.bound (tree_of 0 n u) (tree_word n u c.word, code_tree u c)) (le_of_eq (sym (sent_tree n cs frame u c.word.long))));
      }
