-- Totals of words, from the frame's own penalties; the words of the code; and which frames are unclipped.
use Rattle.std.specs.Prelude.{ℕ, ◌/◌, ◌^◌, ◌≤◌, ◌<◌, ◌≡◌, List, length, get_or, take}
use Rattle.refusal.specs.Tests.{Within}
use Rattle.vector.specs.Vector.{vector_at, sum_to, HasZero, AtMost}
use Rattle.polar_code.specs.Code.{Code, kind_of, IsWord}
use Rattle.polar_code.specs.declared.kinds.Kind.TheVariants.{Message as message, Frozen as frozen}
use Rattle.polar.specs.Transform.{transform}
use Rattle.scms.specs.Mode.{Mode}
use Rattle.scms.specs.Decoder.{lowered_at, symbols}

-- the total of a word x: the sum, over its N sent symbols, of the frame's penalty for each
unfoldable pub total : (n : ℕ) (frame x : List ℕ) → ℕ
total n frame x = sum_to (2 ^ n) (λ j. get_or (vector_at frame j) (get_or x j 0) 0)

-- t is the least of what f gives to those for which P holds: one of them attains it, and none is below it
pub record Least {A : Type 0} (P : A → Type 0) (f : A → ℕ) (t : ℕ) : Type 0 where
  pub by : A
  pub meets : P by
  pub gives : f by ≡ t
  pub bound : (a : A) → P a → t ≤ f a

-- u is a word before the transform that begins with a row of symbols; every later place is free, frozen places too
pub record Begins (n : ℕ) (row u : List ℕ) : Type 0 where
  pub word : IsWord n u
  pub begins : take (length row) u ≡ row

-- t is the least total of a row of symbols
abbrev pub LeastTotal : Code → (frame row : List ℕ) → ℕ → Type 0
LeastTotal code frame row t =
    Least (Begins code.n row) (λ u. total code.n frame (transform code.n code.coefs u)) t

-- u, before the transform, is a word of the code: every frozen place has the symbol of its kind, 0
pub record InCode (code : Code) (u : List ℕ) : Type 0 where
  pub word : IsWord code.n u
  pub holds : (i s : ℕ) → i < 2 ^ code.n → kind_of (get_or code.map i 0) ≡ frozen s → get_or u i 0 ≡ s

-- all frozen places come first: none comes after a message place
abbrev pub FrozenFirst : Code → Type 0
FrozenFirst code =
    (i j s : ℕ) → i < j → j < 2 ^ code.n → kind_of (get_or code.map i 0) ≡ message
    → kind_of (get_or code.map j 0) ≡ frozen s → ⊥

-- each of the frame's vectors holds a 0
abbrev pub EachZero : (n : ℕ) → List ℕ → Type 0
EachZero n frame = (i : ℕ) → i < 2 ^ n → HasZero (vector_at frame i)

-- each of the frame's entries is at most a number
abbrev pub EachAtMost : (n most : ℕ) → List ℕ → Type 0
EachAtMost n most frame = (i : ℕ) → i < 2 ^ n → AtMost most (vector_at frame i)

-- the frame is unclipped: in no layer has any kernel's variable node an entry above the cap after the least is
-- subtracted
abbrev pub Unclipped : Code → Mode → (frame : List ℕ) → Type 0
Unclipped code mode frame =
    (l t c : ℕ) → Within 1 code.n l → t < 2 ^ code.n / 2 → c < 64
    → get_or (lowered_at code mode frame (symbols code mode frame) l t).rest c 0 ≤ mode.cap
