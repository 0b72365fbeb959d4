-- What is said of the decoder: of one node, of all its vectors, of its answer place by place, and of the whole word.
-- Each is proved from the definitions, for every n, every cap, every m from 1 on, every code with coefficients from 1
-- to 63 and every frame whose vectors each hold a 0, and with what else its comment asks for.
use Rattle.std.specs.Prelude.{ℕ, ◌+◌, ◌*◌, ◌-◌, ◌/◌, ◌%◌, ◌^◌, ◌≤◌, ◌<◌, ◌≡◌, List, [], ◌∷◌, ◌++◌, get_or}
use Rattle.refusal.specs.Tests.{Within}
use Rattle.vector.specs.Vector.{least_to, vector_at, HasZero, AtMost, OnlyZero}
use Rattle.vector.specs.Frame.{largest_llr}
use Rattle.gf64.specs.Field.{NonZero}
use Rattle.polar_code.specs.Code.{Code, kind_of, Coefficients}
use Rattle.polar_code.specs.declared.kinds.Kind.TheVariants.{Message as message, Frozen as frozen}
use Rattle.polar.specs.Transform.{theta, phi, coefficient, transform}
use Rattle.scms.specs.Mode.{Mode, mode_of, all_candidates, TriesOne}
use Rattle.scms.specs.Nodes.{check_node, check_node_by, variable_node, clipped}
use Rattle.scms.specs.Decoder.{theta_symbol, vectors, theta_vector, phi_vector, lowered_at}
use Rattle.scms.specs.Decoder.{held_at, taken_off, held, symbols, totals, count}
use Rattle.scms.specs.Totals.{total, LeastTotal, InCode, EachZero, EachAtMost, Unclipped}

-- 64 penalties that hold a 0 and stay within a cap
pub record ZeroAndCapped (cap : ℕ) (v : List ℕ) : Type 0 where
  pub has_zero : HasZero v
  pub at_most : AtMost cap v

-- One kernel's nodes on given inputs, θ's vector and φ's. A check node's entry is never raised by a larger m, and with
-- m = 64 it is that of the full rule; where both inputs hold a 0 and stay within the cap, so do the check node's
-- vector, for every m, and the variable node's. Over a whole frame a larger m can raise what is held, since variable
-- nodes subtract
pub record NodeRules (h : ℕ) (theta phi : List ℕ) : Type 0 where
  pub larger_m : (m n b : ℕ) → 1 ≤ m → m ≤ n → b < 64
      → get_or (check_node_by n h theta phi) b 0 ≤ get_or (check_node_by m h theta phi) b 0
  pub full_rule : check_node_by all_candidates h theta phi ≡ check_node h theta phi
  pub check_keeps : (m cap : ℕ) → 1 ≤ m → NonZero h → ZeroAndCapped cap theta → ZeroAndCapped cap phi
      → ZeroAndCapped cap (check_node_by m h theta phi)
  pub variable_keeps : (cap u : ℕ) → ZeroAndCapped cap (variable_node cap h u theta phi)

-- the update rule at kernel t of layer l: θ gets the vector of the check node, φ that of the variable node, clipped
-- only after the least was subtracted
pub record UpdateRule (code : Code) (mode : Mode) (frame s : List ℕ) (l t : ℕ) : Type 0 where
  pub at_theta : get_or (vectors code mode frame s l) (theta code.n l t) []
      ≡ check_node_by mode.candidates (coefficient code.n l t code.coefs) (theta_vector code mode frame s l t)
      (phi_vector code mode frame s l t)
  pub at_phi : get_or (vectors code mode frame s l) (phi code.n l t) []
      ≡ clipped mode.cap (lowered_at code mode frame s l t).rest

-- two words have the same symbols at the places before place i
abbrev pub Agree : ℕ → List ℕ → List ℕ → Type 0
Agree i s r = (j : ℕ) → j < i → get_or s j 0 ≡ get_or r j 0

-- two words of decided symbols, s and r: what is worked out with them differs only where they differ at an earlier
-- place. For u at the θ of kernel t of layer l these are the places before the half of a block in which φ lies; for
-- what is held at place i, and for what was taken off along its line, those before i
pub record OnlyEarlier (code : Code) (mode : Mode) (frame s r : List ℕ) : Type 0 where
  pub u_earlier : (l t : ℕ) → Within 1 code.n l → t < 2 ^ code.n / 2
      → Agree (phi code.n l t - t % 2 ^ (code.n - l)) s r
      → theta_symbol code.n l t code.coefs s ≡ theta_symbol code.n l t code.coefs r
  pub held_earlier : (i : ℕ) → i < 2 ^ code.n → Agree i s r → held_at code mode frame s i ≡ held_at code mode frame r i
  pub taken_earlier : (i : ℕ) → i < 2 ^ code.n → Agree i s r
      → taken_off code mode frame s i ≡ taken_off code mode frame r i

-- Where the frame's penalties are at most the cap: every vector of every layer holds a 0 and no entry above the cap (a
-- check node needs no cap), so at a cap of at most 8,191 the sum of any entry of θ's and any of φ's is below 2^16
pub record Fits (code : Code) (mode : Mode) (frame s : List ℕ) : Type 0 where
  pub zeros : (l i : ℕ) → l ≤ code.n → i < 2 ^ code.n → HasZero (get_or (vectors code mode frame s l) i [])
  pub capped : (l i : ℕ) → l ≤ code.n → i < 2 ^ code.n → AtMost mode.cap (get_or (vectors code mode frame s l) i [])
  pub sums_fit : mode.cap ≤ largest_llr → (l t b c : ℕ) → Within 1 code.n l → t < 2 ^ code.n / 2 → b < 64 → c < 64
      → get_or (theta_vector code mode frame s l t) b 0 + get_or (phi_vector code mode frame s l t) c 0 < 2 ^ 16

-- the count is 0 exactly where the frame is unclipped
pub record CountZero (code : Code) (mode : Mode) (frame : List ℕ) : Type 0 where
  pub zero_unclipped : count code mode frame ≡ 0 → Unclipped code mode frame
  pub unclipped_zero : Unclipped code mode frame → count code mode frame ≡ 0

-- with penalties of at most 31 (Qc of at most 5), at most 256 places and Qm = 13 every frame is unclipped, for every m:
-- 31 × 256 = 7,936 is below the cap, 8,191
abbrev pub NeverClipped : Code → (candidates : ℕ) → (frame : List ℕ) → Type 0
NeverClipped code candidates frame =
    1 ≤ candidates → code.n ≤ 8 → Coefficients code.coefs → EachZero code.n frame → EachAtMost code.n 31 frame
    → Unclipped code (mode_of 13 candidates) frame

-- At every cap, clipped or not, no number of the totals exceeds n × most × 2^(n−1), most being the largest penalty of
-- the frame: an entry of layer l is at most most × 2^l, since a check node raises nothing and a variable node at most
-- doubles; so a kernel of layer l takes off at most most × 2^(l−1), and the 2^(n−l) kernels of a block most × 2^(n−1)
abbrev pub TotalsFit : (most : ℕ) → Code → Mode → (frame : List ℕ) → Type 0
TotalsFit most code mode frame =
    TriesOne mode → Coefficients code.coefs → EachZero code.n frame → EachAtMost code.n most frame → (i : ℕ)
    → i < 2 ^ code.n
    → get_or (totals code mode frame) i 0 ≤ code.n * (most * (2 ^ code.n / 2))

-- the number of place 0 is 0, clipped or not: its line has check nodes only
abbrev pub FirstTotal : Code → Mode → (frame : List ℕ) → Type 0
FirstTotal code mode frame = get_or (totals code mode frame) 0 0 ≡ 0

-- what is held for value b at a place, and the place's number in the totals
abbrev pub held_and_total : (number : ℕ) (llrs : List ℕ) (b : ℕ) → ℕ
held_and_total number llrs b = get_or llrs b 0 + number

-- Of one place in an unclipped frame, of the row of symbols decided before it, its number in the totals and the 64
-- penalties held for it: the number is the least total of the row; what is held for a value and the number are the
-- least total of the row followed by that value; and so what is held is that least total less the least of the 64
pub record LeastTotals (code : Code) (frame row : List ℕ) (number : ℕ) (llrs : List ℕ) : Type 0 where
  pub of_row : LeastTotal code frame row number
  pub with_value : (b : ℕ) → b < 64 → LeastTotal code frame (row ++ (b ∷ [])) (held_and_total number llrs b)
  pub less_least : (b : ℕ) → b < 64
      → get_or llrs b 0 ≡ held_and_total number llrs b - least_to 63 (held_and_total number llrs)

-- the decision at place i, clipped or not: a frozen place gets what it always holds, a message place the smallest value
-- whose held penalty is 0
pub record Decided (code : Code) (mode : Mode) (frame : List ℕ) (i : ℕ) : Type 0 where
  pub has_zero : HasZero (held code mode frame i)
  pub frozen_holds : (s : ℕ) → kind_of (get_or code.map i 0) ≡ frozen s → get_or (symbols code mode frame) i 0 ≡ s
  pub message_zero : kind_of (get_or code.map i 0) ≡ message
      → get_or (held code mode frame i) (get_or (symbols code mode frame) i 0) 0 ≡ 0
  pub message_smallest : kind_of (get_or code.map i 0) ≡ message
      → (b : ℕ) → b < get_or (symbols code mode frame) i 0 → get_or (held code mode frame i) b 0 ≡ 0 → ⊥

-- In an unclipped frame, where all frozen places come first: the word decided is of the code, and every word of the
-- code has a total at least as large as its
pub record BestWord (code : Code) (mode : Mode) (frame : List ℕ) : Type 0 where
  pub in_code : InCode code (symbols code mode frame)
  pub bound : (u : List ℕ) → InCode code u
      → total code.n frame (transform code.n code.coefs (symbols code mode frame))
      ≤ total code.n frame (transform code.n code.coefs u)

-- the frame is that of the codeword x: each place's penalties are 0 at its symbol and nowhere else
abbrev pub Sent : (n : ℕ) (frame x : List ℕ) → Type 0
Sent n frame x = (i : ℕ) → i < 2 ^ n → OnlyZero (vector_at frame i) (get_or x i 0)

-- without noise: where u is a word of the code and the frame is that of its codeword, the decoder answers u, at every
-- cap from 1 on and with every m, clipped or not
abbrev pub Noiseless : Code → Mode → (frame u : List ℕ) → Type 0
Noiseless code mode frame u =
    1 ≤ mode.cap → TriesOne mode → Coefficients code.coefs → InCode code u
    → Sent code.n frame (transform code.n code.coefs u) → symbols code mode frame ≡ u
