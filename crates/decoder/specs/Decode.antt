-- What `decode` promises.
use Rattle.std.specs.Prelude.{ℕ, ◌*◌, ◌-◌, ◌/◌, ◌^◌, ◌≤◌, ◌<◌, ◌≡◌, cond, List, [], ◌∷◌, eqb, get_or, take, replicate, Result}
use Rattle.std.specs.Borrow.{MutBor}
use Rattle.refusal.specs.Returned.{Returned}
use Rattle.vector.specs.Vector.{vector_at}
use Rattle.polar_code.specs.Code.{Code}
use Rattle.scms.specs.Mode.{Mode, mode_of, Full}
use Rattle.scms.specs.Decoder as scms
use Rattle.scms.specs.Totals.{LeastTotal, FrozenFirst, Unclipped}
use Rattle.scms.specs.Claims.{CountZero, LeastTotals, Decided, BestWord}
use Rattle.refusal.specs.Kinds.{returned}
use Rattle.refusal.specs.declared.kinds.Refusal.{Refusal}
use Rattle.decoder_refusal.specs.Refusals.{Settings, Lent, lent_of, decode_refusal}

-- what the buffers lent to `decode` hold when it returns: the work buffer, the symbols, the report and the totals, in
-- this order
abbrev pub lent_after : MutBor (List ℕ) × (MutBor (List ℕ) × (MutBor (List ℕ) × (MutBor (List ℕ) × Unit {0}))) → Lent
lent_after l = lent_of l.0.now l.1.0.now l.1.1.0.now l.1.1.1.0.now

module _ (code : Code) (settings : Settings) (frame : List ℕ) (lent : Lent) where
  -- the number of the refusal, 0 where the call is accepted
  abbrev refusal : ℕ
  refusal = decode_refusal code settings frame lent

  -- the call is accepted: no row of the table fits
  abbrev pub Accepted : Type 0
  Accepted = refusal ≡ 0

  -- what the nodes go by: the cap, 2^Qm − 1, and how many values a check node tries
  abbrev mode : Mode
  mode = mode_of settings.qm settings.candidates

  -- what is made where the call is accepted, or on a refusal what is kept
  abbrev either : List ℕ → List ℕ → List ℕ
  either made kept = cond (eqb refusal 0) made kept

  -- the answer: the refusal, or the count of clipped entries over all variable nodes
  unfoldable pub decode_answer : Returned
  decode_answer = record { number = refusal; values = either (scms.count code mode frame ∷ []) [] }

  -- the buffer for the symbols: those decided
  unfoldable pub decode_symbols : List ℕ
  decode_symbols = either (scms.symbols code mode frame) lent.symbols

  -- the buffer for the report: for each place, the 64 penalties held when it was decided
  unfoldable pub decode_report : List ℕ
  decode_report = either (scms.report code mode frame) lent.report

  -- the buffer for the totals: for each place, what was taken off along its line
  unfoldable pub decode_totals : List ℕ
  decode_totals = either (scms.totals code mode frame) lent.totals

  -- the work buffer: all zeros
  unfoldable pub decode_work : List ℕ
  decode_work = either (replicate (65 * 2 ^ code.n) 0) lent.work

  -- The promise, for every input. First the answer r and the lent buffers at exit; the frame, the map and the
  -- coefficients are lent to be read only. Then, where the call is accepted, the same without the cases: the count
  -- answered, the symbols, what the report holds for each place, and the totals. Then what holds of these: the count is
  -- 0 exactly where the frame is unclipped, and always with Qm = 13; clipped or not, the number of place 0 in the
  -- totals is 0, which is the least total of all words, none exceeds n × (2^Qc − 1) × 2^(n−1), which is at most 31,744,
  -- and each decision; in an unclipped frame a place's number in the totals is the least total of the row decided
  -- before it, and with what is held for a value that of the row followed by the value; and in an unclipped frame,
  -- where all frozen places come first, no word of the code has a smaller total than the word decided
  pub record Decoded (after : Lent) (r : Result ℕ Refusal) : Type 0 where
    pub answer : returned r ≡ decode_answer
    pub symbols_are : after.symbols ≡ decode_symbols
    pub report_is : after.report ≡ decode_report
    pub totals_are : after.totals ≡ decode_totals
    pub work_is : after.work ≡ decode_work
    pub counted : Accepted → returned r ≡ record { number = 0; values = scms.count code mode frame ∷ [] }
    pub decided : Accepted → after.symbols ≡ scms.symbols code mode frame
    pub reported : Accepted → (i : ℕ) → i < 2 ^ code.n → vector_at after.report i ≡ scms.held code mode frame i
    pub totalled : Accepted → after.totals ≡ scms.totals code mode frame
    pub count_zero : Accepted → CountZero code mode frame
    pub none_clipped : Accepted → settings.qm ≡ 13 → scms.count code mode frame ≡ 0
    pub first_total : Accepted → get_or after.totals 0 0 ≡ 0
    pub least_of_all : Accepted → LeastTotal code frame [] 0
    pub totals_fit : Accepted → (i : ℕ) → i < 2 ^ code.n
        → get_or after.totals i 0 ≤ code.n * ((2 ^ settings.qc - 1) * (2 ^ code.n / 2))
    pub least_totals : Accepted → Full mode → Unclipped code mode frame → (i : ℕ) → i < 2 ^ code.n
        → LeastTotals code frame (take i after.symbols) (get_or after.totals i 0) (vector_at after.report i)
    pub decisions : Accepted → (i : ℕ) → i < 2 ^ code.n → Decided code mode frame i
    pub best_word : Accepted → Full mode → Unclipped code mode frame → FrozenFirst code → BestWord code mode frame
