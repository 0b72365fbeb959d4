-- What the parts of `decode_place` ensure, put together.
use Rattle.std.proofs.Common.{ℕ, ◌≤◌, ◌+◌, ◌*◌, List, [], ◌∷◌, ap, ◌∙◌, rules, length, get_or}
use native.Mathlib.Omega.{arith}
use Rattle.vector.specs.Vector.{vector_at}
use Rattle.polar_code.specs.Code.{kind_of}
use Rattle.scms.specs.Decision.{decision}
use Rattle.vector.proofs.SliceLaws.{stored_is}
use Rattle.decoder.proofs.Laws.{set_only}
use Rattle.decoder.proofs.block.decode_place.Goals as goal

pub returns : goal.returns
returns c =
    let a = c.args in
    let v = c.load_vector-v.ensures in
    let symbol = c.decide-s.ensures ∙ ap (decision (kind_of (get_or a.map.now 0 0))) v in
    let fits : 64 * (0 + 1) ≤ length a.report.now = omega arith in
    record {
      totals_are = set_only a.totals.now a.block.taken c.requires.totals_long;
      word_is = set_only a.word.now _ c.requires.word_long ∙ ap (λ (x : ℕ). x ∷ []) symbol;
      symbols_are = set_only a.symbols.now _ c.requires.symbols_long ∙ ap (λ (x : ℕ). x ∷ []) symbol;
      report_is = ap (λ (xs : List ℕ). vector_at xs 0) c.store.ensures
          ∙ stored_is a.report.now 0 fits c.load_vector-v.result (search rules) ∙ v;
    }
