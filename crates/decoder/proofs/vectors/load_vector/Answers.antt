-- A number below N is a vector of the frame, any other one of the work buffer.
use Rattle.std.proofs.Common.{◌≡◌, ◌+◌, ◌-◌, ◌++◌, sym, ap, ◌∙◌}
use native.Mathlib.Omega.{arith}
use Rattle.vector.specs.Vector.{vector_at}
use Rattle.vector.proofs.SliceLaws.{vector_first, vector_second}
use Rattle.decoder.proofs.vectors.load_vector.Goals as goal

pub returns-then-i-places : goal.returns-then-i-places
returns-then-i-places c =
    c.vector_of.ensures ∙ sym (vector_first c.args.places c.args.frame.now c.args.work.now c.args.i c.requires.whole c.if-i-places.true)

pub returns : goal.returns
returns c =
    let n = c.args.places in
    let e : n + (c.args.i - n) ≡ c.args.i = omega arith in
    c.vector_of-2.ensures
    ∙ sym (vector_second n c.args.frame.now c.args.work.now (c.args.i - n) c.requires.whole) ∙ ap (vector_at (c.args.frame.now ++ c.args.work.now)) e
