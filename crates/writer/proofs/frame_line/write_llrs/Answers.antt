-- No number, one more, and all of them with a line feed after them.
use Rattle.std.proofs.Common.{ℕ, ◌*◌, ◌<◌, sym, ap, ap₂, ◌∙◌}
use native.Mathlib.Omega.{arith}
use lib.ListN.{get_or}
use Rattle.vector.specs.Vector.{joined}
use Rattle.vector.proofs.JoinedLaws.{part_long, put_none, put_room, put_more, put_all}
use Rattle.columns.specs.Columns.{field, fields, line}
use Rattle.columns.proofs.LinesLaws.{fields_joined, feed_put}
use Rattle.writer.proofs.frame_line.write_llrs.Goals as goal

pub loop-i-init : goal.loop-i-init
loop-i-init c = let long = c.requires.out_long in put_none (omega arith)

pub loop-i-preserved : goal.loop-i-preserved
loop-i-preserved c =
    let i = c.loop-i.i in
    let below : i < 64 = (let long = c.requires.llrs_long in omega arith) in
    let put = c.loop-i.invariant in
    put_more put below c.write_number.new.out c.write_number.auto.out
    (c.write_number.ensures ∙ ap₂ field (part_long (4 * i) 4 c.loop-i.out (put_room put below)) c.from.ensures)

pub returns : goal.returns
unfolding line
returns c =
    let llrs = c.args.llrs.now in
    let put = c.loop-i.invariant in
    feed_put 256 c.loop-i.out (fields 4 llrs) (put.long ∙ c.requires.out_long)
    (put_all put (let long = c.requires.llrs_long in omega arith) ∙ ap (λ (k : ℕ). joined k (λ i. field 4 (get_or llrs i 0))) (sym c.requires.llrs_long)
    ∙ sym (fields_joined 4 llrs))
