-- `store`: one entry more is stored in a turn.
use Rattle.std.proofs.Common.{◌+◌, ◌*◌, ◌≤◌, ◌<◌, ◌∙◌, length, get_or, sym, arith, rules}
use Rattle.vector.proofs.SliceLaws.{store_none, store_more, store_all, stored_there}
use Rattle.vector.proofs.store.Goals as goal

pub loop-c-init : goal.loop-c-init
loop-c-init c = store_none c.args.s.now c.args.i (λ b. get_or c.args.v.now b 0)

pub loop-c-preserved : goal.loop-c-preserved
loop-c-preserved c =
    let l : 64 * (c.args.i + 1) ≤ length c.args.s.now = omega arith in
    let k : c.loop-c.c < 64 = omega arith in
    let one = store_more l c.loop-c.invariant k in
    search rules

pub returns : goal.returns
returns c =
    let a = c.args in
    let l : 64 * (a.i + 1) ≤ length a.s.now = omega arith in
    store_all l c.loop-c.invariant (omega arith) ∙ sym (stored_there a.s.now a.i l a.v.now)
