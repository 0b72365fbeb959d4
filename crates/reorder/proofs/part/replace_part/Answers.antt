-- `replace_part`: an entry more is replaced in a turn.
use Rattle.std.proofs.Common.{◌≡◌, ◌+◌, ◌-◌, ◌%◌, get_or, ap, arith}
use Rattle.gf64.specs.Field.{◌⊕◌}
use Rattle.reorder.proofs.LoopLaws.{map_none, map_more}
use Rattle.reorder.proofs.part.replace_part.Goals as goal

pub loop-i-init : goal.loop-i-init
loop-i-init c = map_none (omega arith) c.told-to

pub loop-i-preserved : goal.loop-i-preserved
unfolding ◌⊕◌
loop-i-preserved c =
    let a = c.args in
    let k : c.loop-i.i ≡ a.first + c.loop-i.i - a.first = omega arith in
    map_more c.loop-i.invariant (omega arith) (omega arith) (omega arith) (ap (λ n. get_or a.v.now ((a.from + n) ⊕ (a.run % 64)) 0) k)
