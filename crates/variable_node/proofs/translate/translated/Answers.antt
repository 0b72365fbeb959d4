-- `translated`: a block more is written in a turn.
use Rattle.std.proofs.Common.{◌≡◌, ◌<◌, ◌%◌, ◌/◌, ◌∙◌, get_or, ap, arith, rules}
use lib.Bits.{xor_lt}
use Rattle.gf64.specs.Field.{◌⊕◌}
use Rattle.reorder.specs.Order.{swapped}
use Rattle.reorder.proofs.LoopLaws.{map_ext, map_join, map_all}
use Rattle.reorder.proofs.SwapLaws.{swapped_by}
use Rattle.variable_node.proofs.TranslateLaws.{translated_at}
use Rattle.variable_node.proofs.translate.translated.Goals as goal

pub loop-block-preserved : goal.loop-block-preserved
unfolding ◌⊕◌
loop-block-preserved c =
    let v = c.args.v.now in
    let u = c.from-symbol.result in
    let low : c.translated_low-low.result ≡ swapped v (u % 8) = search rules in
    let small : u < 64 = omega arith in
    let block : c.loop-block.block ⊕ (u / 8) < 8 = xor_lt 3 c.loop-block.block (u / 8) (omega arith) (omega arith) in
    let made = c.replace_part.ensures.replaced c.loop-block.invariant.long (omega arith) (omega arith) in
    let same = map_ext {g = λ b _. get_or v (b ⊕ u) 0} made (λ b z p q. translated_at v u c.loop-block.block b low small (omega arith) p q) in
    map_all (map_join (omega arith) (omega arith) c.loop-block.invariant same) (omega arith)

pub returns : goal.returns
returns c = let u : c.from-symbol.result ≡ c.args.u = omega arith in swapped_by c.args.v.now _ _ _ _ c.loop-block.invariant (omega arith) ∙ ap (swapped c.args.v.now) u
