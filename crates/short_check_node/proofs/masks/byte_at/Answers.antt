-- `byte_at`: one bit more is there in a turn.
use Rattle.std.proofs.Common.{ℕ, ◌+◌, ◌^◌, ◌<◌, ◌≤◌, get_or, refl, ap, subst, sym, ◌∙◌, pow_mono, arith}
use Rattle.short_check_node.specs.Masks.{mask_of}
use Rattle.short_check_node.proofs.MaskLaws.{mask_more, part_more}
use Rattle.short_check_node.proofs.masks.byte_at.Goals as goal

pub loop-i-init : goal.loop-i-init
unfolding mask_of
loop-i-init c = (refl, omega arith)

pub loop-i-preserved : goal.loop-i-preserved
loop-i-preserved c =
    let i = c.loop-i.i in
    let bit = λ (j : ℕ). get_or c.args.f.now (c.args.at + j) 0 in
    let flag : bit i ≤ 1 = c.requires.0 (c.args.at + i) (omega arith) in
    let room = pow_mono {i = i + 1} {j = 16} (omega arith) in
    let more = part_more i 1 (bit i) c.loop-i.byte 65536 (omega arith) c.loop-i.invariant.1 (omega arith) in (
      ap (λ (x : ℕ). c.loop-i.byte + x) more.0 ∙ mask_more i bit c.loop-i.invariant.0,
      subst (λ (x : ℕ). c.loop-i.byte + x < 2 ^ (i + 1)) (sym more.0) more.1,
    )
