-- `mask_below`: the bits of one block more are there in a turn.
use Rattle.std.proofs.Common.{◌≡◌, ℕ, ◌+◌, ◌*◌, ◌^◌, ◌%◌, ◌<◌, get_or, refl, ap, subst, sym, ◌∙◌, pow_mono, arith}
use Rattle.vector.proofs.Laws.{get_d_tabulate}
use Rattle.short_check_node.specs.Masks.{below_at, mask_of}
use Rattle.short_check_node.proofs.MaskLaws.{mask_ext, mask_eight, part_more}
use Rattle.short_check_node.proofs.SetLaws.{below_flag}
use Rattle.short_check_node.proofs.masks.mask_below.Goals as goal

pub loop-block-init : goal.loop-block-init
unfolding mask_of
loop-block-init c = (refl, omega arith)

pub byte_at-requires : goal.byte_at-requires
byte_at-requires c = (
  λ b l.
      let e = ap (λ xs. get_or xs b 0) c.flags_below-f.ensures ∙ get_d_tabulate 0 64 (below_at c.args.v.now c.args.t) b l in
      let m = below_flag (get_or c.args.v.now b 0) c.args.t in
      omega arith,
  omega arith,
)

pub overflow_add-mask : goal.overflow_add-mask
overflow_add-mask c =
    let b = 8 * c.loop-block.block in
    let room = pow_mono {i = b + 8} {j = 64} (omega arith) in
    let more = part_more b 8 c.from.result c.loop-block.mask (2 ^ 64) (omega arith) c.loop-block.invariant.1 room in
    omega arith

pub loop-block-preserved : goal.loop-block-preserved
loop-block-preserved c =
    let v = c.args.v.now in
    let t = c.args.t in
    let b = 8 * c.loop-block.block in
    let room = pow_mono {i = b + 8} {j = 64} (omega arith) in
    let more = part_more b 8 c.from.result c.loop-block.mask (2 ^ 64) (omega arith) c.loop-block.invariant.1 room in
    let flag : (j : ℕ) → j < 64 → get_or c.flags_below-f.result j 0 ≡ below_at v t j = (λ j l. ap (λ xs. get_or xs j 0) c.flags_below-f.ensures ∙ get_d_tabulate 0 64 (below_at v t) j l) in
    let byte : c.from.result ≡ mask_of 8 (λ j. below_at v t (b + j)) = c.from.ensures ∙ c.byte_at.ensures.0 ∙ mask_ext 8 _ _ (λ j l. flag (b + j) (omega arith)) in
    let next : b + 8 ≡ 8 * (c.loop-block.block + 1) = omega arith in (
      ap (λ (x : ℕ). c.loop-block.mask + x) more.0 ∙ mask_eight b (below_at v t) c.loop-block.invariant.0 byte ∙ ap (λ (n : ℕ). mask_of n (below_at v t)) next,
      subst (λ (n : ℕ). c.loop-block.mask + c.from.result * 2 ^ b % 18446744073709551616 < 2 ^ n) next (subst (λ (x : ℕ). c.loop-block.mask + x < 2 ^ (b + 8)) (sym more.0) more.1),
    )
