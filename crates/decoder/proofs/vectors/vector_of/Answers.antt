-- The part that is copied is the vector.
use Rattle.std.proofs.Common.{◌≡◌, ℕ, ◌+◌, ◌*◌, ◌-◌, ◌∙◌, ap}
use native.Mathlib.Omega.{arith}
use lib.ListN.{take, drop}
use Rattle.vector.specs.Vector.{vector_at}
use Rattle.decoder.proofs.vectors.vector_of.Goals as goal

pub returns : goal.returns
unfolding vector_at
returns c =
    let size : 64 * c.args.i + 64 - 64 * c.args.i ≡ 64 = omega arith in
    c.copy_from_slice.ensures.after ∙ ap (λ (n : ℕ). take n (drop (64 * c.args.i) c.args.s.now)) size
