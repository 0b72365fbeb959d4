-- One kernel more.
use Rattle.gf64.specs.Field.{◌⊕◌}
use Rattle.polar.proofs.JoinLaws.{join_more}
use Rattle.polar.proofs.transform.join_kernels.Goals as goal

pub loop-t-preserved : goal.loop-t-preserved
unfolding ◌⊕◌
loop-t-preserved c = join_more _ _ _ _ _ _ _ c.requires c.loop-t-test.true c.loop-t.invariant _ c.product_from.ensures
