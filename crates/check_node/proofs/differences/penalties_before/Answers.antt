-- `penalties_before`: its two parts are those of the penalties before.
use Rattle.std.proofs.Common.{arith}
use Rattle.check_node.proofs.DifferenceLaws.{before_all}
use Rattle.check_node.proofs.differences.penalties_before.Goals as goal

pub returns : goal.returns
returns c = before_all (c.replace_part.ensures.replaced c.told-ordered (omega arith) (omega arith)) (c.replace_part-2.ensures.replaced c.replace_part.array_long (omega arith) (omega arith))
