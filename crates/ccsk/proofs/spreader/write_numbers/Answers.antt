-- With all of them written the buffer is the list of numbers.
use Rattle.std.proofs.Common.{◌∙◌}
use Rattle.vector.proofs.Laws.{fill_all, tabulate_map}
use Rattle.ccsk.specs.Chips.{turned}
use Rattle.ccsk.specs.Spread.{numbers_of}
use Rattle.ccsk.proofs.spreader.write_numbers.Goals as goal

pub returns : goal.returns
unfolding numbers_of
returns c = fill_all c.loop-i.invariant c.loop-i-test.false ∙ tabulate_map 0 (turned c.args.base) c.args.symbols.now
