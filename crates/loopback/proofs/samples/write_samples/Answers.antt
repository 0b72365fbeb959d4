-- All samples are filled.
use Rattle.std.proofs.Common.{sym, ◌∙◌}
use native.Mathlib.Omega.{arith}
use Rattle.vector.proofs.Laws.{fill_all}
use Rattle.demapper.proofs.NoiselessLaws.{samples_flat}
use Rattle.loopback.proofs.samples.write_samples.Goals as goal

pub returns : goal.returns
returns c = fill_all c.loop-j.invariant (let e = c.loop-j.invariant.long in omega arith) ∙ sym (samples_flat c.args.amplitude c.args.numbers.now)
