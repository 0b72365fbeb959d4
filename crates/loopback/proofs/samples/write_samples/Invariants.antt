-- The samples before the j-th are those sent.
use Rattle.std.proofs.Common.{◌*◌, ◌/◌, ◌%◌, length, get_or}
use Rattle.vector.proofs.Laws.{Filled}
use Rattle.ccsk.specs.Chips.{chip}
use Rattle.demapper.specs.Noiseless.{sent_sample}
use Rattle.loopback.proofs.samples.write_samples.Given as goal

abbrev pub invariant-loop-j : goal.invariant-loop-j
invariant-loop-j l =
    Filled (64 * length l.numbers) (λ i. sent_sample l.amplitude (chip (get_or l.numbers (i / 64) 0) (i % 64))) l.samples l.j
