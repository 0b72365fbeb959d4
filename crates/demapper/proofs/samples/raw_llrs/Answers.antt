-- No sample, and one more.
use Rattle.std.proofs.Common.{◌∙◌, refl, ap, get_or, rules}
use native.Mathlib.Nat.{le_of_eq}
use lib.IntN.{pos}
use lib.ListN.{get_or-replicate}
use Rattle.vector.specs.Vector.{tabulate, sum_to}
use Rattle.demapper.specs.Samples.{hard_chip, magnitude}
use Rattle.demapper.specs.Parts.{raw_to}
use Rattle.demapper.proofs.LlrLaws.{raw_more, raw_small}
use Rattle.demapper.proofs.SignedLaws.{plain}
use Rattle.demapper.proofs.samples.raw_llrs.Goals as goal

pub loop-k-init : goal.loop-k-init
unfolding raw_to sum_to tabulate
loop-k-init c = record { made = refl; small = λ s l. le_of_eq (get_or-replicate 64 s 0 0 l) }

pub loop-k-preserved : goal.loop-k-preserved
loop-k-preserved c =
    let made = c.with_sample-sums.ensures in
    let size = c.magnitude.ensures in
    let known = c.loop-k.invariant in
    let same = plain (get_or c.args.samples.now c.loop-k.k (pos 0)) (search rules) in
    record {
      made = raw_more _ _ _ _ _ _ _ made known.made (c.hard_chip.ensures ∙ ap hard_chip same) (size.0 ∙ ap magnitude same);
      small = raw_small _ c.args.samples.now _ _ _ _ _ made known.small size.1;
    }
