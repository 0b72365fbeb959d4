-- The line's verdict is the number of what `read_line` answers.
use Rattle.std.proofs.Common.{ap, ◌∙◌}
use Rattle.frame_file.specs.FrameFile.{first_tried}
use Rattle.frame_file.proofs.feed_line.Goals as goal

pub returns : goal.returns
returns c = record {
  answer = c.first_tried.ensures ∙ ap (first_tried c.args.verdict) (c.status.ensures ∙ c.read_line.ensures.refusal);
  llrs_are = c.read_line.ensures.output;
}
