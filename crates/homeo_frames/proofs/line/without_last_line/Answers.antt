use Rattle.homeo_frames.proofs.EndLines.{before_last}
use Rattle.homeo_frames.proofs.line.without_last_line.Goals as goal

pub returns : goal.returns
returns c = before_last c.args.frame.now c.requires c.last_line_at.result c.last_line_at.ensures.within c.last_line_at.ensures.line
