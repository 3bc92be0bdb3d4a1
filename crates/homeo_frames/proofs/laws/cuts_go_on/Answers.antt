use Rattle.homeo_frames.proofs.Cutting.{cuts_on}
use Rattle.homeo_frames.proofs.laws.cuts_go_on.Goals as goal

pub returns : goal.returns
returns c = cuts_on
