use Rattle.homeo_frames.proofs.Cutting.{has_cut}
use Rattle.homeo_frames.proofs.laws.has_cut.Goals as goal

pub returns : goal.returns
returns c = has_cut
