use Rattle.homeo_frames.proofs.Cutting.{one_cut}
use Rattle.homeo_frames.proofs.laws.one_cut.Goals as goal

pub returns : goal.returns
returns c = one_cut
