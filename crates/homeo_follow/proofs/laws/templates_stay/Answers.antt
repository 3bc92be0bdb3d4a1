use Rattle.homeo_follow.proofs.Rebasing.{templates_stay}
use Rattle.homeo_follow.proofs.laws.templates_stay.Goals as goal

pub returns : goal.returns
returns c = templates_stay
