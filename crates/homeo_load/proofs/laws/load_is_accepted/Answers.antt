use Rattle.homeo_load.proofs.Accepted.{load_accepted}
use Rattle.homeo_load.proofs.laws.load_is_accepted.Goals as goal

pub returns : goal.returns
returns c = load_accepted
