use Rattle.homeo_history.proofs.Stand.{answers_stand}
use Rattle.homeo_history.proofs.laws.answers_stand.Goals as goal

pub returns : goal.returns
returns c = answers_stand
