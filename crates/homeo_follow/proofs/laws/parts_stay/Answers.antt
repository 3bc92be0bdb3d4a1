use Rattle.homeo_follow.proofs.Staying.{parts_stay}
use Rattle.homeo_follow.proofs.Unmoved.{parts_rebased}
use Rattle.homeo_follow.proofs.laws.parts_stay.Goals as goal

pub returns-clause-same : goal.returns-clause-same
returns-clause-same c = parts_stay

pub returns-clause-rebased : goal.returns-clause-rebased
returns-clause-rebased c = parts_rebased
