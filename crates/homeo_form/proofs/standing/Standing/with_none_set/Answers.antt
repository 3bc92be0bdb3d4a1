-- No place is set.
use Rattle.homeo_form.proofs.Stands.{none_set}
use Rattle.homeo_form.proofs.standing.Standing.with_none_set.Goals as goal

pub returns : goal.returns
returns c = none_set _ c.new.ensures c.new-2.ensures.empty
