-- No place is set.
use Rattle.homeo_form.proofs.Stands.{none_set}
use Rattle.homeo_form.proofs.standing.Standing.begin_objects.Goals as goal

pub returns : goal.returns
returns c = none_set _ c.clear.ensures c.clear-2.ensures.empty
