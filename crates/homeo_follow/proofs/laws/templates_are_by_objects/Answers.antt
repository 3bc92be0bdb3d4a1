use Rattle.homeo_follow.proofs.Templated.{by_objects}
use Rattle.homeo_follow.proofs.laws.templates_are_by_objects.Goals as goal

pub returns : goal.returns
returns c = by_objects
