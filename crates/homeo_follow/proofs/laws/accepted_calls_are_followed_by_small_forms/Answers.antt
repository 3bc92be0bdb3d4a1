use Rattle.homeo_follow.proofs.Weighed.{accepted_small}
use Rattle.homeo_follow.proofs.laws.accepted_calls_are_followed_by_small_forms.Goals as goal

pub returns : goal.returns
returns c = accepted_small
