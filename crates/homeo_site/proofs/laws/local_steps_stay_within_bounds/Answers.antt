use Rattle.homeo_site.proofs.LocalSteps.{ready, after_within, step_list}
use Rattle.homeo_site.proofs.laws.local_steps_stay_within_bounds.Goals as goal

pub returns-clause-within : goal.returns-clause-within
returns-clause-within _ w x call accepted holds at = after_within w x accepted (ready w x accepted holds) call at

pub returns-clause-deltas : goal.returns-clause-deltas
returns-clause-deltas _ w x call accepted holds at = step_list w x accepted (ready w x accepted holds) call at
