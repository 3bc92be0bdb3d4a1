-- A temporary is set.
use Rattle.std.proofs.Common.{refl}
use Rattle.std.proofs.lemmas.Result.{on_ok_weaker}
use Rattle.homeo_split.specs.Key.{definitions}
use Rattle.homeo_split.proofs.States.{set_temp}
use Rattle.homeo_split.proofs.state.StateStore.assign.Goals as goal

pub returns-clause-leads : goal.returns-clause-leads
unfolding definitions
returns-clause-leads c = on_ok_weaker c.set.result (λ _. refl) c.set.ensures

pub returns-clause-set : goal.returns-clause-set
unfolding definitions
returns-clause-set c = on_ok_weaker c.set.result (λ h. set_temp _ _ c.args.t c.args.v c.ranges.v h (λ x. refl) (λ x j. refl)) c.set.ensures
