-- A temporary is set.
use Rattle.std.proofs.Common.{refl}
use Rattle.std.proofs.lemmas.Result.{on_ok_weaker}
use Rattle.homeo_split.proofs.States.{set_temp}
use Rattle.homeo_local.specs.inner.Key.{definitions}
use Rattle.homeo_local.specs.inner.Leads.{stays}
use Rattle.homeo_local.proofs.own.OwnStore.assign.Goals as goal

pub returns-clause-leads : goal.returns-clause-leads
returns-clause-leads c = on_ok_weaker c.set.result (λ _. stays c.args.self.now) c.set.ensures

pub returns-clause-set : goal.returns-clause-set
unfolding definitions
returns-clause-set c = on_ok_weaker c.set.result (λ h. set_temp _ _ c.args.t c.args.v c.ranges.v h (λ x. refl) (λ x j. refl)) c.set.ensures
