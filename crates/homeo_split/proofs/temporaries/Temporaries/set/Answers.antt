-- A value is put into the list of its temporary.
use Rattle.std.proofs.Common.{refl}
use Rattle.std.proofs.lemmas.Result.{on_ok_weaker}
use Rattle.homeo_meaning.specs.Key.{definitions}
use Rattle.homeo_split.proofs.States.{set_temps}
use Rattle.homeo_split.proofs.temporaries.Temporaries.set.Goals as goal

pub returns-in-Named : goal.returns-in-Named
unfolding definitions
returns-in-Named c = on_ok_weaker c.put.result (λ h. set_temps c.args.self.now _ c.in-Named.is c.args.v c.ranges.v h (λ m. refl)) c.put.ensures

pub returns-in-Fresh : goal.returns-in-Fresh
unfolding definitions
returns-in-Fresh c = on_ok_weaker c.put-in-Fresh.result (λ h. set_temps c.args.self.now _ c.in-Fresh.is c.args.v c.ranges.v (λ m. refl) h) c.put-in-Fresh.ensures
