-- What the objects or the map have at the place.
use Rattle.homeo_form.proofs.Stands.{set_object, set_other}
use Rattle.homeo_form.proofs.standing.Standing.get.Goals as goal

pub returns-in-Base : goal.returns-in-Base
returns-in-Base c = set_object c.args.self.now c.args.place c.in-Base.object _ c.in-Base.is c.get.ensures

pub returns-in-Named : goal.returns-in-Named
returns-in-Named c = set_other c.args.self.now c.args.place _ c.in-Named.is c.get-in-Named.ensures.value
