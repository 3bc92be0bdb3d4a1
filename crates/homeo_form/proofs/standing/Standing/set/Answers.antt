-- The form stands at the place.
use Rattle.std.proofs.Common.{refl}
use Rattle.std.proofs.lemmas.Result.{on_ok_weaker}
use Rattle.homeo_form.proofs.Stands.{put_object, put_other}
use Rattle.homeo_form.proofs.standing.Standing.set.Goals as goal

pub returns-in-Base : goal.returns-in-Base
returns-in-Base c =
    on_ok_weaker c.set.result (λ h. put_object c.args.self.now c.set.new.self c.args.place c.in-Base.object c.args.form c.in-Base.is h) c.set.ensures

pub returns-in_ok-insert-in-Named : goal.returns-in_ok-insert-in-Named
returns-in_ok-insert-in-Named c =
    put_other c.args.self.now _ c.args.place c.args.form refl refl refl c.in-Named.is c.in_ok-insert-in-Named.ensures.updates.0
