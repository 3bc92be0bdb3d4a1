-- The delta itself.
use Rattle.std.proofs.Common.{ap, ◌∙◌}
use Rattle.std.proofs.lemmas.Result.{IfOk-weaker}
use Rattle.homeo_meaning.specs.Serial.{values_of}
use Rattle.homeo_plan.specs.Linear.{add_forms}
use Rattle.homeo_form.proofs.Stands.{base_delta}
use Rattle.homeo_form.proofs.standing.add_base.Goals as goal

pub returns-in-Delta : goal.returns-in-Delta
returns-in-Delta c =
    IfOk-weaker c.plus_term.result _ _
    (λ r h. h ∙ ap (λ f. add_forms f c.args.total) (base_delta (values_of c.args.base.now) c.args.place c.in-Delta.object c.in-Delta.site c.in-Delta.is))
    c.plus_term.ensures
