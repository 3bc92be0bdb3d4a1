-- The delta with its sign turned.
use Rattle.std.proofs.Common.{ap, ◌∙◌}
use Rattle.std.proofs.lemmas.Result.{IfOk-weaker}
use Rattle.homeo_meaning.specs.Serial.{values_of}
use Rattle.homeo_plan.specs.Linear.{add_forms}
use Rattle.homeo_form.proofs.FormSteps.{one_is_small}
use Rattle.homeo_form.proofs.Stands.{base_negated}
use Rattle.homeo_form.proofs.standing.subtract_base.Goals as goal

pub multiplied-requires-clause-left : goal.multiplied-requires-clause-left
multiplied-requires-clause-left c = one_is_small

pub returns-in-Delta : goal.returns-in-Delta
returns-in-Delta c =
    IfOk-weaker c.plus_term.result _ _
    (λ r h. h ∙ ap (λ f. add_forms f c.args.total) (base_negated (values_of c.args.base.now) c.args.place c.in-Delta.object c.in-Delta.site c.in-Delta.is))
    c.plus_term.ensures
