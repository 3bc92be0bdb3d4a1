-- The base, and the delta that stands for the object.
use Rattle.std.proofs.Common.{rules, pos, ap, ◌∙◌, arith}
use Rattle.std.proofs.lemmas.Int.{ints}
use Rattle.std.proofs.lemmas.Result.{IfOk-weaker}
use Rattle.homeo_meaning.specs.Serial.{values_of}
use Rattle.homeo_plan.specs.Linear.{constant_form, add_forms}
use Rattle.homeo_form.specs.inner.Terms.{term_form}
use Rattle.homeo_form.proofs.Stands.{object_added}
use Rattle.homeo_form.proofs.standing.add_object.Goals as goal

pub returns-in-Base : goal.returns-in-Base
returns-in-Base c =
    let x = c.in-Base.object in
    IfOk-weaker c.plus_term.result _ _
    (λ r h. h ∙ ap (add_forms (term_form (record { delta = record { object = x; site = 0 }; factor = pos 1 })))
    (c.plus_number.ensures ∙ ap (λ n. add_forms (constant_form n) c.args.total) (search (rules, ints, arith)))
    ∙ object_added (values_of c.args.base.now) c.args.place x c.args.total c.in-Base.is) c.plus_term.ensures
