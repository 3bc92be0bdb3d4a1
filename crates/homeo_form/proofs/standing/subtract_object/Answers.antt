-- The base, and the delta that stands for the object, each with its sign turned.
use Rattle.std.proofs.Common.{rules, negsuc, ap, ◌∙◌, arith}
use Rattle.std.proofs.lemmas.Int.{ints}
use Rattle.std.proofs.lemmas.Result.{IfOk-weaker}
use Rattle.homeo_meaning.specs.Serial.{values_of}
use Rattle.homeo_plan.specs.Linear.{constant_form, add_forms}
use Rattle.homeo_form.specs.inner.Terms.{term_form}
use Rattle.homeo_form.proofs.FormSteps.{one_is_small}
use Rattle.homeo_form.proofs.Stands.{object_taken}
use Rattle.homeo_form.proofs.standing.subtract_object.Goals as goal

pub multiplied-requires-clause-left : goal.multiplied-requires-clause-left
multiplied-requires-clause-left c = one_is_small

pub returns-in-Base : goal.returns-in-Base
returns-in-Base c =
    let x = c.in-Base.object in
    IfOk-weaker c.plus_term.result _ _
    (λ r h. h ∙ ap (add_forms (term_form (record { delta = record { object = x; site = 0 }; factor = negsuc 0 })))
    (c.plus_number.ensures ∙ ap (λ n. add_forms (constant_form n) c.args.total) (search (rules, ints, arith)))
    ∙ object_taken (values_of c.args.base.now) c.args.place x c.args.total c.in-Base.is) c.plus_term.ensures
