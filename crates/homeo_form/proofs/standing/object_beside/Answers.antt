-- The base with the number, and the delta that stands for the object.
use Rattle.std.proofs.Common.{rules, w64, to_z, of_z, ◌+ℤ◌, ap, ◌∙◌, subst, arith}
use Rattle.std.proofs.lemmas.Int.{ints}
use Rattle.std.proofs.lemmas.Result.{IfOk-weaker}
use Rattle.homeo_meaning.specs.Serial.{values_of}
use Rattle.homeo_meaning.specs.Small.{IsSmall}
use Rattle.homeo_form.specs.inner.Terms.{sum_limit}
use Rattle.homeo_form.proofs.Adding.{limit_wider}
use Rattle.homeo_form.proofs.Widths.{sum_kept}
use Rattle.homeo_form.proofs.Stands.{object_small, object_with}
use Rattle.homeo_form.proofs.standing.object_beside.Goals as goal

pub added-requires-clause-right : goal.added-requires-clause-right
added-requires-clause-right c =
    let b = values_of c.args.base.now in
    let x = c.in-Base.object in
    subst (IsSmall sum_limit) (search (rules, ints, arith)) (limit_wider (b x) (object_small b c.args.place x c.in-Base.is c.requires.place_small))

pub returns-in-Base : goal.returns-in-Base
returns-in-Base c =
    let b = values_of c.args.base.now in
    let x = c.in-Base.object in
    IfOk-weaker c.delta_beside.result _ _
    (λ r h. h ∙ object_with b c.args.place x c.args.n _ c.in-Base.is
    (sum_kept c.added.result c.args.n (to_z w64 (of_z w64 c.item_or-value.result)) (search rules) c.ranges.n (search rules) c.added.ensures ∙ ap (λ m. c.args.n +ℤ m) (search (rules, ints, arith))))
    c.delta_beside.ensures
