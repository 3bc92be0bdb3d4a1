-- Its delta stands for it.
use Rattle.std.proofs.Common.{rules, ap, ◌∙◌}
use mir.Syntax.{w64}
use Rattle.std.proofs.lemmas.Int.{to_z-of_z}
use Rattle.std.proofs.lemmas.Result.{IfOk-weaker}
use Rattle.homeo_plan.specs.Key.{definitions as plan_definitions}
use Rattle.homeo_follow.specs.Key.{definitions as follow_definitions}
use Rattle.homeo_form.specs.Key.{definitions}
use Rattle.homeo_form.specs.inner.Terms.{beside}
use Rattle.homeo_form.proofs.Widths.{kept_is}
use Rattle.homeo_form.proofs.form.Form.object.Goals as goal

pub returns : goal.returns
unfolding definitions plan_definitions follow_definitions
returns c =
    let x = c.args.object in
    IfOk-weaker c.delta_beside.result _ _
    (λ f h. h ∙ ap (λ n. beside n (record { object = x; site = 0 })) (kept_is c.widened.result c.args.base (search rules) (c.widened.ensures ∙ to_z-of_z w64 c.args.base c.ranges.base)))
    c.delta_beside.ensures
