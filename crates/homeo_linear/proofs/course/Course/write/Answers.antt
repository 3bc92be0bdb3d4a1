-- The form stands at the name, whose object is written.
use Rattle.std.proofs.Common.{map, refl, ap, ◌∙◌}
use Rattle.std.proofs.lemmas.List.{map_push}
use Rattle.homeo_syntax.specs.LowView.{plain_lexpr}
use Rattle.homeo_plan.specs.declared.forms.Delta.{Delta}
use Rattle.homeo_linear.specs.inner.Course.{followed_so}
use Rattle.homeo_linear.proofs.Coursing.{wrote}
use Rattle.homeo_linear.proofs.course.Course.write.Goals as goal

pub returns : goal.returns
returns c =
    wrote (followed_so c.args.self.now) _ c.args.target (plain_lexpr c.args.value.now) _ _ c.delta_of.result refl refl
    (ap (map (λ (d : Delta). d.object)) c.in_ok-push.ensures.items ∙ map_push (λ (d : Delta). d.object) c.args.self.now.written.items c.delta_of.result)
    c.delta_of.ensures c.place_of.ensures c.in_ok-form.ensures c.in_ok-set.ensures
