-- The form stands at the temporary.
use Rattle.std.proofs.Common.{refl}
use Rattle.std.proofs.lemmas.Result.{on_ok_weaker}
use Rattle.homeo_syntax.specs.LowView.{plain_lexpr}
use Rattle.homeo_linear.specs.inner.Course.{followed_so}
use Rattle.homeo_linear.proofs.Coursing.{assigned}
use Rattle.homeo_linear.proofs.course.Course.assign.Goals as goal

pub returns : goal.returns
returns c =
    on_ok_weaker c.set.result
    (λ h. assigned (followed_so c.args.self.now) _ c.args.target (plain_lexpr c.args.value.now) _ _ refl refl refl c.place_of_temp.ensures
    c.in_ok-form.ensures h) c.set.ensures
