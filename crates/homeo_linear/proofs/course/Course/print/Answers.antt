-- The form is one print more.
use Rattle.std.proofs.Common.{refl}
use Rattle.homeo_syntax.specs.LowView.{plain_lexpr}
use Rattle.homeo_linear.specs.inner.Course.{followed_so}
use Rattle.homeo_linear.proofs.Coursing.{printed}
use Rattle.homeo_linear.proofs.course.Course.print.Goals as goal

pub returns : goal.returns
returns c =
    printed (followed_so c.args.self.now) _ (plain_lexpr c.args.value.now) _ refl c.in_ok-push.ensures.items refl c.in_ok-form.ensures refl
