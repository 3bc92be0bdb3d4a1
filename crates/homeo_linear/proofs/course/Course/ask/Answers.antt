-- Its atoms are asked.
use Rattle.std.proofs.Common.{refl}
use Rattle.std.proofs.lemmas.Result.{on_ok_weaker}
use Rattle.homeo_syntax.specs.LowView.{plain_lcond}
use Rattle.homeo_form.specs.Standing.{forms_of}
use Rattle.homeo_linear.specs.inner.Course.{followed_so}
use Rattle.homeo_linear.specs.inner.Kept.{kept_cond}
use Rattle.homeo_linear.proofs.Coursing.{asked_is}
use Rattle.homeo_linear.proofs.course.Course.ask.Goals as goal

pub returns-clause-asked : goal.returns-clause-asked
returns-clause-asked c =
    let old = c.args.self.now in
    on_ok_weaker c.condition.result
    (λ h. asked_is (followed_so old) _ (kept_cond (forms_of old.standing) (plain_lcond c.args.test.now)) h refl refl refl) c.condition.ensures.atoms
