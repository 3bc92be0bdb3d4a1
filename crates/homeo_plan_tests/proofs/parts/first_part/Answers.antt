-- The form of a ground call of an accepted workload can be followed.
use Rattle.std.proofs.Common.{ℕ, sym, subst}
use Rattle.std.proofs.lemmas.Result.{IfOk-at_ok}
use Rattle.homeo_syntax.specs.LowView.{plain_lcommand}
use Rattle.homeo_syntax.specs.SourceView.{plain_workload}
use Rattle.homeo_meaning.specs.Ground.{plain_ground}
use Rattle.homeo_meaning.specs.Serial.{values_of}
use Rattle.homeo_meaning.specs.Small.{IsSmall}
use Rattle.homeo_plan.specs.Limit.{form_limit}
use Rattle.homeo_follow.specs.Follow.{object_forms, followed}
use Rattle.homeo_follow.specs.FollowSizes.{AreNumbers, CanBeFollowed}
use Rattle.homeo_follow.proofs.Weighed.{accepted_small}
use Rattle.homeo_build.proofs.Following.{small_base}
use Rattle.homeo_plan_tests.proofs.parts.first_part.Goals as goal

pub part-requires-clause-can : goal.part-requires-clause-can
part-requires-clause-can g c =
    let w = plain_workload c.args.w.now in
    let base = c.expect-base.result.items in
    let within = IfOk-at_ok _ c.expect-base.ensures c.initial.ensures.within in
    let small = accepted_small w (plain_ground c.first-call.result.now) base c.workload-workload.ensures.accepted c.first-call.ensures.made within in
    subst (λ b. CanBeFollowed (IsSmall form_limit) (object_forms (values_of b)) (plain_lcommand c.expect-form.result)) (sym c.new-follower.ensures)
    (subst (CanBeFollowed (IsSmall form_limit) (object_forms (values_of base))) (sym (IfOk-at_ok _ c.expect-form.ensures c.desugar.ensures.form)) small.0)

pub part-requires-clause-left : goal.part-requires-clause-left
part-requires-clause-left g c =
    let w = plain_workload c.args.w.now in
    let base = c.expect-base.result.items in
    let within = IfOk-at_ok _ c.expect-base.ensures c.initial.ensures.within in
    let small = accepted_small w (plain_ground c.first-call.result.now) base c.workload-workload.ensures.accepted c.first-call.ensures.made within in
    subst (λ b. AreNumbers (IsSmall form_limit) (followed (values_of b) (plain_lcommand c.expect-form.result)).forms) (sym c.new-follower.ensures)
    (subst (λ f. AreNumbers (IsSmall form_limit) (followed (values_of base) f).forms) (sym (IfOk-at_ok _ c.expect-form.ensures c.desugar.ensures.form)) small.1)

pub part-requires-clause-base : goal.part-requires-clause-base
part-requires-clause-base g c =
    let within = IfOk-at_ok _ c.expect-base.ensures c.initial.ensures.within in
    subst (λ b. (x : ℕ) → IsSmall form_limit (values_of b x)) (sym c.new-follower.ensures)
    (small_base (plain_workload c.args.w.now) c.expect-base.result.items c.workload-workload.ensures.accepted within)
