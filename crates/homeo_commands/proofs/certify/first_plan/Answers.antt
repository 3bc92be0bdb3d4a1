use Rattle.std.proofs.Common.{◌≡◌, ℤ, List, ap, subst, ◌∙◌}
use Rattle.std.proofs.lemmas.Result.{IfOk-weaker}
use Rattle.homeo_syntax.specs.SourceView.{plain_workload}
use Rattle.homeo_meaning.specs.Initial.{initial}
use Rattle.homeo_plan.specs.Planned.{policy}
use Rattle.homeo_outline.specs.Key.{definitions}
use Rattle.homeo_build.specs.Plan.{IsPlanOf}
use Rattle.homeo_commands.proofs.certify.first_plan.Goals as goal

pub returns-clause-config : goal.returns-clause-config
unfolding definitions
returns-clause-config c =
    let w = plain_workload c.args.c.now in
    let base : c.in_ok-base.base.items ≡ initial w = c.in_ok-base.ensures.value ∙ ap (λ x. initial (plain_workload x)) c.workload.ensures in
    IfOk-weaker c.treaties.result _ _ (λ p is. is ∙ ap (policy w) base) c.treaties.ensures.config

pub returns-clause-plan : goal.returns-clause-plan
returns-clause-plan c =
    let w = plain_workload c.args.c.now in
    let base : c.in_ok-base.base.items ≡ initial w = c.in_ok-base.ensures.value ∙ ap (λ x. initial (plain_workload x)) c.workload.ensures in
    IfOk-weaker c.treaties.result _ _ (λ p is. subst (λ (b : List ℤ). IsPlanOf w b p) base is) c.treaties.ensures.plan
