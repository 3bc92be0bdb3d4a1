-- The plan is that of the initial database, with bounds by the policy.
use Rattle.std.proofs.Common.{◌≡◌, sym, ap, subst, ◌∙◌}
use Rattle.std.proofs.lemmas.Result.{IfOk-weaker}
use Rattle.homeo_syntax.specs.SourceView.{plain_workload}
use Rattle.homeo_syntax.specs.declared.workload.Workload.{Workload}
use Rattle.homeo_meaning.specs.Acceptance.{IsAccepted}
use Rattle.homeo_meaning.specs.Initial.{initial}
use Rattle.homeo_plan.specs.Planned.{template_at, policy}
use Rattle.homeo_outline.specs.ObjectPlan.{template_in, config_in}
use Rattle.homeo_print.specs.Key.{definitions}
use Rattle.homeo_print.specs.Plans.{HasBounds}
use Rattle.homeo_print.specs.Treaties.{template_text, treaty_text}
use Rattle.homeo_commands.proofs.Bounded.{has_bounds}
use Rattle.homeo_commands.proofs.treaty.first_treaty.Goals as goal

pub plan_text-requires : goal.plan_text-requires
plan_text-requires c =
    let w = plain_workload c.args.c.now in
    let accepted : IsAccepted w = subst (λ (v : Workload). IsAccepted (plain_workload v)) c.workload-2.ensures c.workload-3.ensures.accepted in
    let bounds = has_bounds w c.in_ok-base.base.items c.in_ok-plan.plan.value accepted c.in_ok-plan.ensures.plan c.in_ok-plan.ensures.policy in
    record { bounds = subst HasBounds (sym c.deref.ensures) bounds }

pub returns : goal.returns
unfolding definitions
returns c =
    let w = plain_workload c.args.c.now in
    let printed : plain_workload c.workload-3.result.now ≡ w = ap plain_workload (c.workload-3.ensures.value ∙ c.workload-2.ensures) in
    let base : c.in_ok-base.base.items ≡ initial w = c.in_ok-base.ensures.value ∙ ap (λ x. initial (plain_workload x)) c.workload.ensures in
    let template = ap template_in c.deref.ensures ∙ c.in_ok-plan.ensures.plan.template ∙ ap (template_at w) base in
    let config = ap config_in c.deref.ensures ∙ c.in_ok-plan.ensures.policy ∙ ap (policy w) base in
    IfOk-weaker c.plan_text.result _ (λ bytes. bytes.items ≡ treaty_text w)
    (λ bytes text. text ∙ (λ i. template_text (printed i) (template i) (config i))) c.plan_text.ensures
