-- What a site finds to fail after a call's local step is what the step finds.
use Rattle.std.proofs.Common.{◌≡◌, ℕ, false, List, ℤ, All, Option, sym, ap, ap₂, ◌∙◌, subst}
use Rattle.homeo_syntax.specs.SourceView.{plain_workload}
use Rattle.homeo_syntax.specs.declared.workload.Workload.{Workload}
use Rattle.homeo_meaning.specs.Serial.{values_of}
use Rattle.homeo_plan.specs.declared.treaty.Broken.{Broken}
use Rattle.homeo_plan.specs.Config.{Config}
use Rattle.homeo_plan.specs.Joined.{Deltas}
use Rattle.homeo_plan.specs.Planned.{template_at, policy}
use Rattle.homeo_plan.specs.Template.{Template}
use Rattle.homeo_plan.specs.Treaty.{Treaty, finding}
use Rattle.homeo_outline.specs.Numbers.{has}
use Rattle.homeo_outline.specs.ObjectPlan.{template_in, config_in}
use Rattle.homeo_outline.specs.declared.plan.ObjectPlan.{ObjectPlan}
use Rattle.homeo_history.specs.Key.{definitions as history_definitions}
use Rattle.homeo_site.specs.Key.{definitions}
use Rattle.homeo_site.specs.OwnTreaty.{OwnClause, SumsFit, own_clauses}
use Rattle.homeo_site.specs.SiteState.{step_values, step_finding}
use Rattle.homeo_site.specs.SiteView.{StartValue, with_deltas}
use Rattle.homeo_site.specs.inner.OwnRound.{IsOwnRound}
use Rattle.homeo_site.specs.inner.Ready.{IsAfterStep}
use Rattle.homeo_site.proofs.LocalSteps.{after_within, step_list}
use Rattle.homeo_site.proofs.OwnFits.{own_clauses_fit}

module _ (work : Workload) (p : ObjectPlan) (i round : ℕ) (own : IsOwnRound (plain_workload work) p i) (ws : List ℕ) (ds : List ℤ) where
  abbrev v : StartValue
  v = record { work = work; number = i; round = round; base = p.base.items }

  module _ (s : IsAfterStep (plain_workload work) v ws ds) where
    -- the deltas are those after the step
    left : values_of ds ≡ step_values (plain_workload work) (with_deltas v s.before) s.call
    left = ap values_of s.left ∙ step_list (plain_workload work) (with_deltas v s.before) own.accepted s.ready s.call s.at

    pub step_fits : All (λ (c : OwnClause). SumsFit c.terms (values_of ds)) (own_clauses i (template_in p).clauses (config_in p))
    step_fits =
        subst (λ (y : Deltas). All (λ (c : OwnClause). SumsFit c.terms y) (own_clauses i (template_in p).clauses (config_in p))) (sym left)
        (subst (λ (t : Template). All (λ (c : OwnClause). SumsFit c.terms (step_values (plain_workload work) (with_deltas v s.before) s.call)) (own_clauses i t.clauses (config_in p)))
        (sym own.plan.template)
        (own_clauses_fit (plain_workload work) p.base.items i (step_values (plain_workload work) (with_deltas v s.before) s.call) own.accepted
        s.ready.within (after_within (plain_workload work) (with_deltas v s.before) own.accepted s.ready s.call s.at) (config_in p)))

    pub step_fails :
        (o : Option Broken) →
        ((before : Deltas) → Treaty (template_in p) (config_in p) i before → ((n : ℕ) → has n ws ≡ false → values_of ds n ≡ before n) →
        o ≡ finding (template_in p) (config_in p) i (values_of ds)) →
        o ≡ step_finding (plain_workload work) (with_deltas v s.before) s.call
    unfolding definitions history_definitions
    step_fails o found =
        found (values_of s.before) met s.others
        ∙ ap₂ (λ (t : Template) (c : Config). finding t c i (values_of ds)) own.plan.template own.bounds
        ∙ ap (finding (template_at (plain_workload work) p.base.items) (policy (plain_workload work) p.base.items) i) left
      where
        met : Treaty (template_in p) (config_in p) i (values_of s.before)
        met =
            subst (λ (t : Template). Treaty t (config_in p) i (values_of s.before)) (sym own.plan.template)
            (subst (λ (c : Config). Treaty (template_at (plain_workload work) p.base.items) c i (values_of s.before)) (sym own.bounds) s.ready.meets)
