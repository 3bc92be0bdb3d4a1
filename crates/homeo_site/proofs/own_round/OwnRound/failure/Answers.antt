-- The plan is that of the round, and so is what the site keeps of it.
use Rattle.std.proofs.Common.{◌≡◌, ℕ, false, sym, subst}
use Rattle.homeo_syntax.specs.SourceView.{plain_workload}
use Rattle.homeo_meaning.specs.Serial.{values_of}
use Rattle.homeo_outline.specs.ObjectPlan.{template_in, config_in}
use Rattle.homeo_outline.specs.declared.plan.ObjectPlan.{ObjectPlan}
use Rattle.homeo_plan.specs.Joined.{Deltas}
use Rattle.homeo_plan.specs.Treaty.{Treaty, finding}
use Rattle.homeo_outline.specs.Numbers.{has}
use Rattle.homeo_site.specs.SiteState.{step_finding}
use Rattle.homeo_site.specs.SiteView.{StartValue, with_deltas}
use Rattle.homeo_site.specs.inner.Ready.{IsAfterStep}
use Rattle.homeo_site.proofs.OwnFailures.{step_fits, step_fails}
use Rattle.homeo_site.proofs.PartsMade.{keeps_by, fits_by}
use Rattle.homeo_site.proofs.own_round.OwnRound.failure.Goals as goal

pub first_failure-requires-clause-keeps : goal.first_failure-requires-clause-keeps
first_failure-requires-clause-keeps c =
    let in' = c.self.inside in
    keeps_by (plain_workload in'.compiled.value) in'.plan.value _ in'.site c.self.invariant.round c.deref.ensures

pub first_failure-requires-clause-fit : goal.first_failure-requires-clause-fit
first_failure-requires-clause-fit c =
    fits_by (plain_workload c.self.inside.compiled.value) c.self.inside.plan.value _ c.self.inside.site c.self.invariant.round c.deref.ensures _
    (step_fits c.self.inside.compiled.value c.self.inside.plan.value c.self.inside.site c.self.inside.round c.self.invariant.round c.args.written.now c.args.deltas.now
    (subst (λ (v : StartValue). IsAfterStep (plain_workload v.work) v c.args.written.now c.args.deltas.now) (sym c.self.view_is) c.requires))

pub returns : goal.returns
returns c =
    let in' = c.self.inside in
    let ws = c.args.written.now in
    let ds = c.args.deltas.now in
    let found =
    subst
    (λ (p : ObjectPlan). (before : Deltas) → Treaty (template_in p) (config_in p) in'.site before →
    ((n : ℕ) → has n ws ≡ false → values_of ds n ≡ before n) →
    c.first_failure.result ≡ finding (template_in p) (config_in p) in'.site (values_of ds)) c.deref.ensures c.first_failure.ensures in
    subst
    (λ (v : StartValue). (s : IsAfterStep (plain_workload v.work) v ws ds) →
    c.first_failure.result ≡ step_finding (plain_workload v.work) (with_deltas v s.before) s.call) c.self.view_is
    (λ s. step_fails in'.compiled.value in'.plan.value in'.site in'.round c.self.invariant.round ws ds s c.first_failure.result found)
