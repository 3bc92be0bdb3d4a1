-- The plan is that of the round; each object's number is among those that are looked at.
use Rattle.std.proofs.Common.{◌≡◌, ℕ, ◌+ℤ◌, false, All, sym, ◌∙◌, subst, arith}
use Rattle.homeo_syntax.specs.SourceView.{plain_workload}
use Rattle.homeo_meaning.specs.Bounds.{AllWithin, IsWithin}
use Rattle.homeo_meaning.specs.Schema.{schema_of}
use Rattle.homeo_meaning.specs.Serial.{values_of}
use Rattle.homeo_outline.specs.Numbers.{has}
use Rattle.homeo_outline.specs.ObjectPlan.{template_in, config_in}
use Rattle.homeo_outline.specs.declared.plan.ObjectPlan.{ObjectPlan}
use Rattle.homeo_plan.specs.Joined.{Deltas}
use Rattle.homeo_plan.specs.Treaty.{Treaty, finding}
use Rattle.homeo_history.specs.Replayed.{finding_at}
use Rattle.homeo_site.specs.OwnTreaty.{OwnClause, SumsFit, own_clauses}
use Rattle.homeo_site.specs.SiteView.{StartValue}
use Rattle.homeo_site.specs.inner.Parts.{CanKeep}
use Rattle.homeo_site.proofs.AtDeltas.{objects_next, all_fit, finds}
use Rattle.homeo_site.proofs.PartsMade.{can_keep}
use Rattle.homeo_site.proofs.own_round.OwnRound.failure_at.Goals as goal

pub loop-object-init : goal.loop-object-init
loop-object-init c = c.new-objects.ensures.items

pub loop-object-preserved : goal.loop-object-preserved
loop-object-preserved c =
    objects_next c.loop-object.objects.items c.push.new.self.items c.loop-object.object c.loop-object.invariant c.in_ok-push.ensures.items

pub first_failure-requires-clause-keeps : goal.first_failure-requires-clause-keeps
first_failure-requires-clause-keeps c =
    let in' = c.self.inside in
    subst (λ (p : ObjectPlan). CanKeep p in'.site) (sym c.deref.ensures)
    (can_keep (plain_workload in'.compiled.value) in'.plan.value in'.site c.self.invariant.round.accepted c.self.invariant.round.site c.self.invariant.round.plan)

pub first_failure-requires-clause-fit : goal.first_failure-requires-clause-fit
first_failure-requires-clause-fit c =
    let in' = c.self.inside in
    subst (λ (p : ObjectPlan). All (λ (o : OwnClause). SumsFit o.terms (values_of c.args.deltas.now)) (own_clauses in'.site (template_in p).clauses (config_in p)))
    (sym c.deref.ensures)
    (all_fit (plain_workload in'.compiled.value) in'.plan.value in'.site c.self.invariant.round c.args.deltas.now
    (subst (λ (v : StartValue). IsWithin (schema_of (plain_workload v.work)) v.base) (sym c.self.view_is) c.requires.base)
    (subst (λ (v : StartValue). AllWithin (schema_of (plain_workload v.work)) (λ n. values_of v.base n +ℤ values_of c.args.deltas.now n)) (sym c.self.view_is) c.requires.within))

pub returns : goal.returns
returns c =
    let in' = c.self.inside in
    let ds = c.args.deltas.now in
    let found =
    subst
    (λ (p : ObjectPlan). (before : Deltas) → Treaty (template_in p) (config_in p) in'.site before →
    ((n : ℕ) → has n c.as_slice.result.now ≡ false → values_of ds n ≡ before n) →
    c.first_failure.result ≡ finding (template_in p) (config_in p) in'.site (values_of ds)) c.deref.ensures c.first_failure.ensures in
    subst
    (λ (v : StartValue). c.first_failure.result ≡ finding_at (plain_workload v.work) v.base v.number (values_of ds)) c.self.view_is
    (finds (plain_workload in'.compiled.value) in'.plan.value in'.site c.self.invariant.round ds
    (subst (λ (v : StartValue). IsWithin (schema_of (plain_workload v.work)) v.base) (sym c.self.view_is) c.requires.base)
    (subst (λ (v : StartValue). AllWithin (schema_of (plain_workload v.work)) (λ n. values_of v.base n +ℤ values_of ds n)) (sym c.self.view_is) c.requires.within)
    c.loop-object.object (let h = c.loop-object-test.false in omega (arith, h)) c.as_slice.result.now (c.as_slice.ensures.value ∙ c.loop-object.invariant) c.first_failure.result found)
