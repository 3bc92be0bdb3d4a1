-- The effect is that of the call's form at the round's base, and stands for the call there.
use Rattle.std.proofs.Common.{◌≡◌, length, Some, IfOk, slice_get, sym, ap, ◌∙◌, subst}
use Rattle.std.specs.declared.result.Result.{Result}
use Rattle.std.specs.declared.result.Result.TheVariants.{Ok, Err}
use Rattle.std.proofs.lemmas.Result.{IfOk-weaker}
use Rattle.homeo_syntax.specs.SourceView.{plain_workload}
use Rattle.homeo_syntax.specs.declared.workload.Workload.{Workload}
use Rattle.homeo_meaning.specs.Acceptance.{IsAccepted}
use Rattle.homeo_meaning.specs.Serial.{values_of}
use Rattle.homeo_outline.specs.declared.plan.ObjectPlan.{ObjectPlan}
use Rattle.homeo_plan.specs.Planned.{planned, planned_at}
use Rattle.homeo_follow.specs.Follow.{followed}
use Rattle.homeo_linear.specs.Effect.{IsEffect}
use Rattle.homeo_site.specs.SiteView.{StartValue, with_deltas}
use Rattle.homeo_site.specs.inner.Effects.{AreKept, printed}
use Rattle.homeo_site.proofs.CallsOfSites.{planned_there}
use Rattle.homeo_site.proofs.StepsByForms.{Leaves, left_there, prints_by, leaves_by}
use Rattle.homeo_site.proofs.own_round.OwnRound.step.Goals as goal
use Rattle.homeo_site.proofs.own_round.OwnRound.step.Goals.{After-step_by}

all_ok :
    {A E : Type 0} {P Q R S : A → Type 0} → ((x : A) → P x → Q x → R x → S x) → (r : Result A E) → IfOk r P → IfOk r Q → IfOk r R → IfOk r S
all_ok h (Ok x) p q r = h x p q r
all_ok h (Err e) p q r = tt

-- the effect is that of the call
effect_is :
    (c : After-step_by) →
    IsEffect (followed (values_of c.args.self.now.base) (planned_at (plain_workload c.args.self.now.work) c.args.call).command) c.in-Some.effect.now
effect_is c =
    let kept = subst (λ (v : StartValue). AreKept v c.self.inside.effects) c.self.view_is c.self.invariant.effects in
    let there =
    subst (λ (z : Workload). slice_get (planned (plain_workload z)) c.place-place.result ≡ Some (planned_at (plain_workload z) c.args.call))
    (c.deref.ensures ∙ ap (λ (v : StartValue). v.work) c.self.view_is)
    (planned_there (plain_workload c.deref.result.now) c.args.call c.place-place.result c.place-place.ensures.within c.place-place.ensures.place) in
    c.in-Some.ensures c.args.self.now kept _ there

accepted : (c : After-step_by) → IsAccepted (plain_workload c.args.self.now.work)
accepted c = subst (λ (v : StartValue). IsAccepted (plain_workload v.work)) c.self.view_is c.self.invariant.round.accepted

same_deltas : (c : After-step_by) → c.as_slice.result.now ≡ c.args.deltas.items
same_deltas c = c.as_slice.ensures ∙ c.list.ensures ∙ sym c.requires.copy

-- what it leaves
leaves :
    (c : After-step_by) → IfOk c.step_by.result (λ s.
    Leaves (plain_workload c.args.self.now.work) (with_deltas c.args.self.now c.args.deltas.items) c.args.call s.written.items s.deltas.items)
leaves c =
    let u = c.args.self.now in
    let same = same_deltas c in
    let base = c.as_slice-base.ensures ∙ ap (λ (p : ObjectPlan). p.base.items) c.deref-in-Some.ensures ∙ ap (λ (v : StartValue). v.base) c.self.view_is in
    all_ok (λ s count left written.
    leaves_by (plain_workload u.work) (with_deltas u c.args.deltas.items) (accepted c) c.requires.ready c.args.call c.requires.call
    c.in-Some.effect.now (effect_is c) s.deltas.items (count ∙ ap length same)
    (left_there _ _ _ _ c.in-Some.effect.now s.deltas.items base same left) s.written.items written)
    c.step_by.result c.step_by.ensures.count c.step_by.ensures.deltas c.step_by.ensures.written

pub returns-in-Some-clause-prints : goal.returns-in-Some-clause-prints
returns-in-Some-clause-prints c =
    let e = (goal.at.returns-in-Some-clause-prints c).After-step_by in
    let u = c.args.self.now in
    IfOk-weaker c.step_by.result _ _
    (λ s p. p ∙ ap (λ ds. printed ds c.in-Some.effect.now.prints.items) (same_deltas e)
    ∙ prints_by (plain_workload u.work) (with_deltas u c.args.deltas.items) (accepted e) c.requires.ready c.args.call c.requires.call
    c.in-Some.effect.now (effect_is e)) c.step_by.ensures.prints

pub returns-in-Some-clause-deltas : goal.returns-in-Some-clause-deltas
returns-in-Some-clause-deltas c =
    IfOk-weaker c.step_by.result _ _ (λ s h. h.deltas) (leaves (goal.at.returns-in-Some-clause-deltas c).After-step_by)

pub returns-in-Some-clause-written : goal.returns-in-Some-clause-written
returns-in-Some-clause-written c =
    IfOk-weaker c.step_by.result _ _ (λ s h. h.others) (leaves (goal.at.returns-in-Some-clause-written c).After-step_by)
