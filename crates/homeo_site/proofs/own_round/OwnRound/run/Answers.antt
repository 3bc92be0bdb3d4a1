-- The form that is run is that of the call, and the base is that of the round.
use Rattle.std.proofs.Common.{◌≡◌, ℕ, ◌<◌, length, Some, IfOk, sym, ap, ◌∙◌, subst}
use Rattle.std.specs.Prelude.{slice_get}
use Rattle.std.specs.declared.result.Result.{Result}
use Rattle.std.specs.declared.result.Result.TheVariants.{Ok, Err}
use Rattle.std.proofs.lemmas.Result.{IfOk-weaker}
use Rattle.homeo_syntax.specs.Low.{Command}
use Rattle.homeo_syntax.specs.LowView.{plain_lcommand}
use Rattle.homeo_syntax.specs.SourceView.{plain_workload}
use Rattle.homeo_syntax.specs.declared.workload.Workload.{Workload}
use Rattle.homeo_meaning.specs.Acceptance.{IsAccepted}
use Rattle.homeo_meaning.specs.Calls.{CallExists}
use Rattle.homeo_meaning.specs.Ground.{grounds, ground_of}
use Rattle.homeo_meaning.specs.declared.call.CallId.{CallId}
use Rattle.homeo_plan.specs.Planned.{planned, planned_at}
use Rattle.homeo_plan.specs.Template.{PlannedCall}
use Rattle.homeo_outline.specs.declared.plan.ObjectPlan.{ObjectPlan}
use Rattle.homeo_site.specs.SiteView.{StartValue, with_deltas}
use Rattle.homeo_site.proofs.OwnEvals.{StepRuns, step_runs}
use Rattle.homeo_site.proofs.CallsOfSites.{planned_there}
use Rattle.homeo_site.proofs.own_round.OwnRound.run.Goals as goal
use Rattle.homeo_site.proofs.own_round.OwnRound.run.Goals.{After-as_slice}

both_ok : {A E : Type 0} {P Q R : A → Type 0} → ((x : A) → P x → Q x → R x) → (r : Result A E) → IfOk r P → IfOk r Q → IfOk r R
both_ok h (Ok x) p q = h x p q
both_ok h (Err e) p q = tt

pub place-place-requires : goal.place-place-requires
place-place-requires c =
    subst (λ (v : Workload). CallExists (plain_workload v) c.args.call) (sym (c.deref.ensures ∙ ap (λ (v : StartValue). v.work) c.self.view_is)) c.requires.call.exists

pub form-form-requires : goal.form-form-requires
form-form-requires c =
    subst (λ (v : Workload). c.place-place.result < length (grounds (plain_workload v))) (c.deref.ensures ∙ sym c.deref-2.ensures)
    c.place-place.ensures.within

-- the form of a call, in a workload by another name
form_of :
    (u v work : Workload) (call : CallId) (n : ℕ) (f : Command) → u ≡ v → v ≡ work → n < length (grounds (plain_workload u)) →
    slice_get (grounds (plain_workload u)) n ≡ ground_of (plain_workload u) call →
    ((g : PlannedCall) → slice_get (planned (plain_workload v)) n ≡ Some g → f ≡ g.command) → f ≡ (planned_at (plain_workload work) call).command
form_of u v work call n f same is within place form =
    form (planned_at (plain_workload v) call)
    (subst (λ (z : Workload). slice_get (planned (plain_workload z)) n ≡ Some (planned_at (plain_workload z) call)) same
    (planned_there (plain_workload u) call n within place))
    ∙ ap (λ (z : Workload). (planned_at (plain_workload z) call).command) is

-- what the form that is run leaves is the call's local step
runs : (c : After-as_slice) → StepRuns (plain_workload c.args.self.now.work) (with_deltas c.args.self.now c.args.deltas.items) c.args.call (plain_lcommand c.form-form.result.now) c.as_slice.result.now
runs c =
    step_runs (plain_workload c.args.self.now.work) (with_deltas c.args.self.now c.args.deltas.items)
    (subst (λ (v : StartValue). IsAccepted (plain_workload v.work)) c.self.view_is c.self.invariant.round.accepted) c.requires.ready c.args.call
    c.requires.call (plain_lcommand c.form-form.result.now) c.as_slice.result.now
    (form_of c.deref.result.now c.deref-2.result.now c.args.self.now.work c.args.call c.place-place.result _ (c.deref.ensures ∙ sym c.deref-2.ensures)
    (c.deref-2.ensures ∙ ap (λ (v : StartValue). v.work) c.self.view_is) c.place-place.ensures.within c.place-place.ensures.place c.form-form.ensures)
    (c.as_slice.ensures ∙ ap (λ (p : ObjectPlan). p.base.items) c.deref-3.ensures ∙ ap (λ (v : StartValue). v.base) c.self.view_is)

pub local_step_in-requires-clause-places : goal.local_step_in-requires-clause-places
local_step_in-requires-clause-places c = (runs (goal.at.local_step_in-requires-clause-places c).After-as_slice).places

pub local_step_in-requires-clause-sums : goal.local_step_in-requires-clause-sums
local_step_in-requires-clause-sums c = (runs (goal.at.local_step_in-requires-clause-sums c).After-as_slice).sums

pub local_step_in-requires-clause-small : goal.local_step_in-requires-clause-small
local_step_in-requires-clause-small c = (runs (goal.at.local_step_in-requires-clause-small c).After-as_slice).small

pub returns-clause-prints : goal.returns-clause-prints
returns-clause-prints c =
    IfOk-weaker c.local_step_in.result _ _ (λ s. (runs (goal.at.returns-clause-prints c).After-as_slice).prints s.prints.items) c.local_step_in.ensures.prints

pub returns-clause-deltas : goal.returns-clause-deltas
returns-clause-deltas c =
    both_ok (λ s. (runs (goal.at.returns-clause-deltas c).After-as_slice).deltas s.deltas.items) c.local_step_in.result
    c.local_step_in.ensures.count c.local_step_in.ensures.deltas
