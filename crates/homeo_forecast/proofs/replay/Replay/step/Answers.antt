-- The form that is run is that of the call, from the deltas of its site, and what it leaves is the call's visit.
use Rattle.std.proofs.Common.{sym, IfOk, arith}
use Rattle.std.specs.declared.result.Result.{Result}
use Rattle.std.specs.declared.result.Result.TheVariants.{Ok, Err}
use Rattle.homeo_syntax.specs.LowView.{plain_lcommand}
use Rattle.homeo_syntax.specs.SourceView.{plain_workload}
use Rattle.homeo_plan.specs.Planned.{planned_at}
use Rattle.homeo_site.proofs.CallsOfSites.{planned_there}
use Rattle.homeo_site.proofs.OwnEvals.{run_places, run_sums, run_small, run_deltas}
use Rattle.homeo_forecast.proofs.CallSteps.{IsCallHere, site_there, ready_there, step_there}
use Rattle.homeo_forecast.proofs.replay.Replay.step.Goals as goal

all_ok :
    {A E : Type 0} {P Q R S : A → Type 0} → ((x : A) → P x → Q x → R x → S x) → (r : Result A E) → IfOk r P → IfOk r Q → IfOk r R → IfOk r S
all_ok h (Ok x) p q r = h x p q r
all_ok h (Err e) p q r = tt

pub index-requires : goal.index-requires
index-requires c =
    let here : IsCallHere (plain_workload c.args.c.now) c.args.plan.now c.args.call c.args.site =
    record { accepted = c.requires.accepted; plan = c.requires.plan; exists = c.requires.exists; at = c.requires.site } in
    let there = site_there here c.requires.replay.is in
    omega (arith, there, c.args.self.now.deltas.ok.0)

pub local_step-requires-clause-places : goal.local_step-requires-clause-places
local_step-requires-clause-places c =
    let w = plain_workload c.args.c.now in
    let p = c.args.plan.now in
    let here : IsCallHere w p c.args.call c.args.site =
    record { accepted = c.requires.accepted; plan = c.requires.plan; exists = c.requires.exists; at = c.requires.site } in
    let ready = ready_there here c.requires.replay.is c.index.result.now c.index.ensures c.as_slice-deltas.result.now c.as_slice-deltas.ensures in
    let form = c.form.ensures (planned_at w c.args.call) (planned_there w c.args.call c.place-place.result c.place-place.ensures.within c.place-place.ensures.place) in
    run_places w p.base.items _ c.args.site c.as_slice-deltas.result.now c.requires.accepted ready c.args.call c.requires.exists (sym c.requires.site)
    (plain_lcommand c.form.result.now) c.as_slice.result.now form c.as_slice.ensures

pub local_step-requires-clause-sums : goal.local_step-requires-clause-sums
local_step-requires-clause-sums c =
    let w = plain_workload c.args.c.now in
    let p = c.args.plan.now in
    let here : IsCallHere w p c.args.call c.args.site =
    record { accepted = c.requires.accepted; plan = c.requires.plan; exists = c.requires.exists; at = c.requires.site } in
    let ready = ready_there here c.requires.replay.is c.index.result.now c.index.ensures c.as_slice-deltas.result.now c.as_slice-deltas.ensures in
    let form = c.form.ensures (planned_at w c.args.call) (planned_there w c.args.call c.place-place.result c.place-place.ensures.within c.place-place.ensures.place) in
    run_sums w p.base.items _ c.args.site c.as_slice-deltas.result.now c.requires.accepted ready c.args.call c.requires.exists (sym c.requires.site)
    (plain_lcommand c.form.result.now) c.as_slice.result.now form c.as_slice.ensures

pub local_step-requires-clause-small : goal.local_step-requires-clause-small
local_step-requires-clause-small c =
    let w = plain_workload c.args.c.now in
    let p = c.args.plan.now in
    let here : IsCallHere w p c.args.call c.args.site =
    record { accepted = c.requires.accepted; plan = c.requires.plan; exists = c.requires.exists; at = c.requires.site } in
    let ready = ready_there here c.requires.replay.is c.index.result.now c.index.ensures c.as_slice-deltas.result.now c.as_slice-deltas.ensures in
    let form = c.form.ensures (planned_at w c.args.call) (planned_there w c.args.call c.place-place.result c.place-place.ensures.within c.place-place.ensures.place) in
    run_small w p.base.items _ c.args.site c.as_slice-deltas.result.now c.requires.accepted ready c.args.call c.requires.exists (sym c.requires.site)
    (plain_lcommand c.form.result.now) c.as_slice.result.now form c.as_slice.ensures

pub returns : goal.returns
returns c = λ before kept.
    let w = plain_workload c.args.c.now in
    let p = c.args.plan.now in
    let here : IsCallHere w p c.args.call c.args.site =
    record { accepted = c.requires.accepted; plan = c.requires.plan; exists = c.requires.exists; at = c.requires.site } in
    let ready = ready_there here kept c.index.result.now c.index.ensures c.as_slice-deltas.result.now c.as_slice-deltas.ensures in
    let form = c.form.ensures (planned_at w c.args.call) (planned_there w c.args.call c.place-place.result c.place-place.ensures.within c.place-place.ensures.place) in
    all_ok
    (λ s count left others. step_there here kept c.index.result.now c.index.ensures c.as_slice-deltas.result.now c.as_slice-deltas.ensures
    s.deltas.items s.written.items count
    (run_deltas w p.base.items _ c.args.site c.as_slice-deltas.result.now c.requires.accepted ready c.args.call c.requires.exists (sym c.requires.site)
    (plain_lcommand c.form.result.now) c.as_slice.result.now form c.as_slice.ensures
    s.deltas.items left) others)
    c.local_step.result c.local_step.ensures.count c.local_step.ensures.deltas c.local_step.ensures.written
