-- One more delta that was written.
use Rattle.std.proofs.Common.{get_or, ap, sym, ◌∙◌, refl}
use Rattle.std.specs.List.{flat_map}
use Rattle.homeo_plan.specs.declared.forms.Delta.{Delta}
use Rattle.homeo_certificate.specs.Followed.{not_frozen, remote_deltas}
use Rattle.homeo_verify.specs.inner.Follows.{rules_in, written_faults}
use Rattle.homeo_verify.proofs.FlatSteps.{flat_stops, flat_goes_on, flat_ends}
use Rattle.homeo_verify.proofs.Stopping.{stop_with, stops_as}
use Rattle.homeo_verify.proofs.following.Following.end.Goals as goal

pub loop-delta-init : goal.loop-delta-init
loop-delta-init c = refl

pub returns-in_err-freeze_remote : goal.returns-in_err-freeze_remote
returns-in_err-freeze_remote c =
    let s = c.args.self in
    let ds = c.deref-delta-items.result.now in
    let zero : Delta = record { object = 0; site = 0 } in
    let here = ap (λ a. not_frozen (rules_in s) (remote_deltas (rules_in s) a)) c.in_ok-form.ensures in
    stop_with _ c.from_residual-in_err-freeze_remote.result _ c.from_residual-in_err-freeze_remote.ensures.1
    (stops_as _ _ _ (ap (flat_map (written_faults s)) (c.deref-delta-items.ensures.value ∙ c.in_ok-written.ensures))
    (flat_stops (written_faults s) ds c.loop-delta.delta-index (get_or ds c.loop-delta.delta-index zero) zero c.loop-delta-test.true refl c.loop-delta.invariant _
    (stops_as _ _ _ here c.in_err-freeze_remote.ensures)))

pub loop-delta-preserved : goal.loop-delta-preserved
loop-delta-preserved c =
    let s = c.args.self in
    let ds = c.deref-delta-items.result.now in
    let zero : Delta = record { object = 0; site = 0 } in
    let here = ap (λ a. not_frozen (rules_in s) (remote_deltas (rules_in s) a)) c.in_ok-form.ensures in
    flat_goes_on (written_faults s) ds c.loop-delta.delta-index (get_or ds c.loop-delta.delta-index zero) zero c.loop-delta-test.true refl c.loop-delta.invariant
    (sym here ∙ c.in_ok-freeze_remote.ensures)

pub returns : goal.returns
returns c =
    let s = c.args.self in
    ap (flat_map (written_faults s)) (sym (c.deref-delta-items.ensures.value ∙ c.in_ok-written.ensures))
    ∙ flat_ends (written_faults s) c.deref-delta-items.result.now c.loop-delta.delta-index c.loop-delta-test.false c.loop-delta.invariant
