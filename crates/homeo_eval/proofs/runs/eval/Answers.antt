use Rattle.std.proofs.Common.{◌≡◌, ap, sym, subst}
use Rattle.std.specs.Prelude.{IfOk, OnOk, slice_get}
use Rattle.homeo_syntax.specs.SourceView.{plain_workload}
use Rattle.homeo_meaning.specs.Acceptance.{IsLightBody}
use Rattle.homeo_meaning.specs.Serial.{outcome_at}
use Rattle.homeo_meaning.proofs.LightCalls.{ground_call_light}
use Rattle.homeo_meaning.proofs.Sound.{sound}
use Rattle.homeo_eval.proofs.runs.eval.Goals as goal

pub run_at-requires-clause-light : goal.run_at-requires-clause-light
run_at-requires-clause-light c =
    let light = ground_call_light (plain_workload c.args.w.now) c.args.transaction c.args.args.now (sound _ c.workload.ensures.accepted) c.requires.called in
    subst (λ w. IsLightBody (plain_workload w) (slice_get (plain_workload w).transactions c.args.transaction) c.args.args.now) (sym c.workload.ensures.value) light

pub returns-clause-prints : goal.returns-clause-prints
returns-clause-prints c =
    let own = ap (λ w. (outcome_at (plain_workload w) (slice_get (plain_workload w).transactions c.args.transaction) c.args.args.now c.args.base.now.items).prints) c.workload.ensures.value in
    subst (λ v. IfOk c.run_at.result (λ p. p.items ≡ v)) own c.run_at.ensures.prints

pub returns-clause-database : goal.returns-clause-database
returns-clause-database c =
    let own = ap (λ w. (outcome_at (plain_workload w) (slice_get (plain_workload w).transactions c.args.transaction) c.args.args.now c.args.base.now.items).database) c.workload.ensures.value in
    subst (λ v. OnOk c.run_at.result (c.run_at.new.base.items ≡ v)) own c.run_at.ensures.database
