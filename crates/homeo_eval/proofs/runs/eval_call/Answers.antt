use Rattle.std.proofs.Common.{◌≡◌, map, ap, sym, subst, ◌∙◌}
use Rattle.std.specs.Prelude.{IfOk, OnOk, slice_get}
use Rattle.homeo_syntax.specs.SourceView.{plain_call, plain_workload}
use Rattle.homeo_syntax.specs.Key.{definitions as syntax_definitions}
use Rattle.homeo_meaning.specs.Acceptance.{IsLightBody}
use Rattle.homeo_meaning.specs.Serial.{call_of, outcome_at}
use Rattle.homeo_eval.proofs.Outcomes.{placed_call}
use Rattle.homeo_meaning.proofs.Sound.{sound}
use Rattle.homeo_eval.proofs.runs.eval_call.Goals as goal

pub run_at-requires-clause-light : goal.run_at-requires-clause-light
unfolding syntax_definitions
run_at-requires-clause-light c =
    let value = c.workload-workload.ensures.value in
    let w = plain_workload c.args.w.now in
    let made = ap (λ w. call_of (plain_workload w) c.args.call) (sym value) ∙ c.find_call-called.ensures in
    let given = c.as_slice-2.ensures.value ∙ c.in_ok-args.ensures ∙ ap (map (λ a. a.value)) c.as_slice.ensures in
    let call = placed_call w c.args.call (plain_call c.find_call-called.result.now) c.args.declared.now c.transaction-place.result c.as_slice-2.result.now (sound w c.workload-workload.ensures.accepted) made c.requires.declared c.transaction-place.ensures given in
    subst (λ w. IsLightBody (plain_workload w) (slice_get (plain_workload w).transactions c.transaction-place.result) c.as_slice-2.result.now) (sym value) call.light

pub returns-clause-prints : goal.returns-clause-prints
unfolding syntax_definitions
returns-clause-prints c =
    let value = c.workload-workload.ensures.value in
    let w = plain_workload c.args.w.now in
    let made = ap (λ w. call_of (plain_workload w) c.args.call) (sym value) ∙ c.find_call-called.ensures in
    let given = c.as_slice-2.ensures.value ∙ c.in_ok-args.ensures ∙ ap (map (λ a. a.value)) c.as_slice.ensures in
    let call = placed_call w c.args.call (plain_call c.find_call-called.result.now) c.args.declared.now c.transaction-place.result c.as_slice-2.result.now (sound w c.workload-workload.ensures.accepted) made c.requires.declared c.transaction-place.ensures given in
    let base = c.args.database.now.items in
    let own = ap (λ w. (outcome_at (plain_workload w) (slice_get (plain_workload w).transactions c.transaction-place.result) c.as_slice-2.result.now base).prints) value in
    subst (λ v. IfOk c.run_at.result (λ p. p.items ≡ v)) (own ∙ ap (λ o. o.prints) (call.outcome base)) c.run_at.ensures.prints

pub returns-clause-database : goal.returns-clause-database
unfolding syntax_definitions
returns-clause-database c =
    let value = c.workload-workload.ensures.value in
    let w = plain_workload c.args.w.now in
    let made = ap (λ w. call_of (plain_workload w) c.args.call) (sym value) ∙ c.find_call-called.ensures in
    let given = c.as_slice-2.ensures.value ∙ c.in_ok-args.ensures ∙ ap (map (λ a. a.value)) c.as_slice.ensures in
    let call = placed_call w c.args.call (plain_call c.find_call-called.result.now) c.args.declared.now c.transaction-place.result c.as_slice-2.result.now (sound w c.workload-workload.ensures.accepted) made c.requires.declared c.transaction-place.ensures given in
    let base = c.args.database.now.items in
    let own = ap (λ w. (outcome_at (plain_workload w) (slice_get (plain_workload w).transactions c.transaction-place.result) c.as_slice-2.result.now base).database) value in
    subst (λ v. OnOk c.run_at.result (c.run_at.new.base.items ≡ v)) (own ∙ ap (λ o. o.database) (call.outcome base)) c.run_at.ensures.database
