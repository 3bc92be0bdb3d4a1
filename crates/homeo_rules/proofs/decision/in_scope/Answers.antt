use Rattle.std.proofs.Common.{◌∙◌, IfOk, ap, map, subst, sym}
use Rattle.homeo_syntax.specs.LowView.{plain_lcommand}
use Rattle.homeo_syntax.specs.SourceView.{plain_workload}
use Rattle.homeo_meaning.specs.Forms.{AreForms}
use Rattle.homeo_ground.specs.Sited.{sited}
use Rattle.homeo_rules.specs.inner.Decided.{fault_of}
use Rattle.homeo_rules.proofs.Joining.{calls-are, grounds-are, places-are}
use Rattle.homeo_rules.proofs.decision.in_scope.Goals as goal

pub with_calls-requires-clause-sited : goal.with_calls-requires-clause-sited
with_calls-requires-clause-sited c =
    ap (map sited) c.as_slice-3.ensures.value
    ∙ calls-are c.args.w.now c.in_ok-calls.calls.items c.as_slice.result.now c.in_ok-calls.ensures c.as_slice.ensures

pub with_calls-requires-clause-grounds : goal.with_calls-requires-clause-grounds
with_calls-requires-clause-grounds c =
    ap (map sited) c.as_slice-4.ensures.value
    ∙ grounds-are c.args.w.now c.in_ok-numbered.numbered.calls.items c.as_slice-2.result.now c.in_ok-numbered.ensures.calls c.as_slice-2.ensures

pub returns-in-Err-clause-fault : goal.returns-in-Err-clause-fault
returns-in-Err-clause-fault c = sym (ap fault_of c.in-Err.is) ∙ c.in_ok-decided.ensures.fault

pub returns-clause-findings : goal.returns-clause-findings
returns-clause-findings c =
    record {
      calls = places-are c.args.w.now _ c.in_ok-numbered.numbered.calls.items c.as_slice-2.result.now c.in_ok-numbered.ensures.calls c.in_ok-numbered.ensures.places c.as_slice-2.ensures;
      forms = subst (λ r. IfOk r (λ f. AreForms (plain_workload c.args.w.now) (map plain_lcommand f.forms.items) f.places.items)) c.in-Ok.is c.in_ok-decided.ensures.forms;
    }
