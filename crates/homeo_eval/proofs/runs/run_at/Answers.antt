use Rattle.std.proofs.Common.{◌≡◌, ap, sym, subst, ◌∙◌}
use Rattle.std.specs.Prelude.{IfOk, OnOk}
use Rattle.homeo_syntax.specs.SourceView.{plain_workload}
use Rattle.homeo_meaning.specs.Key.{definitions}
use Rattle.homeo_meaning.specs.Bounds.{IsWithin}
use Rattle.homeo_meaning.specs.Serial.{outcome_at}
use Rattle.homeo_eval.proofs.Lookups.{runs_here}
use Rattle.homeo_meaning.proofs.TransactionPlaces.{transaction_past}
use Rattle.homeo_eval.proofs.runs.run_at.Goals as goal

pub run_body-requires-clause-within : goal.run_body-requires-clause-within
run_body-requires-clause-within c =
    (runs_here c.args.workload.now c.as_slice.result.now c.args.place c.args.args.now c.in-Some.transaction.now c.as_slice-in-Some.result.now c.as_slice-in-Some-3.result.now c.in_ok-arguments-in-Some.arguments.items c.as_slice-in-Some-2.result.now c.args.declared.now c.args.base.now.items c.as_slice.ensures c.in-Some.ensures.lookup.3.0 (c.in-Some.ensures.lookup.3.1 _) c.as_slice-in-Some.ensures c.as_slice-in-Some-3.ensures.value c.in_ok-arguments-in-Some.ensures c.as_slice-in-Some-2.ensures c.requires.declared c.requires.light c.requires.within).within

pub run_body-requires-clause-runs : goal.run_body-requires-clause-runs
run_body-requires-clause-runs c =
    (runs_here c.args.workload.now c.as_slice.result.now c.args.place c.args.args.now c.in-Some.transaction.now c.as_slice-in-Some.result.now c.as_slice-in-Some-3.result.now c.in_ok-arguments-in-Some.arguments.items c.as_slice-in-Some-2.result.now c.args.declared.now c.args.base.now.items c.as_slice.ensures c.in-Some.ensures.lookup.3.0 (c.in-Some.ensures.lookup.3.1 _) c.as_slice-in-Some.ensures c.as_slice-in-Some-3.ensures.value c.in_ok-arguments-in-Some.ensures c.as_slice-in-Some-2.ensures c.requires.declared c.requires.light c.requires.within).can

pub run_body-requires-clause-after : goal.run_body-requires-clause-after
run_body-requires-clause-after c =
    (runs_here c.args.workload.now c.as_slice.result.now c.args.place c.args.args.now c.in-Some.transaction.now c.as_slice-in-Some.result.now c.as_slice-in-Some-3.result.now c.in_ok-arguments-in-Some.arguments.items c.as_slice-in-Some-2.result.now c.args.declared.now c.args.base.now.items c.as_slice.ensures c.in-Some.ensures.lookup.3.0 (c.in-Some.ensures.lookup.3.1 _) c.as_slice-in-Some.ensures c.as_slice-in-Some-3.ensures.value c.in_ok-arguments-in-Some.ensures c.as_slice-in-Some-2.ensures c.requires.declared c.requires.light c.requires.within).after

pub returns-in_ok-arguments-in-Some-clause-prints : goal.returns-in_ok-arguments-in-Some-clause-prints
returns-in_ok-arguments-in-Some-clause-prints c =
    let runs = runs_here c.args.workload.now c.as_slice.result.now c.args.place c.args.args.now c.in-Some.transaction.now c.as_slice-in-Some.result.now c.as_slice-in-Some-3.result.now c.in_ok-arguments-in-Some.arguments.items c.as_slice-in-Some-2.result.now c.args.declared.now c.args.base.now.items c.as_slice.ensures c.in-Some.ensures.lookup.3.0 (c.in-Some.ensures.lookup.3.1 _) c.as_slice-in-Some.ensures c.as_slice-in-Some-3.ensures.value c.in_ok-arguments-in-Some.ensures c.as_slice-in-Some-2.ensures c.requires.declared c.requires.light c.requires.within in
    subst (λ ps. IfOk c.run_body.result (λ p. p.items ≡ ps)) (ap (λ o. o.prints) runs.outcome) c.run_body.ensures.prints

pub returns-in_ok-arguments-in-Some-clause-database : goal.returns-in_ok-arguments-in-Some-clause-database
returns-in_ok-arguments-in-Some-clause-database c =
    let runs = runs_here c.args.workload.now c.as_slice.result.now c.args.place c.args.args.now c.in-Some.transaction.now c.as_slice-in-Some.result.now c.as_slice-in-Some-3.result.now c.in_ok-arguments-in-Some.arguments.items c.as_slice-in-Some-2.result.now c.args.declared.now c.args.base.now.items c.as_slice.ensures c.in-Some.ensures.lookup.3.0 (c.in-Some.ensures.lookup.3.1 _) c.as_slice-in-Some.ensures c.as_slice-in-Some-3.ensures.value c.in_ok-arguments-in-Some.ensures c.as_slice-in-Some-2.ensures c.requires.declared c.requires.light c.requires.within in
    subst (λ db. OnOk c.run_body.result (c.run_body.new.base.items ≡ db)) (ap (λ o. o.database) runs.outcome) c.run_body.ensures.database

pub returns-in_ok-arguments-in-Some-clause-within : goal.returns-in_ok-arguments-in-Some-clause-within
unfolding definitions
returns-in_ok-arguments-in-Some-clause-within c =
    subst (λ d. IsWithin d.schema c.run_body.new.base.items) c.requires.declared c.run_body.ensures.within

pub returns-in-None-clause-prints : goal.returns-in-None-clause-prints
unfolding definitions
returns-in-None-clause-prints c =
    let none = transaction_past c.args.workload.now c.as_slice.result.now c.args.place c.as_slice.ensures c.in-None.ensures.lookup.3 in
    ap (λ l. l.items) c.new.ensures ∙ sym (ap (λ t. (outcome_at (plain_workload c.args.workload.now) t c.args.args.now c.args.base.now.items).prints) none)

pub returns-in-None-clause-database : goal.returns-in-None-clause-database
unfolding definitions
returns-in-None-clause-database c =
    let none = transaction_past c.args.workload.now c.as_slice.result.now c.args.place c.as_slice.ensures c.in-None.ensures.lookup.3 in
    sym (ap (λ t. (outcome_at (plain_workload c.args.workload.now) t c.args.args.now c.args.base.now.items).database) none)
