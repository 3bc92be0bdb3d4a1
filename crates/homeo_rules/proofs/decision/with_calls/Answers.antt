use Rattle.std.proofs.Common.{◌≡◌, ◌∙◌, IfOk, subst, sym}
use Rattle.homeo_syntax.specs.SourceView.{plain_workload}
use Rattle.homeo_rules.specs.inner.Decided.{fault_of}
use Rattle.homeo_rules.proofs.Joining.{text-found, text-decides, forms-decide, faultless}
use Rattle.homeo_rules.proofs.decision.with_calls.Goals as goal

pub check_forms-requires-clause-faultless : goal.check_forms-requires-clause-faultless
check_forms-requires-clause-faultless c =
    let w = plain_workload c.args.w.now in
    let found = text-found c.args.purpose w c.args.best c.in_ok-best.best c.requires.best c.in_ok-best.ensures in
    faultless c.args.purpose w (sym found ∙ c.in-None.is)

pub returns-in-Some-clause-fault : goal.returns-in-Some-clause-fault
returns-in-Some-clause-fault c =
    let w = plain_workload c.args.w.now in
    let found = text-found c.args.purpose w c.args.best c.in_ok-best.best c.requires.best c.in_ok-best.ensures in
    text-decides c.args.purpose w _ (sym found ∙ c.in-Some.is)

pub returns-in-None-clause-fault : goal.returns-in-None-clause-fault
returns-in-None-clause-fault c =
    let w = plain_workload c.args.w.now in
    let found = text-found c.args.purpose w c.args.best c.in_ok-best.best c.requires.best c.in_ok-best.ensures in
    subst (λ v. IfOk c.check_forms.result (λ r. fault_of r ≡ v)) (forms-decide c.args.purpose w (sym found ∙ c.in-None.is)) c.check_forms.ensures.fault
