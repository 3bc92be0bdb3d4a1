use Rattle.std.proofs.Common.{◌≡◌, ◌∙◌, IfOk, subst, ap}
use Rattle.homeo_syntax.specs.SourceView.{plain_workload}
use Rattle.homeo_rules.specs.inner.Deciding.{keep_all}
use Rattle.homeo_meaning.specs.GlobalNames.{scope_of}
use Rattle.homeo_meaning.specs.NumberRules.{limit_faults}
use Rattle.homeo_meaning.specs.CallRules.{schedule_faults}
use Rattle.homeo_rules.proofs.Joining.{with-names}
use Rattle.homeo_rules.proofs.decision.text.Goals as goal

pub returns : goal.returns
returns c =
    let w = plain_workload c.args.w.now in
    let two = c.limits-best.ensures ∙ ap (λ b. keep_all b (limit_faults w)) c.in_ok-best.ensures in
    let e = ap (λ b. keep_all b (schedule_faults c.args.purpose (scope_of w) w.clients w.end w.schedule)) two ∙ with-names c.args.purpose w c.args.best in
    subst (λ v. IfOk c.schedule.result (λ b. b ≡ v)) e c.schedule.ensures
