-- The site is the same as before its effect was made.
use Rattle.std.proofs.Common.{◌≡◌, sym, ap, ◌∙◌, subst}
use Rattle.std.specs.Prelude.{IfOk, OnErr}
use Rattle.homeo_syntax.specs.SourceView.{plain_workload}
use Rattle.homeo_history.specs.Legal.{IsCallAt}
use Rattle.homeo_site.specs.BareView.{BareValue, IsRan, after_ran}
use Rattle.homeo_site.proofs.bare.BareSite.run.Goals as goal

pub step-requires : goal.step-requires
step-requires c =
    subst (λ (v : BareValue). IsCallAt (plain_workload v.work) v.state.number c.args.call) (sym c.prepare.ensures) c.requires

pub returns-clause-ran : goal.returns-clause-ran
returns-clause-ran c =
    subst (λ (v : BareValue). IfOk c.step.result (IsRan (plain_workload v.work) v.state c.args.call)) c.prepare.ensures c.step.ensures.ran

pub returns-clause-state : goal.returns-clause-state
returns-clause-state c =
    subst (λ (v : BareValue). IfOk c.step.result (λ r. c.step.new.self.state ≡ after_ran (plain_workload v.work) v.state c.args.call r))
    c.prepare.ensures c.step.ensures.state

pub returns-clause-work : goal.returns-clause-work
returns-clause-work c = c.step.ensures.work ∙ ap (λ (v : BareValue). v.work) c.prepare.ensures

pub returns-clause-unchanged : goal.returns-clause-unchanged
returns-clause-unchanged c = subst (λ (v : BareValue). OnErr c.step.result (c.step.new.self ≡ v)) c.prepare.ensures c.step.ensures.unchanged
