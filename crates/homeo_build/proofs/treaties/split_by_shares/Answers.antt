use Rattle.std.proofs.Common.{sym, subst, ◌≤◌, ◌∙◌}
use Rattle.std.proofs.lemmas.Bool.{eqb-true}
use Rattle.std.proofs.lemmas.Result.{IfOk-weaker}
use Rattle.homeo_meaning.specs.Acceptance.{IsAccepted}
use Rattle.homeo_syntax.specs.SourceView.{plain_workload}
use Rattle.homeo_syntax.specs.declared.workload.Workload.{Workload}
use Rattle.homeo_plan.specs.PlanView.{plain_template}
use Rattle.homeo_plan.proofs.Policy.{some_sites}
use Rattle.homeo_build.proofs.SiteShares.{no_weights, by_even}
use Rattle.homeo_build.proofs.treaties.split_by_shares.Goals as goal

pub split_even-requires-clause-sites : goal.split_even-requires-clause-sites
split_even-requires-clause-sites c =
    let accepted = subst (λ (v : Workload). IsAccepted (plain_workload v)) c.workload.ensures c.workload-2.ensures.accepted in
    subst (λ n. 1 ≤ n) (sym c.requires.sites) (some_sites (plain_workload c.args.c.now) accepted)

pub returns-then-is_empty : goal.returns-then-is_empty
returns-then-is_empty c =
    let same = c.workload-2.ensures.value ∙ c.workload.ensures in
    let accepted = subst (λ (v : Workload). IsAccepted (plain_workload v)) c.workload.ensures c.workload-2.ensures.accepted in
    let none = no_weights c.args.c.now c.workload-2.result.now accepted same c.as_slice.result.now c.as_slice.ensures (eqb-true _ _ (sym c.if-is_empty.ensures)) in
    IfOk-weaker c.split_even.result _ _
    (λ made is. is ∙ by_even (plain_workload c.args.c.now) c.args.t.now.sites (plain_template c.args.t.now).clauses c.requires.sites none)
    c.split_even.ensures.bounds
