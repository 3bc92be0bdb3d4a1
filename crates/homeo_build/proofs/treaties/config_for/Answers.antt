use Rattle.std.proofs.Common.{ap, sym, ◌∙◌}
use Rattle.std.proofs.lemmas.Result.{IfOk-weaker}
use Rattle.homeo_syntax.specs.SourceView.{plain_workload}
use Rattle.homeo_plan.specs.Config.{split_by}
use Rattle.homeo_plan.specs.PlanView.{plain_template}
use Rattle.homeo_plan.specs.Planned.{shares_of}
use Rattle.homeo_outline.specs.Key.{definitions}
use Rattle.homeo_outline.specs.ObjectPlan.{config_or}
use Rattle.homeo_build.proofs.treaties.config_for.Goals as goal

pub returns-in-Some : goal.returns-in-Some
unfolding definitions
returns-in-Some c = ap (config_or (split_by (shares_of (plain_workload c.args.c.now)) (plain_template c.args.t.now).clauses)) (sym c.in-Some.is)

pub returns-in-None : goal.returns-in-None
unfolding definitions
returns-in-None c =
    let by_shares = split_by (shares_of (plain_workload c.args.c.now)) (plain_template c.args.t.now).clauses in
    IfOk-weaker c.split_by_shares.result _ _ (λ made is. is ∙ ap (config_or by_shares) (sym c.in-None.is)) c.split_by_shares.ensures
