use Rattle.std.proofs.Common.{map, ap, ◌∙◌}
use Rattle.std.proofs.lemmas.Result.{IfOk-weaker}
use Rattle.homeo_syntax.specs.SourceView.{plain_workload}
use Rattle.homeo_plan.specs.Config.{natural_list}
use Rattle.homeo_plan.specs.PlanView.{plain_clause, plain_template}
use Rattle.homeo_plan.specs.Planned.{sites_of}
use Rattle.homeo_build.proofs.SiteShares.{as_many, can_all, by_shares}
use Rattle.homeo_build.proofs.treaties.split_by_weights.Goals as goal

pub split_weighted-requires : goal.split_weighted-requires
split_weighted-requires c =
    let lend = c.as_slice.ensures.value in
    record {
      not_negative = c.requires.not_negative;
      small = c.requires.small;
      lists = as_many (plain_workload c.args.c.now) c.as_slice.result.now (map plain_clause c.args.t.now.clauses.items) (ap (map natural_list) lend ∙ c.in_ok-shares.ensures.shares);
      shares = can_all c.args.t.now.sites (sites_of (plain_workload c.args.c.now)) c.as_slice.result.now _ c.requires.sites lend c.in_ok-shares.ensures.can;
    }

pub returns : goal.returns
returns c =
    let cs = (plain_template c.args.t.now).clauses in
    let same = ap (map natural_list) c.as_slice.ensures.value ∙ c.in_ok-shares.ensures.shares in
    IfOk-weaker c.split_weighted.result _ _
    (λ made is. is ∙ by_shares (plain_workload c.args.c.now) c.as_slice.result.now cs same)
    c.split_weighted.ensures.bounds
