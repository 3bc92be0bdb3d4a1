use Rattle.std.proofs.Common.{◌∙◌, arith}
use Rattle.std.proofs.lemmas.Int.{ints}
use Rattle.homeo_syntax.specs.SourceView.{plain_workload}
use Rattle.homeo_build.proofs.FewSites.{read_few, read_is, some_sites}
use Rattle.homeo_site.proofs.Limits.{few_sites}
use Rattle.homeo_core.proofs.clients.site_count.Goals as goal

pub natural-requires-clause-some : goal.natural-requires-clause-some
natural-requires-clause-some c =
    let few = read_few c.args.w.now c.workload.result.now c.workload.ensures.value c.workload.ensures.accepted in
    omega (arith, ints, few.some)

pub natural-requires-clause-few : goal.natural-requires-clause-few
natural-requires-clause-few c = (read_few c.args.w.now c.workload.result.now c.workload.ensures.value c.workload.ensures.accepted).few

pub returns-clause-count : goal.returns-clause-count
returns-clause-count c = c.natural.ensures ∙ read_is c.args.w.now c.workload.result.now c.workload.ensures.value c.workload.ensures.accepted

pub returns-clause-some : goal.returns-clause-some
returns-clause-some c =
    let some = some_sites c.args.w.now c.workload.result.now c.workload.ensures.value c.workload.ensures.accepted in
    let is = returns-clause-count c in
    omega (arith, some, is)

pub returns-clause-few : goal.returns-clause-few
returns-clause-few c =
    let few = few_sites (plain_workload c.args.w.now) c.workload.ensures.accepted in
    let is = returns-clause-count c in
    omega (arith, is, few)
