use Rattle.std.proofs.Common.{◌∙◌, arith}
use Rattle.homeo_build.proofs.FewSites.{read_few, read_is, some_sites}
use Rattle.homeo_build.proofs.sites.site_count.Goals as goal

pub natural-requires-clause-some : goal.natural-requires-clause-some
natural-requires-clause-some c = (read_few c.args.w.now c.workload.result.now c.workload.ensures.value c.workload.ensures.accepted).some

pub natural-requires-clause-few : goal.natural-requires-clause-few
natural-requires-clause-few c = (read_few c.args.w.now c.workload.result.now c.workload.ensures.value c.workload.ensures.accepted).few

pub returns-clause-sites : goal.returns-clause-sites
returns-clause-sites c = c.natural.ensures ∙ read_is c.args.w.now c.workload.result.now c.workload.ensures.value c.workload.ensures.accepted

pub returns-clause-some : goal.returns-clause-some
returns-clause-some c =
    let some = some_sites c.args.w.now c.workload.result.now c.workload.ensures.value c.workload.ensures.accepted in
    let is = returns-clause-sites c in
    omega (arith, some, is)
