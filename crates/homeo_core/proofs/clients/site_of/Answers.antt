use Rattle.std.proofs.Common.{sym, subst}
use Rattle.homeo_syntax.specs.SourceView.{plain_workload}
use Rattle.homeo_history.specs.Legal.{IsClientAt}
use Rattle.homeo_core.proofs.SitesOfClients.{read_few, read_site}
use Rattle.homeo_core.proofs.clients.site_of.Goals as goal

pub natural-requires-clause-some : goal.natural-requires-clause-some
natural-requires-clause-some c =
    (read_few c.args.w.now c.args.client c.client_of.result.now c.client_of.ensures.accepted c.client_of.ensures.found).some

pub natural-requires-clause-few : goal.natural-requires-clause-few
natural-requires-clause-few c =
    (read_few c.args.w.now c.args.client c.client_of.result.now c.client_of.ensures.accepted c.client_of.ensures.found).few

pub returns : goal.returns
returns c =
    subst (λ n. IsClientAt (plain_workload c.args.w.now) n c.args.client) (sym c.natural.ensures)
    (read_site c.args.w.now c.args.client c.client_of.result.now c.client_of.ensures.accepted c.client_of.ensures.found)
