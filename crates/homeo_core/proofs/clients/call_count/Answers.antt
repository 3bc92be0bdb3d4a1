use Rattle.std.proofs.Common.{ap, ◌∙◌, length}
use Rattle.homeo_core.proofs.SitesOfClients.{counted}
use Rattle.homeo_core.proofs.clients.call_count.Goals as goal

pub returns-clause-count : goal.returns-clause-count
returns-clause-count c = ap length c.as_slice.ensures ∙ counted c.args.w.now c.args.client c.client_of.result.now c.client_of.ensures.found
