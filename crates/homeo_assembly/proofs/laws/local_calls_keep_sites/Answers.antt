use Rattle.homeo_assembly.proofs.SiteEvents.{local_event}
use Rattle.homeo_assembly.proofs.laws.local_calls_keep_sites.Goals as goal

pub returns : goal.returns
returns c = local_event
