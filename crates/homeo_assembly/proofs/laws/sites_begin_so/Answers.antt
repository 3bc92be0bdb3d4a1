use Rattle.homeo_assembly.proofs.SiteEvents.{site_start}
use Rattle.homeo_assembly.proofs.laws.sites_begin_so.Goals as goal

pub returns : goal.returns
returns c = site_start
