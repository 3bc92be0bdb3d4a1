use Rattle.homeo_assembly.proofs.SiteEvents.{site_renewal}
use Rattle.homeo_assembly.proofs.laws.renewals_keep_sites.Goals as goal

pub returns : goal.returns
returns c = site_renewal
