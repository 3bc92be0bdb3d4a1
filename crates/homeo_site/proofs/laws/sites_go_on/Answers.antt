use Rattle.homeo_site.proofs.SitesHold.{local_holds}
use Rattle.homeo_site.proofs.laws.sites_go_on.Goals as goal

pub returns : goal.returns
returns c = local_holds
