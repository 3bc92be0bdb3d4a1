use Rattle.homeo_site.proofs.SitesHold.{begun_holds}
use Rattle.homeo_site.proofs.laws.sites_begin.Goals as goal

pub returns : goal.returns
returns c = begun_holds
