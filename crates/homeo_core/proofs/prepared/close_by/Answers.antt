use Rattle.homeo_syntax.specs.SourceView.{plain_workload}
use Rattle.homeo_core.proofs.SitesOfClients.{client_exists}
use Rattle.homeo_core.proofs.prepared.close_by.Goals as goal

pub site_of-site-requires : goal.site_of-site-requires
site_of-site-requires c = record { exists = client_exists (plain_workload c.args.w.now) c.args.call c.requires.exists }
