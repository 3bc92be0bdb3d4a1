use Rattle.homeo_report.proofs.Accepted.{report_law}
use Rattle.homeo_report.proofs.laws.reports_tell_histories.Goals as goal

pub returns : goal.returns
returns c = report_law
