use Rattle.std.proofs.Common.{rules, append_assoc}
use Rattle.homeo_report.specs.Key.{definitions}
use Rattle.homeo_report.proofs.rounds.push_closing_heading.Goals as goal

pub returns : goal.returns
unfolding definitions
returns c = search (rules, append_assoc)
