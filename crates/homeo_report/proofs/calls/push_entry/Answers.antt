use Rattle.std.proofs.Common.{rules, append_assoc}
use Rattle.homeo_history.specs.Key.{definitions as history_definitions}
use Rattle.homeo_report.specs.Key.{definitions}
use Rattle.homeo_report.proofs.calls.push_entry.Goals as goal

pub returns : goal.returns
unfolding definitions history_definitions
returns c = search (rules, append_assoc)
