-- Those so far are read.
use Rattle.std.proofs.Common.{map}
use Rattle.serde_json.specs.View.{view}
use Rattle.homeo_syntax.specs.SourceView.{plain_workload}
use Rattle.homeo_live.specs.LiveView.{plain_state}
use Rattle.homeo_lines.specs.Read.{maybe, said_of}
use Rattle.homeo_lines.proofs.Lists.{AreFirst}
use Rattle.homeo_lines.proofs.state_reading.read_all_kept.Given as goal

abbrev pub invariant-loop-site : goal.invariant-loop-site
invariant-loop-site l = AreFirst (λ site. maybe (said_of (plain_workload l.catalogue) site)) view l.items l.site (map plain_state l.states.items)
