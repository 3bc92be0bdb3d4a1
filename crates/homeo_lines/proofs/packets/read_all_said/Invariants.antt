-- Those so far are read.
use Rattle.std.proofs.Common.{map}
use Rattle.serde_json.specs.View.{view}
use Rattle.homeo_syntax.specs.SourceView.{plain_workload}
use Rattle.homeo_carry.specs.CarryView.{plain_said}
use Rattle.homeo_lines.specs.Read.{said_of}
use Rattle.homeo_lines.proofs.Lists.{AreFirst}
use Rattle.homeo_lines.proofs.packets.read_all_said.Given as goal

abbrev pub invariant-loop-site : goal.invariant-loop-site
invariant-loop-site l = AreFirst (said_of (plain_workload l.catalogue)) view l.items l.site (map plain_said l.states.items)
