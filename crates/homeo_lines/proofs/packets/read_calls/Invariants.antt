-- Those so far are read.
use Rattle.serde_json.specs.View.{view}
use Rattle.homeo_syntax.specs.SourceView.{plain_workload}
use Rattle.homeo_lines.specs.Read.{call_of}
use Rattle.homeo_lines.proofs.Lists.{AreFirst}
use Rattle.homeo_lines.proofs.packets.read_calls.Given as goal

abbrev pub invariant-loop-item : goal.invariant-loop-item
invariant-loop-item l = AreFirst (λ k. call_of (plain_workload l.catalogue) l.site) view l.items l.item-index l.calls.items
