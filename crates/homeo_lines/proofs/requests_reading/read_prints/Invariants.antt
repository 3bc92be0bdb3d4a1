-- Those so far are read.
use Rattle.serde_json.specs.View.{view}
use Rattle.homeo_lines.specs.Members.{printed}
use Rattle.homeo_lines.proofs.Lists.{AreFirst}
use Rattle.homeo_lines.proofs.requests_reading.read_prints.Given as goal

abbrev pub invariant-loop-item : goal.invariant-loop-item
invariant-loop-item l = AreFirst (λ k. printed) view l.items l.item-index l.prints.items
