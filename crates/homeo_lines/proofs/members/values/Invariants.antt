-- Those so far are read.
use Rattle.serde_json.specs.View.{view}
use Rattle.homeo_lines.specs.Members.{value_of}
use Rattle.homeo_lines.proofs.Lists.{AreFirst}
use Rattle.homeo_lines.proofs.members.values.Given as goal

abbrev pub invariant-loop-item : goal.invariant-loop-item
invariant-loop-item l = AreFirst (λ k. value_of) view l.items l.item-index l.values.items
