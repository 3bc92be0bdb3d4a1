-- Those so far are distinct texts.
use Rattle.serde_json.specs.View.{view}
use Rattle.homeo_lines.proofs.Distinct.{AreDistinct}
use Rattle.homeo_lines.proofs.members.texts.Given as goal

abbrev pub invariant-loop-item : goal.invariant-loop-item
invariant-loop-item l = AreDistinct view l.items l.item-index l.texts.items
