-- Those so far are read.
use Rattle.std.proofs.Common.{map}
use Rattle.serde_json.specs.View.{view}
use Rattle.homeo_syntax.specs.SourceView.{plain_workload}
use Rattle.homeo_lines.specs.LineView.{plain_answer}
use Rattle.homeo_lines.specs.Read.{answer_of}
use Rattle.homeo_lines.proofs.Lists.{AreFirst}
use Rattle.homeo_lines.proofs.requests_reading.read_answered.Given as goal

abbrev pub invariant-loop-item : goal.invariant-loop-item
invariant-loop-item l = AreFirst (λ k. answer_of (plain_workload l.catalogue) l.site) view l.items l.item-index (map plain_answer l.answered.items)
