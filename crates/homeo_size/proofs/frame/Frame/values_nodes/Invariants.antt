-- What is left, with what has been counted, is as much as the whole.
use Rattle.std.proofs.Common.{◌≡◌, map, drop}
use Rattle.homeo_syntax.specs.SourceView.{plain_field}
use Rattle.homeo_size.specs.inner.Nodes.{values_nodes}
use Rattle.homeo_size.specs.inner.Tables.{context_of}
use Rattle.homeo_size.proofs.frame.Frame.values_nodes.Given as goal

abbrev pub invariant-loop-field : goal.invariant-loop-field
invariant-loop-field l =
    values_nodes (context_of l.self) (map plain_field (drop l.field-index l.fields)) l.all ≡ values_nodes (context_of l.self) (map plain_field l.fields) l.fn.first
