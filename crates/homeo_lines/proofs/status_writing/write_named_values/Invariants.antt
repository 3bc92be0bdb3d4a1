-- The values so far are sent.
use Rattle.homeo_syntax.specs.SourceView.{plain_workload}
use Rattle.homeo_print.specs.Names.{object_names}
use Rattle.homeo_lines.proofs.Sent.{NamedUpTo}
use Rattle.homeo_lines.proofs.status_writing.write_named_values.Given as goal

abbrev pub invariant-loop-object : goal.invariant-loop-object
invariant-loop-object g l =
    NamedUpTo (object_names (plain_workload l.catalogue)) l.values l.object (g.S.Serializer.written l.initial.out) (g.S.Serializer.written l.out)
