-- The items so far are sent.
use Rattle.std.proofs.Common.{drop}
use Rattle.homeo_syntax.specs.SourceView.{plain_workload}
use Rattle.homeo_lines.proofs.Sent.{SendsUpTo}
use Rattle.homeo_lines.proofs.written.write_each.Given as goal

abbrev pub invariant-loop-item : goal.invariant-loop-item
invariant-loop-item g l =
    SendsUpTo (g.T.Written.json (plain_workload l.catalogue)) l.items (drop l.item-index l.items) (g.S.Serializer.written l.initial.out) (g.S.Serializer.written l.out)
