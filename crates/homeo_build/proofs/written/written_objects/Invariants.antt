use Rattle.std.proofs.Common.{map}
use Rattle.homeo_syntax.specs.SourceView.{plain_workload}
use Rattle.homeo_build.proofs.WrittenDeltas.{Tell, first_calls}
use Rattle.homeo_build.proofs.written.written_objects.Given as goal

abbrev pub invariant-loop-i : goal.invariant-loop-i
invariant-loop-i l = Tell (plain_workload l.w) (first_calls (plain_workload l.w) l.calls l.i) (map (λ row. row.items) l.rows.items)
