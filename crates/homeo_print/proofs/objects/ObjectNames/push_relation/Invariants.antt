use Rattle.std.proofs.Common.{◌≡◌, ◌++◌}
use Rattle.homeo_syntax.specs.SourceView.{plain_relation, plain_workload}
use Rattle.homeo_print.proofs.NamedObjects.{first_names}
use Rattle.homeo_print.proofs.objects.ObjectNames.push_relation.Given as goal

abbrev pub invariant-loop-slot : goal.invariant-loop-slot
invariant-loop-slot l = l.self ≡ l.fn.self ++ first_names (plain_workload l.w) (plain_relation l.relation) l.slot
