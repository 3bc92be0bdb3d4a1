use Rattle.std.proofs.Common.{◌≡◌, ◌++◌, take}
use Rattle.homeo_syntax.specs.SourceView.{plain_workload}
use Rattle.homeo_print.specs.Names.{declared_names}
use Rattle.homeo_print.proofs.objects.ObjectNames.push_declared.Given as goal

abbrev pub invariant-loop-object : goal.invariant-loop-object
invariant-loop-object l = l.self ≡ l.fn.self ++ declared_names (plain_workload l.w) (take l.object-index l.objects)
