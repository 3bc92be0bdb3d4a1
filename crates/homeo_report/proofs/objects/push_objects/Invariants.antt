use Rattle.std.proofs.Common.{◌≡◌, ◌++◌, take}
use Rattle.homeo_report.specs.Report.{object_lines}
use Rattle.homeo_report.proofs.objects.push_objects.Given as goal

abbrev pub invariant-loop-object : goal.invariant-loop-object
invariant-loop-object l = l.out.items ≡ l.fn.out.items ++ object_lines l.names (take l.object l.values)
