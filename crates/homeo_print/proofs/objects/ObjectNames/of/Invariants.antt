use Rattle.std.proofs.Common.{◌≡◌, ◌++◌, take}
use Rattle.homeo_syntax.specs.SourceView.{plain_workload}
use Rattle.homeo_print.specs.Names.{declared_names}
use Rattle.homeo_print.proofs.NamedObjects.{names_of}
use Rattle.homeo_print.proofs.objects.ObjectNames.of.Given as goal

abbrev pub invariant-loop-relation : goal.invariant-loop-relation
invariant-loop-relation l =
    let w = plain_workload l.w in
    l.names ≡ declared_names w l.w.objects.items ++ names_of w (take l.relation-index l.w.relations.items)
