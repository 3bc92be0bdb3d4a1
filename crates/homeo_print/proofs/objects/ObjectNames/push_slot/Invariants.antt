use Rattle.std.proofs.Common.{◌≡◌, ◌∷◌, ◌++◌, take}
use Rattle.std.specs.Prelude.{codes}
use Rattle.homeo_syntax.specs.SourceView.{plain_relation, plain_workload}
use Rattle.homeo_print.specs.Names.{field_name, field_names}
use Rattle.homeo_print.proofs.objects.ObjectNames.push_slot.Given as goal

abbrev pub invariant-loop-field : goal.invariant-loop-field
invariant-loop-field l =
    let w = plain_workload l.w in
    let r = plain_relation l.relation in
    l.self ≡ l.fn.self ++ field_name w r l.slot (codes "used") ∷ field_names w r l.slot (take l.field-index l.relation.fields.items)
