use Rattle.std.proofs.Common.{◌≡◌, ◌∷◌, ◌++◌, length, take, take_all, ap, ◌∙◌, arith}
use Rattle.std.specs.Prelude.{codes}
use Rattle.homeo_syntax.specs.Key.{definitions as syntax_definitions}
use Rattle.homeo_syntax.specs.SourceView.{plain_relation, plain_workload}
use Rattle.homeo_print.specs.Key.{definitions}
use Rattle.homeo_print.specs.Names.{field_name, field_names}
use Rattle.homeo_print.proofs.objects.ObjectNames.push_slot.Goals as goal

pub returns : goal.returns
unfolding definitions syntax_definitions
returns c =
    let w = plain_workload c.args.w.now in
    let r = plain_relation c.args.relation.now in
    let fields = c.args.relation.now.fields.items in
    let all : take c.loop-field.field-index fields ≡ fields = take_all c.loop-field.field-index fields (omega (arith, c.loop-field-test.false, ap length c.as_slice-field-items.ensures)) in
    c.loop-field.invariant ∙ ap (λ some. c.args.self.now ++ field_name w r c.args.slot (codes "used") ∷ field_names w r c.args.slot some) all
