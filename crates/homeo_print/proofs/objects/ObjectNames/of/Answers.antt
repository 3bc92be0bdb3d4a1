use Rattle.std.proofs.Common.{◌≡◌, ◌++◌, take, take_all, length, sym, ap, ◌∙◌, arith}
use Rattle.homeo_syntax.specs.SourceView.{plain_workload}
use Rattle.homeo_print.specs.Names.{declared_names}
use Rattle.homeo_print.proofs.NamedObjects.{names_of, object_names_are}
use Rattle.homeo_print.proofs.objects.ObjectNames.of.Goals as goal

pub returns : goal.returns
returns c =
    let w = plain_workload c.args.w.now in
    let relations = c.args.w.now.relations.items in
    let all : take c.loop-relation.relation-index relations ≡ relations = take_all c.loop-relation.relation-index relations (omega (arith, c.loop-relation-test.false, ap length c.as_slice-relation-items.ensures)) in
    c.loop-relation.invariant ∙ ap (λ some. declared_names w c.args.w.now.objects.items ++ names_of w some) all ∙ sym (object_names_are c.args.w.now)
