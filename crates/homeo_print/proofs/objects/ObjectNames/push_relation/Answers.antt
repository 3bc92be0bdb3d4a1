use Rattle.std.proofs.Common.{◌≡◌, ◌++◌, sym, ap, ◌∙◌, arith}
use Rattle.homeo_syntax.specs.Key.{definitions as syntax_definitions}
use Rattle.homeo_syntax.specs.SourceView.{plain_relation, plain_workload}
use Rattle.homeo_print.proofs.NamedObjects.{first_names, relation_names_are}
use Rattle.homeo_print.proofs.objects.ObjectNames.push_relation.Goals as goal

pub returns : goal.returns
unfolding syntax_definitions
returns c =
    let w = plain_workload c.args.w.now in
    let r = plain_relation c.args.relation.now in
    let last : c.loop-slot.slot ≡ c.slot_count-slot-end.result = omega arith in
    c.loop-slot.invariant ∙ ap (λ names. c.args.self.now ++ names) (ap (first_names w r) (last ∙ c.slot_count-slot-end.ensures) ∙ sym (relation_names_are w r))
