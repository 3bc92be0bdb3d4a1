use Rattle.std.proofs.Common.{◌≤◌, All, map, length, sym, ap, subst, ◌∙◌}
use Rattle.homeo_syntax.specs.SourceView.{plain_relation}
use Rattle.homeo_syntax.specs.Key.{definitions as syntax_definitions}
use Rattle.homeo_meaning.specs.Key.{definitions}
use Rattle.homeo_meaning.specs.Schema.{declared_relation}
use Rattle.homeo_meaning.specs.Context.{object_count}
use Rattle.homeo_context.specs.Placed.{HasSlots}
use Rattle.homeo_context.proofs.Tables.{numbering_is}
use Rattle.homeo_context.proofs.declarations.Declarations.of_workload.Goals as goal

pub place_relations-requires-clause-slots : goal.place_relations-requires-clause-slots
place_relations-requires-clause-slots c = subst (All HasSlots) (sym c.as_slice.ensures) c.requires.slots

pub place_relations-requires-clause-few : goal.place_relations-requires-clause-few
unfolding definitions syntax_definitions
place_relations-requires-clause-few c =
    let count = sym (ap length c.as_slice-objects.ensures) in
    let those = sym c.as_slice.ensures in
    subst (λ n. n ≤ 1024) (λ j. object_count (count j) (map declared_relation (map plain_relation (those j)))) c.requires.few

pub returns : goal.returns
unfolding definitions
returns c =
    numbering_is c.args.workload.now c.in_ok-from_slice.field-0.items c.in_ok-relations.relations.items c.in_ok-of-2.field-0
    (c.in_ok-from_slice.ensures.items ∙ c.as_slice-objects.ensures)
    (c.in_ok-relations.ensures.relations ∙ ap (λ l. map declared_relation (map plain_relation l)) c.as_slice.ensures)
    (c.in_ok-of-2.ensures ∙ c.in_ok-transaction_names.ensures ∙ ap (map (λ t. t.name.name)) c.as_slice-3.ensures)
