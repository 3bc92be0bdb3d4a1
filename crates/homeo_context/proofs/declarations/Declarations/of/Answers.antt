use Rattle.std.proofs.Common.{◌≤◌, All, map, length, sym, ap, subst, ◌∙◌}
use Rattle.std.proofs.lemmas.List.{length-map}
use Rattle.homeo_syntax.specs.SourceView.{plain_relation, plain_workload}
use Rattle.homeo_syntax.specs.Key.{definitions as syntax_definitions}
use Rattle.homeo_meaning.specs.Key.{definitions}
use Rattle.homeo_meaning.specs.Schema.{declared_object, declared_relation}
use Rattle.homeo_meaning.specs.Context.{object_count}
use Rattle.homeo_context.specs.Placed.{HasSlots}
use Rattle.homeo_context.proofs.Placing.{have_slots}
use Rattle.homeo_meaning.proofs.Sound.{sound}
use Rattle.homeo_context.proofs.declarations.Declarations.of.Goals as goal

pub of_workload-requires-clause-slots : goal.of_workload-requires-clause-slots
unfolding definitions syntax_definitions
of_workload-requires-clause-slots c =
    subst (All HasSlots) (sym (ap (λ w. w.relations.items) c.workload.ensures.value)) (have_slots c.args.w.now.relations.items (sound (plain_workload c.args.w.now) c.workload.ensures.accepted).slots)

pub of_workload-requires-clause-few : goal.of_workload-requires-clause-few
unfolding definitions syntax_definitions
of_workload-requires-clause-few c =
    let w = c.workload.ensures.value in
    let count = length-map c.args.w.now.objects.items declared_object ∙ ap (λ w. length w.objects.items) (sym w) in
    let those = ap (λ w. w.relations.items) (sym w) in
    subst (λ n. n ≤ 1024) (λ j. object_count (count j) (map declared_relation (map plain_relation (those j)))) (sound (plain_workload c.args.w.now) c.workload.ensures.accepted).few
