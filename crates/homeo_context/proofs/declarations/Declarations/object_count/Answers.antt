use Rattle.std.proofs.Common.{length, map, sym, ap, subst, ◌∙◌, rules}
use Rattle.std.proofs.Common.{◌≡◌}
use Rattle.std.proofs.lemmas.List.{length-map}
use Rattle.homeo_meaning.specs.Context.{object_count}
use Rattle.homeo_meaning.specs.Schema.{declared_object}
use Rattle.homeo_context.specs.Placed.{placed_relation, StandFrom}
use Rattle.homeo_context.proofs.declarations.Declarations.object_count.Goals as goal

pub count_objects-requires : goal.count_objects-requires
count_objects-requires c =
    let first : c.len.result ≡ length c.self.inside.objects.items = search rules in
    subst (λ l. StandFrom c.len.result l) (sym c.as_slice.ensures.value) (subst (λ n. StandFrom n c.self.inside.relations.items) (sym first) c.self.invariant.stand)

pub returns : goal.returns
returns c =
    let first : c.len.result ≡ length c.self.inside.objects.items = search rules in
    c.count_objects.ensures
    ∙ ap (λ l. object_count c.len.result (map placed_relation l)) c.as_slice.ensures.value
    ∙ ap (λ n. object_count n (map placed_relation c.self.inside.relations.items)) (first ∙ sym (length-map c.self.inside.objects.items declared_object))
    ∙ ap (λ d. object_count (length d.schema.objects) d.schema.relations) c.self.view_is
