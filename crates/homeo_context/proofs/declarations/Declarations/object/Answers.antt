use Rattle.std.proofs.Common.{ap, ◌∙◌}
use Rattle.homeo_meaning.specs.Key.{definitions}
use Rattle.homeo_meaning.specs.Context.{spot}
use Rattle.homeo_meaning.specs.Declarations.{place_of}
use Rattle.homeo_context.proofs.Spots.{object_place}
use Rattle.homeo_context.proofs.declarations.Declarations.object.Goals as goal

pub returns : goal.returns
unfolding definitions
returns c =
    c.get.ensures
    ∙ ap (λ names. place_of names c.args.name) c.self.invariant.objects_named
    ∙ object_place 0 c.args.name c.self.inside.objects.items
    ∙ ap (λ d. (spot d.schema.objects c.args.name).place) c.self.view_is
