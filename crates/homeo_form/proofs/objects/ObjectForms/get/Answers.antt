-- What stands at the object's place, if the object stands there.
use Rattle.std.proofs.Common.{ap, ◌∙◌, arith}
use Rattle.homeo_form.specs.Objects.{form_there}
use Rattle.homeo_form.proofs.ObjectPlaces.{inside, found, missing}
use Rattle.homeo_form.proofs.objects.ObjectForms.get.Goals as goal

pub index-requires : goal.index-requires
index-requires c =
    omega (arith, inside c.args.object c.place-place.result c.args.self.now.forms.items c.if-stands_at.ensures, c.args.self.now.forms.ok.0)

pub returns-then-stands_at : goal.returns-then-stands_at
returns-then-stands_at c =
    let x = c.args.object in
    let fs = c.args.self.now.forms.items in
    found x c.place-place.result fs c.index.result.now c.if-stands_at.ensures c.index.ensures
    ∙ ap (λ n. form_there x n fs) c.place-place.ensures

pub returns-else-stands_at : goal.returns-else-stands_at
returns-else-stands_at c =
    missing _ c.if-stands_at.ensures ∙ ap (λ n. form_there c.args.object n c.args.self.now.forms.items) c.place-place.ensures
