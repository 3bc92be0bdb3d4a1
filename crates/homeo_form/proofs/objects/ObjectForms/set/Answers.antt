-- The form stands at the object's place, or behind the others.
use Rattle.std.proofs.Common.{is_some, set, ◌++◌, [], ◌∷◌, ap, refl, ◌∙◌, arith}
use Rattle.std.specs.Vec.{with_item}
use Rattle.homeo_form.specs.Objects.{form_there}
use Rattle.homeo_form.proofs.ObjectPlaces.{inside, some, set_again, set_last}
use Rattle.homeo_form.proofs.objects.ObjectForms.set.Goals as goal

pub index_mut-requires : goal.index_mut-requires
index_mut-requires c =
    omega (arith, inside c.args.object c.place-place.result c.args.self.now.forms.items c.if-stands_at.ensures, c.args.self.now.forms.ok.0)

pub returns-then-stands_at : goal.returns-then-stands_at
returns-then-stands_at c =
    let x = c.args.object in
    let s = c.args.self.now in
    set_again s (record { places = s.places; forms = with_item s.forms c.place-place.result (some x c.args.form) }) x c.args.form refl (ap (λ n. set s.forms.items n (some x c.args.form)) c.place-place.ensures)
    (c.if-stands_at.ensures ∙ ap (λ n. is_some (form_there x n s.forms.items)) c.place-place.ensures)

pub returns : goal.returns
returns c =
    let x = c.args.object in
    set_last c.args.self.now (record { places = c.place_last.new.self.places; forms = c.push.new.self }) x c.args.form c.in_ok-place_last.ensures.places
    (c.in_ok-push.ensures.items ∙ ap (λ l. l ++ some x c.args.form ∷ []) c.in_ok-place_last.ensures.forms)
