-- The other places stay.
use Rattle.std.proofs.Common.{cond, ◌==◌, ap₂, ◌∙◌}
use Rattle.homeo_form.proofs.ObjectPlaces.{place_set}
use Rattle.homeo_form.proofs.objects.ObjectForms.place_last.Goals as goal

pub returns-clause-places : goal.returns-clause-places
returns-clause-places c = λ x.
    place_set c.reach.new.places.items c.args.object c.len.result x c.in_ok-reach.ensures.within
    ∙ ap₂ (λ n m. cond (c.args.object == x) n m) (c.len.ensures ∙ c.args.self.now.forms.ok.0) (c.in_ok-reach.ensures.same x)
