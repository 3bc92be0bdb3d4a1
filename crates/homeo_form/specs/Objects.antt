-- The form that was set for an object: it stands at the object's place, if the object stands there itself.
use Rattle.std.specs.Prelude.{ℕ, zero, suc, ◌==◌, cond, List, [], ◌∷◌, get_or}
use Rattle.std.specs.declared.option.Option.{Option}
use Rattle.std.specs.declared.option.Option.TheVariants.{None, Some}
use Rattle.homeo_plan.specs.Linear.{Linear}
use Rattle.homeo_form.specs.declared.objects.ObjectForm.{ObjectForm}
use Rattle.homeo_form.specs.declared.objects.ObjectForms.{ObjectForms}
use Rattle.homeo_form.specs.Key.{definitions}

-- the form at place n, where it is that of the object x
abbrev pub form_there : ℕ → ℕ → List ObjectForm → Option Linear
unfolding definitions
form_there x n [] = None
form_there x zero (o ∷ os) = cond (o.object == x) (Some o.form) None
form_there x (suc n) (o ∷ os) = form_there x n os

-- that of an object that was never set is 0
abbrev pub place_in : ObjectForms → ℕ → ℕ
place_in s x = get_or s.places.items x 0

abbrev pub form_in : ObjectForms → ℕ → Option Linear
form_in s x = form_there x (place_in s x) s.forms.items
