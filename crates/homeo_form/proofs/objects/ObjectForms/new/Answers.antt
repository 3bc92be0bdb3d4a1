-- No object has a form.
use Rattle.std.proofs.Common.{get_or, ap}
use Rattle.homeo_form.specs.Key.{definitions}
use Rattle.homeo_form.specs.Objects.{form_there}
use Rattle.homeo_form.proofs.objects.ObjectForms.new.Goals as goal

pub returns : goal.returns
unfolding definitions
returns c = λ x. ap (form_there x (get_or c.new.result.items x 0)) c.new-2.ensures.items
