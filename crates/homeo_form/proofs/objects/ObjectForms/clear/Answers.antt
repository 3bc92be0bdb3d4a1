-- No object has a form.
use Rattle.std.proofs.Common.{ap}
use Rattle.homeo_form.specs.Key.{definitions}
use Rattle.homeo_form.specs.Objects.{form_there, place_in}
use Rattle.homeo_form.proofs.objects.ObjectForms.clear.Goals as goal

pub returns : goal.returns
unfolding definitions
returns c = λ x. ap (form_there x (place_in c.args.self.now x)) c.clear.ensures.items
