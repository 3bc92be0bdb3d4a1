-- What was set at the place, or what is there as a round begins.
use Rattle.std.proofs.Common.{◌∙◌}
use Rattle.std.proofs.lemmas.Result.{IfOk-weaker}
use Rattle.homeo_form.proofs.standing.Standing.form_at.Goals as goal

pub returns-in-Some : goal.returns-in-Some
returns-in-Some c = IfOk-weaker c.copy.result _ _ (λ r h. h ∙ c.in-Some.ensures) c.copy.ensures

pub returns-in-None : goal.returns-in-None
returns-in-None c = IfOk-weaker c.first_form.result _ _ (λ r h. h ∙ c.in-None.ensures) c.first_form.ensures
