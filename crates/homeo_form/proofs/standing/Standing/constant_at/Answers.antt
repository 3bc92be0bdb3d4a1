-- What was set at the place, or what is there as a round begins.
use Rattle.std.proofs.Common.{rules, ap, ◌∙◌}
use Rattle.homeo_plan.specs.Linear.{Linear}
use Rattle.homeo_form.proofs.Widths.{kept_is}
use Rattle.homeo_form.proofs.standing.Standing.constant_at.Goals as goal

pub returns-in-Some : goal.returns-in-Some
returns-in-Some c = kept_is c.constant.result _ (search rules) (c.constant.ensures ∙ ap (λ (a : Linear). a.constant) c.in-Some.ensures)

pub returns-in-None : goal.returns-in-None
returns-in-None c = kept_is c.first_constant.result _ (search rules) (c.first_constant.ensures ∙ ap (λ (a : Linear). a.constant) c.in-None.ensures)
