-- The number 0.
use Rattle.std.proofs.Common.{pos, subst, sym}
use Rattle.homeo_meaning.specs.Small.{IsSmall}
use Rattle.homeo_plan.specs.FormSizes.{Numbers}
use Rattle.homeo_plan.specs.Limit.{form_limit}
use Rattle.homeo_form.proofs.CheckedSteps.{number_is_small}
use Rattle.homeo_form.proofs.RunningSums.{zero_small}
use Rattle.homeo_form.proofs.form.running.RunningSum.new.Goals as goal

pub of-requires : goal.of-requires
of-requires c = subst (Numbers (IsSmall form_limit)) (sym c.number.ensures) (number_is_small (pos 0) zero_small)
