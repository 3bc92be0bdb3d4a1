-- Sets of atoms that can be put one after another.
use Rattle.homeo_meaning.specs.Small.{IsSmall}
use Rattle.homeo_plan.specs.declared.forms.AtomSet.{AtomSet}
use Rattle.homeo_plan.specs.Each.{Each}
use Rattle.homeo_plan.specs.PlanView.{plain_atoms}
use Rattle.homeo_plan.specs.Limit.{form_limit}

-- no constant of the set's atoms is too large
abbrev pub AreSmall : AtomSet → Type 0
AreSmall s = Each (λ a. IsSmall form_limit a.constant) (plain_atoms s)
