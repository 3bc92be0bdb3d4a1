-- What the plan of a round over whole objects says of the deltas of its sites.
use Rattle.std.specs.Prelude.{Option, Some, None, List, [], ◌∷◌, ℤ, pos}
use Rattle.homeo_plan.specs.Config as config
use Rattle.homeo_plan.specs.PlanView.{plain_config}
use Rattle.homeo_plan.specs.Template.{Clause, Template}
use Rattle.homeo_plan.specs.declared.forms.Term.{Term}
use Rattle.homeo_plan.specs.declared.templates.Config.{Config}
use Rattle.homeo_follow.specs.ObjectTemplate.{expanded_template}
use Rattle.homeo_outline.specs.Key.{definitions}
use Rattle.homeo_outline.specs.Outlined.{Outlined}
use Rattle.homeo_outline.specs.declared.plan.ObjectPlan.{ObjectPlan}

-- clauses with these terms and slacks: 0 where there are none
abbrev pub clauses_with : List (List Term) → List ℤ → List Clause
unfolding definitions
clauses_with [] ss = []
clauses_with (ts ∷ tss) [] = record { terms = ts; slack = pos 0 } ∷ clauses_with tss []
clauses_with (ts ∷ tss) (s ∷ ss) = record { terms = ts; slack = s } ∷ clauses_with tss ss

-- the template over whole objects that has this outline and these slacks
abbrev pub template_with : Outlined → List ℤ → Template
unfolding definitions
template_with o ss = record { clauses = clauses_with o.terms ss; freezes = o.freezes }

abbrev pub template_in : ObjectPlan → Template
unfolding definitions
template_in p = expanded_template p.outline.value.sites (template_with p.outline.value p.slacks.items)

-- the configuration that is given, or else this one
abbrev pub config_or : config.Config → Option Config → config.Config
unfolding definitions
config_or other None = other
config_or other (Some given) = plain_config given

abbrev pub config_in : ObjectPlan → config.Config
unfolding definitions
config_in p = config_or (config.even p.outline.value.sites (template_in p).clauses) p.bounds
