-- The template that an outline and slacks stand for.
use Rattle.std.specs.Prelude.{◌≡◌, List, ℤ}
use Rattle.homeo_syntax.specs.Source as s
use Rattle.homeo_plan.specs.Planned.{sites_of, template_at}
use Rattle.homeo_plan.specs.Template.{Template}
use Rattle.homeo_follow.specs.ObjectTemplate.{expanded_template}
use Rattle.homeo_outline.specs.Leaders.{Lead}
use Rattle.homeo_outline.specs.ObjectPlan.{template_with}
use Rattle.homeo_build.specs.declared.calls.SharedTemplate.{SharedTemplate}

-- over the deltas of the sites
abbrev pub spread : SharedTemplate → Template
spread t = expanded_template t.outline.value.sites (template_with t.outline.value t.slacks.items)

-- it is a workload's at a base of these values, and its leaders lead its clauses
pub record IsTemplateAt (w : s.Workload) (values : List ℤ) (t : SharedTemplate) : Type 0 where
  pub sites : t.outline.value.sites ≡ sites_of w
  pub template : spread t ≡ template_at w values
  pub led : Lead t.outline.value.terms t.slacks.items t.leaders.value
