-- What the treaties of a workload are made of: its ground calls with their L forms, and at a base their template and policy
-- (this project's rule).
use Rattle.std.specs.Prelude.{ℕ, List, map, ℤ}
use Rattle.std.specs.Option.{option_map_or}
use Rattle.homeo_syntax.specs.Source as s
use Rattle.homeo_syntax.specs.Low.{Command, Skip}
use Rattle.homeo_meaning.specs.declared.call.CallId.{CallId}
use Rattle.homeo_meaning.specs.Schema.{nat_of}
use Rattle.homeo_meaning.specs.Ground as meaning
use Rattle.homeo_meaning.specs.Serial.{values_of}
use Rattle.homeo_meaning.specs.CallForm.{ground_form}
use Rattle.homeo_plan.specs.Key.{definitions}
use Rattle.homeo_plan.specs.Template.{PlannedCall, shifted, Clause, Template, template}
use Rattle.homeo_plan.specs.Config.{Config, split_by}
use Rattle.homeo_plan.specs.Shares.{shares}

-- how many sites
abbrev pub sites_of : s.Workload → ℕ
unfolding definitions
sites_of w = nat_of w.sites.value

-- a ground call with its L form
abbrev pub planned_call : s.Workload → meaning.Ground → PlannedCall
unfolding definitions
planned_call w g = record { site = g.site; command = ground_form w g }

-- the distinct ground calls in first-seen order
abbrev pub planned : s.Workload → List PlannedCall
unfolding definitions
planned w = map (planned_call w) (meaning.grounds w)

-- their transformed commands, each for its site
abbrev pub transformed : s.Workload → List Command
unfolding definitions
transformed w = map (shifted (sites_of w)) (planned w)

-- the ground call of a client's call: at site 0 and doing nothing where there is no such call
abbrev pub planned_at : s.Workload → CallId → PlannedCall
unfolding definitions
planned_at w id = option_map_or (planned_call w) (meaning.ground_of w id) (record { site = 0; command = Skip })

-- the template of all ground calls at a base
abbrev pub template_at : s.Workload → List ℤ → Template
unfolding definitions
template_at w base = template (sites_of w) (values_of base) (planned w)

-- the shares that the sites have of a clause: by the workload's weights, and without any 1 each
abbrev pub shares_of : s.Workload → Clause → List ℕ
unfolding definitions
shares_of w c = shares (sites_of w) w.weights (planned w) c

-- the configuration of each round that begins at a base
abbrev pub policy : s.Workload → List ℤ → Config
unfolding definitions
policy w base = split_by (shares_of w) (template_at w base).clauses
