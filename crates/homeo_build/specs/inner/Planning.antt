-- Ground calls that can be compiled, and commands that can be planned.
use Rattle.std.specs.Prelude.{◌≡◌, ◌<◌, true, List, ℤ}
use Rattle.homeo_syntax.specs.Low.{Command}
use Rattle.homeo_syntax.specs.Source as s
use Rattle.homeo_meaning.specs.Ground.{Ground}
use Rattle.homeo_meaning.specs.LowMeaning.{whole}
use Rattle.homeo_meaning.specs.Serial.{values_of}
use Rattle.homeo_ground.specs.Grounding.{IsCalled}
use Rattle.homeo_plan.specs.Limit.{form_limit}
use Rattle.homeo_plan.specs.Needs.{IsStraight}
use Rattle.homeo_plan.specs.Planned.{sites_of}
use Rattle.homeo_plan.specs.SmallForms.{HasSmallForms}
use Rattle.homeo_plan.specs.Table.{table, row_at}
use Rattle.homeo_split.specs.CanExec.{run_limit, can_exec}

-- some client makes the ground call, and its site is one of the workload's
pub record CanCompile (w : s.Workload) (g : Ground) : Type 0 where
  pub called : IsCalled w g
  pub site : g.site < sites_of w

-- at a base without deltas a command can be run, and its row there has small forms and a residual without branches
pub record CanPlan (c : Command) (base : List ℤ) : Type 0 where
  pub runs : can_exec run_limit c (whole (values_of base)) ≡ true
  pub small : HasSmallForms form_limit (values_of base) (row_at (table c) (whole (values_of base)))
  pub straight : IsStraight (row_at (table c) (whole (values_of base))).residual
