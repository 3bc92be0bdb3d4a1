-- What contracts see of an index over a treaty.
use Rattle.std.specs.Prelude.{ℕ}
use Rattle.homeo_plan.specs.Template.{Template}

-- the site of the treaty, and what it keeps
pub record Indexed : Type 0 where
  pub site : ℕ
  pub template : Template
