-- Forms that can be followed.
use Rattle.std.specs.Prelude.{ℕ, ℤ}
use Rattle.homeo_syntax.specs.Low.{Command}
use Rattle.homeo_meaning.specs.Small.{IsSmall}
use Rattle.homeo_plan.specs.Limit.{form_limit}
use Rattle.homeo_follow.specs.Follow.{object_forms, followed}
use Rattle.homeo_follow.specs.FollowSizes.{AreNumbers, CanBeFollowed}

-- the numbers met along a form at a base, and those that are left, are small
pub record IsSmallAlong (b : ℕ → ℤ) (f : Command) : Type 0 where
  pub can : CanBeFollowed (IsSmall form_limit) (object_forms b) f
  pub left : AreNumbers (IsSmall form_limit) (followed b f).forms
