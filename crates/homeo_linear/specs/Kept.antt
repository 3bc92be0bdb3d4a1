-- What keeps a test or a condition as it is at a base.
use Rattle.std.specs.Prelude.{cond, List}
use Rattle.homeo_syntax.specs.Low.{Test, Cond}
use Rattle.homeo_plan.specs.Linear.{Linear, Forms}
use Rattle.homeo_follow.specs.Follow.{passes_by, holds_by, passed_test, failed_test, passed, failed}

abbrev pub kept_test : Forms → Test → List Linear
kept_test f t = cond (passes_by f t) (passed_test f t) (failed_test f t)

abbrev pub kept_cond : Forms → Cond → List Linear
kept_cond f c = cond (holds_by f c) (passed f c) (failed f c)
