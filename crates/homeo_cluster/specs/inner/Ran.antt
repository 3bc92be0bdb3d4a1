-- What a run of a pass gives.
use Rattle.std.specs.Prelude.{◌≡◌}
use mathlib.Core.List.{IsPrefix}
use Rattle.homeo_syntax.specs.Source as s
use Rattle.homeo_cluster.specs.Passes.{PassValue, HasAllAnswers}

-- the same client's pass, with no call left and an answer to each, behind those that it had
pub record HasRun (w : s.Workload) (before after : PassValue) : Type 0 where
  pub client : after.client ≡ before.client
  pub left : after.left ≡ 0
  pub log : IsPrefix before.log after.log
  pub answers : HasAllAnswers w after
