-- Commands of whose conditions at most one test fails at once, whatever stands at the places: a condition that fails does so by the same
-- test wherever that one fails.
use Rattle.std.specs.Prelude.{◌≡◌, true, false}
use Rattle.homeo_syntax.specs.Low.{Test, Cond, True, Not, Comparison, NoTest, MoreTest, Command, Commands, Skip, Assign, Write, Print, Seq, If, NoCommand, MoreCommand}
use Rattle.homeo_plan.specs.Linear.{Forms}
use Rattle.homeo_follow.specs.Key.{definitions}
use Rattle.homeo_follow.specs.Follow.{passes_by, holds_by}

abbrev mutual
  unfolding definitions

  pub IsSteadyTest : Test → Type 0
  IsSteadyTest True = Unit {0}
  IsSteadyTest (Not c) = IsSteadyCond c
  IsSteadyTest (Comparison op x y) = Unit {0}

  pub IsSteadyCond : Cond → Type 0
  IsSteadyCond NoTest = Unit {0}
  IsSteadyCond (MoreTest t c) = IsSteadyTest t × IsSteadyCond c × ((f : Forms) → holds_by f c ≡ false → passes_by f t ≡ true)

abbrev mutual
  unfolding definitions

  pub IsSteady : Command → Type 0
  IsSteady Skip = Unit {0}
  IsSteady (Assign t e) = Unit {0}
  IsSteady (Write x e) = Unit {0}
  IsSteady (Print e) = Unit {0}
  IsSteady (Seq cs) = AreSteady cs
  IsSteady (If b c d) = IsSteadyCond b × IsSteady c × IsSteady d

  pub AreSteady : Commands → Type 0
  AreSteady NoCommand = Unit {0}
  AreSteady (MoreCommand c cs) = IsSteady c × AreSteady cs
