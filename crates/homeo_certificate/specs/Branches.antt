-- Which branches a run takes.
use Rattle.std.specs.Prelude.{Bool, cond, List, [], ◌∷◌, ◌++◌}
use Rattle.homeo_syntax.specs.Low.{Command, Commands, Skip, Assign, Write, Print, Seq, If, NoCommand, MoreCommand}
use Rattle.homeo_meaning.specs.LowMeaning.{State, holds, exec}
use Rattle.homeo_certificate.specs.Key.{definitions}

abbrev mutual
  unfolding definitions

  -- whether the condition holds of each `if` that is met, in order
  pub branches : Command → State → List Bool
  branches Skip s = []
  branches (Assign t e) s = []
  branches (Write x e) s = []
  branches (Print e) s = []
  branches (Seq cs) s = all_branches cs s
  branches (If b c d) s = holds b s ∷ cond (holds b s) (branches c s) (branches d s)

  pub all_branches : Commands → State → List Bool
  all_branches NoCommand s = []
  all_branches (MoreCommand c cs) s = branches c s ++ all_branches cs (exec c s).state
