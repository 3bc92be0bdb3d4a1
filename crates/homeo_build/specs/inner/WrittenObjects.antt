-- Which objects a command over whole objects can write. Its delta transform at a site writes the deltas of these there.
use Rattle.std.specs.Prelude.{ℕ, Bool, false, ◌==◌, ◌||◌}
use Rattle.homeo_syntax.specs.declared.low.SplitName.{SplitName}
use Rattle.homeo_syntax.specs.declared.low.SplitName.TheVariants.{Whole, Base, Delta}
use Rattle.homeo_syntax.specs.Low.{Command, Commands, Skip, Assign, Write, Print, Seq, If, NoCommand, MoreCommand}
use Rattle.homeo_build.specs.Key.{definitions}

-- the name is that of the whole object x. The transform leaves names of bases and deltas as they are; no L form has one
abbrev pub names_whole : ℕ → SplitName → Bool
unfolding definitions
names_whole x (Whole y) = x == y
names_whole x (Base y) = false
names_whole x (Delta y j) = false

abbrev mutual
  unfolding definitions

  -- some branch of a command writes the object x
  pub writes_object : ℕ → Command → Bool
  writes_object x Skip = false
  writes_object x (Assign t e) = false
  writes_object x (Write y e) = names_whole x y
  writes_object x (Print e) = false
  writes_object x (Seq cs) = any_writes_object x cs
  writes_object x (If b c d) = writes_object x c || writes_object x d

  -- one of these commands does
  pub any_writes_object : ℕ → Commands → Bool
  any_writes_object x NoCommand = false
  any_writes_object x (MoreCommand c cs) = writes_object x c || any_writes_object x cs
