-- What tests say of an object with the base 2.
use Rattle.std.specs.Prelude.{List, [], ◌∷◌, ℤ, pos}
use Rattle.homeo_syntax.specs.declared.phrase.Compare.TheVariants.{LessEqual}
use Rattle.homeo_syntax.specs.Low.{Literal, Cond, Comparison, NoTest, MoreTest, Commands, Print, NoCommand, MoreCommand}
use Rattle.homeo_plan_tests.specs.inner.Object.{object_sum}

abbrev pub base : List ℤ
base = pos 2 ∷ []

abbrev pub at_most_five : Cond
at_most_five = MoreTest (Comparison LessEqual object_sum (Literal (pos 5))) NoTest

abbrev pub printed : Commands
printed = MoreCommand (Print object_sum) NoCommand
