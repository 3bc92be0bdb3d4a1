-- Which tokens phrases begin with, and which may go on with a whole one.
use Rattle.std.specs.Prelude.{ℕ, List, [], ◌∷◌}
use Rattle.homeo_syntax.specs.declared.token.Mark.TheVariants as mark
use Rattle.homeo_syntax.specs.Classes.{number_of, name_class, number_class}
use Rattle.homeo_syntax.specs.Rules.{Deep, Factor, Test, Command}
use Rattle.homeo_reader.specs.inner.Engine.{Classes}

abbrev pub factor_starts : List ℕ
factor_starts =
    number_class ∷ number_of mark.Minus ∷ number_of mark.Open ∷ number_of mark.Read ∷ number_of mark.Count ∷ number_of mark.Sum
    ∷ name_class ∷ []

-- what goes on after a name that stands as an expression
abbrev pub name_goes_on : List ℕ
name_goes_on = number_of mark.OpenBracket ∷ number_of mark.Dot ∷ []

abbrev pub expr_goes_on : List ℕ
expr_goes_on = number_of mark.Star ∷ number_of mark.Plus ∷ number_of mark.Minus ∷ name_goes_on

abbrev pub classes : Classes Deep
classes = record { starts = starts_of; goes_on = goes_on_of }
  where
    starts_of : Deep → List ℕ
    starts_of Factor = factor_starts
    starts_of Test = number_of mark.True ∷ number_of mark.Not ∷ factor_starts
    -- no text of version 1 has the mark `abort`, but it does no harm here
    starts_of (Command v) = number_of mark.Abort ∷ number_of mark.Skip ∷ number_of mark.OpenBrace ∷ name_class ∷ number_of mark.Write ∷ number_of mark.Print
        ∷ number_of mark.If ∷ number_of mark.Foreach ∷ number_of mark.Insert ∷ number_of mark.Delete ∷ number_of mark.Update ∷ []

    goes_on_of : Deep → List ℕ
    goes_on_of Factor = name_goes_on
    goes_on_of Test = expr_goes_on
    goes_on_of (Command v) = number_of mark.And ∷ expr_goes_on
