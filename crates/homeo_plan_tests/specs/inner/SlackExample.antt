-- Clauses whose slacks tests split, and shares of two sites.
use Rattle.std.specs.Prelude.{List, [], ◌∷◌, ℤ, pos}
use Rattle.homeo_plan.specs.Template.{Clause}

abbrev pub with_slack : ℤ → Clause
with_slack slack = record { terms = []; slack = slack }

abbrev pub slacks : ℤ → ℤ → List Clause
slacks first second = with_slack first ∷ with_slack second ∷ []

abbrev pub three_and_one : List ℤ
three_and_one = pos 3 ∷ pos 1 ∷ []
