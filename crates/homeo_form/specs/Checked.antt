-- Forms that are made where their numbers are small, and not made where they aren't.
use Rattle.std.specs.Prelude.{◌≡◌, Option, MatchOption}
use Rattle.homeo_syntax.specs.Low.{Expr}
use Rattle.homeo_meaning.specs.Small.{IsSmall}
use Rattle.homeo_plan.specs.FormSizes.{Numbers, CanForm}
use Rattle.homeo_plan.specs.Limit.{form_limit}
use Rattle.homeo_plan.specs.Linear.{Linear, Forms, form}

-- there is a form where its numbers are small, and it is this one
abbrev pub Kept : Linear → Option Linear → Type 0
Kept a o = MatchOption o (Numbers (IsSmall form_limit) a → ⊥) (λ b. Numbers (IsSmall form_limit) a × (b ≡ a))

-- there is a form where all numbers that are met are small, and it is that of the expression
abbrev pub Checked : Forms → Expr → Option Linear → Type 0
Checked f e o = MatchOption o (CanForm (IsSmall form_limit) f e → ⊥) (λ a. CanForm (IsSmall form_limit) f e × (a ≡ form f e))
