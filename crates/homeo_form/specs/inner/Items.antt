-- Items of sums whose form is that at a place, or its negative, or a number.
use Rattle.std.specs.Prelude.{◌≡◌, ℤ, pos, negsuc}
use Rattle.homeo_syntax.specs.Low.{Expr, Exprs}
use Rattle.homeo_meaning.specs.Small.{IsSmall}
use Rattle.homeo_plan.specs.FormSizes.{Numbers, CanForm, CanSum}
use Rattle.homeo_plan.specs.Linear.{Linear, Forms, constant_form, add_forms, scale_form, form, sum_form}
use Rattle.homeo_plan.specs.Limit.{form_limit}
use Rattle.homeo_form.specs.declared.items.Item.{Item}
use Rattle.homeo_form.specs.declared.items.Item.TheVariants.{Read, Negated, Number, Other}
use Rattle.homeo_split.specs.declared.places.Place.{Place}
use Rattle.homeo_split.specs.Places.{plain_place}

-- the form of an expression is that at a place, or is made of it so
pub record HasFormAt (of : Linear → Linear) (e : Expr) (p : Place) : Type 0 where
  pub made : (f : Forms) → form f e ≡ of (f (plain_place p))
  pub small : (f : Forms) → CanForm (IsSmall form_limit) f e → Numbers (IsSmall form_limit) (f (plain_place p))

abbrev pub IsItem : Item → Expr → Type 0
IsItem (Read p) e = HasFormAt (λ a. a) e p
IsItem (Negated p) e = HasFormAt (scale_form (negsuc 0)) e p
IsItem (Number n) e = (f : Forms) → form f e ≡ constant_form n
IsItem Other e = Unit {0}

-- a sum of what stands at a place and a number
pub record IsPlaceAndNumber (p : Place) (n : ℤ) (es : Exprs) : Type 0 where
  pub made : (f : Forms) → sum_form f (constant_form (pos 0)) es ≡ add_forms (constant_form n) (add_forms (f (plain_place p)) (constant_form (pos 0)))
  pub small : (f : Forms) → CanSum (IsSmall form_limit) f (constant_form (pos 0)) es → Numbers (IsSmall form_limit) (f (plain_place p)) × IsSmall form_limit n
