-- The effects that a site keeps in a round, and what it makes by them.
use Rattle.std.specs.Prelude.{◌≡◌, ℕ, cond, List, map, get_or, slice_get, ℤ, ◌-ℤ◌, Some}
use Rattle.std.specs.Int.{w64, int_wrap}
use Rattle.homeo_syntax.specs.SourceView.{plain_workload}
use Rattle.homeo_meaning.specs.LowMeaning.{BaseAt}
use Rattle.homeo_meaning.specs.Serial.{values_of}
use Rattle.homeo_plan.specs.Linear.{Linear, Forms, form_value}
use Rattle.homeo_plan.specs.Planned.{planned}
use Rattle.homeo_plan.specs.Template.{PlannedCall}
use Rattle.homeo_follow.specs.Follow.{own_state, followed}
use Rattle.homeo_linear.specs.Effect.{plain_own_form, IsEffect}
use Rattle.homeo_linear.specs.declared.effect.Effect.{Effect}
use Rattle.homeo_linear.specs.declared.effect.OwnForm.{OwnForm}
use Rattle.homeo_linear.specs.declared.effect.OwnWrite.{OwnWrite}
use Rattle.homeo_outline.specs.Numbers.{has}
use Rattle.homeo_site.specs.SiteView.{StartValue}
use Rattle.homeo_site.specs.declared.effects.Effects.{Effects}
use Rattle.homeo_site.specs.declared.effects.Kept.{Kept}
use Rattle.homeo_site.specs.declared.effects.Kept.TheVariants.{New, Run, Made, Without}

-- the effect of the ground call at a place is that of its command, followed at the base
abbrev pub IsEffectAt : StartValue → ℕ → Effect → Type 0
IsEffectAt v place e =
    (g : PlannedCall) → slice_get (planned (plain_workload v.work)) place ≡ Some g → IsEffect (followed (values_of v.base) g.command) e

abbrev pub IsKept : StartValue → ℕ → Kept → Type 0
IsKept v place New = Unit {0}
IsKept v place Run = Unit {0}
IsKept v place (Made e) = IsEffectAt v place e
IsKept v place Without = Unit {0}

-- each effect is that of its place
abbrev pub AreKept : StartValue → Effects → Type 0
AreKept v es = (place : ℕ) → IsKept v place (get_or es.kept.items place New)

-- ---- by an effect, from these deltas
-- the value of a form, as i64 holds it
abbrev pub value_at : List ℤ → Linear → ℤ
value_at deltas a = int_wrap w64 (form_value a (own_state (values_of deltas)))

-- the values of prints
abbrev pub printed : List ℤ → List OwnForm → List ℤ
printed deltas fs = map (λ f. value_at deltas (plain_own_form f)) fs

-- the new delta of an object with this form
abbrev pub delta_left : List ℤ → List ℤ → ℕ → Linear → ℤ
delta_left base deltas n a = int_wrap w64 (value_at deltas a -ℤ values_of base n)

abbrev pub objects_of : List OwnWrite → List ℕ
objects_of ws = map (λ w. w.object) ws

-- the forms f are those of what is written
abbrev pub AreForms : Forms → List OwnWrite → Type 0
AreForms f ws = map (λ w. plain_own_form w.form) ws ≡ map (λ w. f (BaseAt w.object)) ws

-- an object's delta, where these are the objects written, and f their forms
abbrev pub delta_after : List ℤ → List ℤ → Forms → List ℕ → ℕ → ℤ
delta_after base deltas f objects n = cond (has n objects) (delta_left base deltas n (f (BaseAt n))) (values_of deltas n)
