-- The form of what stands at each location.
use Rattle.std.specs.Prelude.{ℕ, ℤ, Bool, true, false}
use Rattle.std.specs.Option.{unwrap_or}
use Rattle.std.specs.declared.option.Option.{Option}
use Rattle.std.specs.HashMap.{get_by}
use Rattle.homeo_meaning.specs.LowMeaning.{Location, TempAt, BaseAt, DeltaAt, same_location}
use Rattle.homeo_meaning.specs.Serial.{values_of}
use Rattle.homeo_plan.specs.Linear.{Linear, Forms, base_forms}
use Rattle.homeo_follow.specs.Follow.{object_forms}
use Rattle.homeo_form.specs.Objects.{form_in}
use Rattle.homeo_form.specs.declared.standing.Standing.{Standing}
use Rattle.homeo_split.specs.Places.{plain_place}

-- what stands there at a base before anything is set: objects whole, or bases and deltas by themselves
abbrev pub first_forms : Bool → (ℕ → ℤ) → Forms
first_forms true b = object_forms b
first_forms false b = base_forms b

-- what was set there
abbrev pub set_at : Standing → Location → Option Linear
set_at s (TempAt t) = get_by (λ p. same_location (TempAt t) (plain_place p)) s.others
set_at s (BaseAt x) = form_in s.objects x
set_at s (DeltaAt x j) = get_by (λ p. same_location (DeltaAt x j) (plain_place p)) s.others

unfoldable pub forms_of : Standing → Forms
forms_of s l = unwrap_or (set_at s l) (first_forms s.are_whole (values_of s.base.now) l)
