-- A split database without deltas is the base as a whole.
use Rattle.std.proofs.Common.{◌≡◌, List, [], map, ℤ, pos, refl, ap, ◌∙◌}
use mathlib.Core.Path.{fun_ext}
use Rattle.homeo_meaning.specs.Key.{definitions as meaning_definitions}
use Rattle.homeo_meaning.specs.LowMeaning.{Location, TempAt, BaseAt, DeltaAt, whole}
use Rattle.homeo_meaning.specs.Serial.{values_of}
use Rattle.homeo_split.specs.Key.{definitions as split_definitions}
use Rattle.homeo_split.specs.States.{state_with, state_of}
use Rattle.homeo_split.specs.declared.split.Split.{Split}

at_each : (base : List ℤ) (p : Location) → state_with base [] (λ t. pos 0) p ≡ whole (values_of base) p
unfolding split_definitions meaning_definitions
at_each base (TempAt t) = refl
at_each base (BaseAt x) = refl
at_each base (DeltaAt x j) = refl

pub undivided : (s : Split) → s.deltas.items ≡ [] → state_of s ≡ whole (values_of s.base.items)
unfolding split_definitions
undivided s none =
    ap (λ deltas. state_with s.base.items (map (λ d. d.items) deltas) (λ t. pos 0)) none ∙ fun_ext (at_each s.base.items)
