use Rattle.std.proofs.Common.{◌≡◌, map, take}
use Rattle.homeo_linear.specs.Effect.{plain_own_form}
use Rattle.homeo_linear.proofs.effect.own_forms.Given as goal

abbrev pub invariant-loop-form : goal.invariant-loop-form
invariant-loop-form l = map plain_own_form l.own.items ≡ take l.form-index l.forms
