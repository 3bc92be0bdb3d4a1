use Rattle.std.proofs.Common.{rules, refl, ◌∙◌}
use Rattle.homeo_meaning.specs.Key.{definitions}
use Rattle.homeo_meaning.proofs.Numbers.{kept_is}
use Rattle.homeo_context.proofs.FieldSteps.{found, passed, ended}
use Rattle.homeo_context.proofs.spot.find_field.Goals as goal

pub loop-place-init : goal.loop-place-init
unfolding definitions
loop-place-init c = refl

pub returns-then-field-name : goal.returns-then-field-name
unfolding definitions
returns-then-field-name c =
    found c.args.fields.now c.loop-place.place c.args.name _ _ _ c.loop-place-test.true c.if-field-name.true (kept_is _ _ (search rules) refl) (kept_is _ _ (search rules) refl) ∙ c.loop-place.invariant

pub loop-place-preserved : goal.loop-place-preserved
loop-place-preserved c =
    passed c.args.fields.now c.loop-place.place c.args.name _ c.loop-place-test.true c.if-field-name.false ∙ c.loop-place.invariant

pub returns : goal.returns
unfolding definitions
returns c = ended c.args.fields.now c.loop-place.place c.args.name c.loop-place-test.false c.loop-place.auto.place-end ∙ c.loop-place.invariant
