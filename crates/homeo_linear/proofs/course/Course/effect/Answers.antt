-- The objects once in order, with the forms that are left, and the prints.
use Rattle.std.proofs.Common.{[], map, Some, refl, ap, ◌∙◌, subst, ◌≡◌}
use Rattle.std.specs.Prelude.{IfSome}
use Rattle.std.specs.declared.option.Option.{Option}
use Rattle.homeo_meaning.specs.LowMeaning.{BaseAt}
use Rattle.homeo_plan.specs.declared.forms.Delta.{Delta}
use Rattle.homeo_plan.specs.Linear.{add_deltas}
use Rattle.homeo_form.specs.Standing.{forms_of}
use Rattle.homeo_linear.specs.inner.Course.{followed_so}
use Rattle.homeo_linear.proofs.Owning.{effect_is}
use Rattle.homeo_linear.proofs.course.Course.effect.Goals as goal

some_is : {A : Type 0} (P : A → Type 0) (o : Option A) (a : A) → o ≡ Some a → IfSome o P → P a
some_is P o a is h = subst (λ v. IfSome v P) is h

pub returns : goal.returns
returns c =
    let old = c.args.self.now in
    let lent = c.as_slice.ensures.value in
    effect_is (followed_so old) _ old.written.items c.in_ok-written.written.items refl
    (c.in_ok-written.ensures ∙ ap (λ l. add_deltas l.items []) c.replace-written.ensures.value)
    (some_is _ c.in_ok-writes.field-0 c.in-Some.writes c.in-Some.is c.in_ok-writes.ensures.objects ∙ ap (map (λ (d : Delta). d.object)) lent)
    (some_is _ c.in_ok-writes.field-0 c.in-Some.writes c.in-Some.is c.in_ok-writes.ensures.forms
    ∙ ap (map (λ (d : Delta). forms_of old.standing (BaseAt d.object))) lent)
    (some_is _ c.in_ok-prints.field-0 c.in-Some-2.prints c.in-Some-2.is c.in_ok-prints.ensures ∙ c.as_slice-2.ensures.value)
