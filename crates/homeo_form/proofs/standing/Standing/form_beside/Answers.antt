-- What was set at the place with the number added, or what is there as a round begins.
use Rattle.std.proofs.Common.{rules, pos, refl, sym, ap, ap₂, ◌∙◌, subst}
use Rattle.std.proofs.lemmas.Result.{IfOk-weaker}
use Rattle.homeo_meaning.specs.Small.{IsSmall}
use Rattle.homeo_plan.specs.FormSizes.{Numbers}
use Rattle.homeo_plan.specs.Limit.{form_limit}
use Rattle.homeo_plan.specs.Linear.{Linear, constant_form, add_forms}
use Rattle.homeo_form.proofs.Widths.{kept_is}
use Rattle.homeo_meaning.specs.Serial.{values_of}
use Rattle.homeo_split.specs.Places.{plain_place}
use Rattle.homeo_split.specs.declared.places.Place.{Place}
use Rattle.homeo_form.specs.Standing.{first_forms}
use Rattle.homeo_form.specs.declared.standing.Standing.{Standing}
use Rattle.homeo_form.specs.inner.Order.{IsInOrder}
use Rattle.homeo_form.proofs.Stands.{first_behind, first_in_order}
use Rattle.homeo_form.proofs.standing.Standing.form_beside.Goals as goal

abbrev first_of : Standing → Place → Linear
first_of s p = first_forms s.are_whole (values_of s.base.now) (plain_place p)

pub plus_number-requires-clause-small : goal.plus_number-requires-clause-small
plus_number-requires-clause-small c =
    subst (λ (a : Linear). IsSmall form_limit a.constant) (sym (c.in_ok-here-in-Some.ensures ∙ c.in-Some.ensures)) c.requires.place_small.constant

pub first_beside-requires-clause-place_small : goal.first_beside-requires-clause-place_small
first_beside-requires-clause-place_small c = subst (Numbers (IsSmall form_limit)) (sym c.in-None.ensures) c.requires.place_small

pub returns-in_ok-here-in-Some-clause-sum : goal.returns-in_ok-here-in-Some-clause-sum
returns-in_ok-here-in-Some-clause-sum c =
    c.plus_number.ensures.sum
    ∙ ap₂ (λ n a. add_forms (constant_form n) (add_forms a (constant_form (pos 0)))) (kept_is c.args.n _ (search rules) refl)
    (c.in_ok-here-in-Some.ensures ∙ c.in-Some.ensures)

pub returns-in_ok-here-in-Some-clause-last : goal.returns-in_ok-here-in-Some-clause-last
returns-in_ok-here-in-Some-clause-last c =
    c.plus_number.ensures.last
    ∙ ap₂ (λ n a. add_forms a (constant_form n)) (kept_is c.args.n _ (search rules) refl) (c.in_ok-here-in-Some.ensures ∙ c.in-Some.ensures)

pub returns-in_ok-here-in-Some-clause-order : goal.returns-in_ok-here-in-Some-clause-order
returns-in_ok-here-in-Some-clause-order c = subst IsInOrder c.in-Some.ensures c.in_order.ensures

pub returns-in-None-clause-sum : goal.returns-in-None-clause-sum
returns-in-None-clause-sum c =
    IfOk-weaker c.first_beside.result _ _
    (λ r h. h ∙ ap₂ (λ n a. add_forms (constant_form n) (add_forms a (constant_form (pos 0)))) (kept_is c.args.n _ (search rules) refl) c.in-None.ensures)
    c.first_beside.ensures

pub returns-in-None-clause-last : goal.returns-in-None-clause-last
returns-in-None-clause-last c =
    IfOk-weaker c.first_beside.result _ _
    (λ r h. h ∙ ap (λ n. add_forms (constant_form n) (add_forms (first_of c.args.self.now c.args.place) (constant_form (pos 0)))) (kept_is c.args.n _ (search rules) refl)
    ∙ first_behind c.args.self.now.are_whole (values_of c.args.self.now.base.now) (plain_place c.args.place) c.args.n
    ∙ ap (λ a. add_forms a (constant_form c.args.n)) c.in-None.ensures)
    c.first_beside.ensures

pub returns-in-None-clause-order : goal.returns-in-None-clause-order
returns-in-None-clause-order c =
    subst IsInOrder c.in-None.ensures (first_in_order c.args.self.now.are_whole (values_of c.args.self.now.base.now) (plain_place c.args.place))
