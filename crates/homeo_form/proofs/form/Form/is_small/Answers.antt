use Rattle.std.proofs.Common.{rules, ◌≡◌, subst, sym, ap, ◌∙◌, refl}
use Rattle.std.specs.Int.{w128}
use Rattle.std.proofs.lemmas.Int.{to_z-of_z}
use Rattle.homeo_meaning.specs.Small.{IsSmall}
use Rattle.homeo_plan.specs.Each.{Each}
use Rattle.homeo_plan.specs.Limit.{form_limit}
use Rattle.homeo_form.proofs.form.Form.is_small.Goals as goal

pub returns-then-is_small_number : goal.returns-then-is_small_number
returns-then-is_small_number c =
    let constant : IsSmall form_limit c.args.self.now.constant =
    subst (IsSmall form_limit) (to_z-of_z w128 c.self.inside.constant (search rules) ∙ ap (λ a. a.constant) c.self.view_is) (c.if-is_small_number.ensures.0 refl) in
    let terms : c.as_slice.result.now ≡ c.args.self.now.terms = c.as_slice.ensures.value ∙ ap (λ a. a.terms) c.self.view_is in (
      λ h. record { constant = constant; factors = subst (Each (λ t. IsSmall form_limit t.factor)) terms (c.are_small.ensures.0 h) },
      λ h. c.are_small.ensures.1 (subst (Each (λ t. IsSmall form_limit t.factor)) (sym terms) h.factors),
    )
