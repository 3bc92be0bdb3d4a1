-- The only term.
use Rattle.std.proofs.Common.{◌≡◌, List, [], ◌∷◌, slice_index_or, length, refl, ap, ◌∙◌, arith}
use Rattle.homeo_plan.specs.declared.forms.Term.{Term}
use Rattle.homeo_form.proofs.terms.is_delta.Goals as goal

only : (ts : List Term) (x : Term) → length ts ≡ 1 → ts ≡ slice_index_or ts 0 x ∷ []
only [] x h = absurd (omega (arith, h))
only (t ∷ []) x h = refl
only (t ∷ u ∷ us) x h = absurd (omega (arith, h))

pub returns-then-terms-eq1 : goal.returns-then-terms-eq1
returns-then-terms-eq1 c = λ h. only c.args.terms.now _ (omega (arith, c.if-terms-eq1.true)) ∙ ap (λ t. t ∷ []) (c.is_once.ensures h)
