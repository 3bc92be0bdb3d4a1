-- Terms that are found equal are the same.
use Rattle.std.proofs.Common.{[], sym, ap, ◌∙◌}
use Rattle.std.proofs.lemmas.List.{get_or-map}
use Rattle.homeo_syntax.specs.Listed.{Listed}
use Rattle.homeo_plan.specs.declared.forms.Term.{Term}
use Rattle.homeo_outline.proofs.Rebased.{terms_same}
use Rattle.homeo_outline.proofs.leaders.has_terms.Goals as goal

pub returns-then-place-terms-clause-terms : goal.returns-then-place-terms-clause-terms
returns-then-place-terms-clause-terms c = λ yes.
    let own = c.index-terms-place.result in
    get_or-map (λ (l : Listed Term). l.items) c.args.terms.now c.args.number own [] c.if-place-terms.true
    ∙ sym (ap (λ (l : Listed Term). l.items) c.index-terms-place.is)
    ∙ sym c.as_slice.ensures ∙ terms_same _ _ (sym c.eq.ensures ∙ yes)
