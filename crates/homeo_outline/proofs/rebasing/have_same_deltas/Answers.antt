-- Terms and deltas that are found equal are the same.
use Rattle.std.proofs.Common.{sym, ◌∙◌}
use Rattle.homeo_plan.specs.Key.{definitions}
use Rattle.homeo_outline.proofs.Rebased.{terms_same, deltas_same}
use Rattle.homeo_outline.proofs.rebasing.have_same_deltas.Goals as goal

pub returns-then-eq-clause-terms : goal.returns-then-eq-clause-terms
returns-then-eq-clause-terms c = λ yes.
    sym c.as_slice.ensures ∙ terms_same _ _ (sym c.eq.ensures ∙ c.if-eq.true) ∙ c.as_slice-2.ensures

pub returns-then-eq-clause-mixed : goal.returns-then-eq-clause-mixed
unfolding definitions
returns-then-eq-clause-mixed c = λ yes.
    sym c.as_slice-then-eq.ensures ∙ deltas_same _ _ (sym c.eq-then-eq.ensures ∙ yes) ∙ c.as_slice-then-eq-2.ensures
