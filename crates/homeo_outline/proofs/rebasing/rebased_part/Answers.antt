-- The rebased atoms, and the same needs.
use Rattle.std.proofs.Common.{map, ap, ap₂, ◌∙◌, subst, Vec, Global}
use Rattle.std.specs.Prelude.{IfSome}
use Rattle.homeo_meaning.specs.Serial.{values_of}
use Rattle.homeo_plan.specs.PlanView.{plain_atom}
use Rattle.homeo_plan.specs.declared.forms.Atom.{Atom}
use Rattle.homeo_follow.specs.Key.{definitions}
use Rattle.homeo_follow.specs.Rebased.{rebased_form, gains}
use Rattle.homeo_outline.specs.inner.Holding.{AreRebasedAtoms}
use Rattle.homeo_outline.proofs.rebasing.rebased_part.Goals as goal

pub returns-clause-part : goal.returns-clause-part
unfolding definitions
returns-clause-part c =
    let g = gains (values_of c.args.from.now) (values_of c.args.to.now) in
    let made =
    subst (λ found. IfSome found (λ (v : Vec Atom Global). AreRebasedAtoms g (map plain_atom c.as_slice-atoms.result.now) (map plain_atom v.items)))
    c.in-Some.is c.in_ok-atoms.ensures in
    ap₂ (λ atoms needs. record { atoms = atoms; needs = needs })
    (ap (λ v. map plain_atom v.items) c.from_vec.ensures ∙ made.rebased
    ∙ ap (λ l. map (rebased_form g) (map plain_atom l)) c.as_slice-atoms.ensures)
    (ap (λ v. v.items) c.from_vec-2.ensures ∙ c.in_ok-needs.ensures.items ∙ c.as_slice.ensures)
