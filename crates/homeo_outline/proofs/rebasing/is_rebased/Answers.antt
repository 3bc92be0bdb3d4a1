-- The same needs, and atoms that are others, rebased.
use Rattle.std.proofs.Common.{map, sym, ap, ◌∙◌}
use Rattle.std.proofs.lemmas.Simd.{map-map}
use Rattle.homeo_meaning.specs.Serial.{values_of}
use Rattle.homeo_plan.specs.PlanView.{plain_atom}
use Rattle.homeo_plan.specs.Key.{definitions as plan_definitions}
use Rattle.homeo_follow.specs.Key.{definitions}
use Rattle.homeo_follow.specs.Rebased.{rebased_form, gains}
use Rattle.homeo_outline.proofs.Rebased.{deltas_same}
use Rattle.homeo_outline.proofs.rebasing.is_rebased.Goals as goal

pub returns-then-eq : goal.returns-then-eq
unfolding definitions plan_definitions
returns-then-eq c = λ yes.
    let g = gains (values_of c.args.from.now) (values_of c.args.to.now) in
    let atoms =
    ap (map plain_atom) (sym c.as_slice-then-eq-2.ensures)
    ∙ c.are_rebased_atoms.ensures yes
    ∙ ap (map (λ a. rebased_form g (plain_atom a))) c.as_slice-then-eq.ensures
    ∙ sym (map-map (rebased_form g) plain_atom c.args.old.now.atoms.atoms.items) in
    let needs = sym c.as_slice.ensures ∙ deltas_same _ _ (sym c.eq.ensures ∙ c.if-eq.true) ∙ c.as_slice-2.ensures in
    λ i. record { atoms = atoms i; needs = needs i }
