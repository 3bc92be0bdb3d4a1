-- What one set of atoms after another mixes, and then what one call after another needs.
use Rattle.std.proofs.Common.{ap, ◌∙◌, map, List, []}
use Rattle.homeo_plan.specs.declared.forms.AtomSet.{AtomSet}
use Rattle.homeo_plan.specs.declared.forms.Delta.{Delta}
use Rattle.homeo_plan.specs.PlanView.{plain_atoms}
use Rattle.homeo_plan.specs.Template.{atoms_of_sets, put_all}
use Rattle.homeo_plan.specs.declared.templates.FreezeSet.{FreezeSet}
use Rattle.homeo_atoms.specs.inner.Frozen.{delta_at, deltas_in}
use Rattle.homeo_atoms.proofs.Putting.{no-mixed, nothing-put, all_mixed_more, needs_more, all-taken}
use Rattle.homeo_atoms.proofs.freezes.join_freezes.Goals as goal

pub loop-set-init : goal.loop-set-init
loop-set-init c = ap (map delta_at) c.new-frozen.ensures.empty ∙ no-mixed []

pub loop-set-preserved : goal.loop-set-preserved
loop-set-preserved c =
    all_mixed_more c.args.sets.now c.loop-set.set-index c.set-item.result c.loop-set-test.true c.set-item.is _ c.as_slice.ensures [] _ _ c.loop-set.invariant c.in_ok-freeze_mixed.ensures

pub loop-needs-init : goal.loop-needs-init
loop-needs-init c =
    let mixed = λ (sets : List AtomSet). let ds : List Delta = put_all (map (λ a. a.mixed) (atoms_of_sets (map plain_atoms sets))) [] in ds in
    all-taken mixed c.args.sets.now c.loop-set.set-index (deltas_in c.loop-set.frozen) c.loop-set-test.false c.loop-set.invariant
    ∙ nothing-put (mixed c.args.sets.now)

pub loop-needs-preserved : goal.loop-needs-preserved
loop-needs-preserved c =
    needs_more (λ (f : FreezeSet). f.deltas.items) c.args.needed.now c.loop-needs.needs-index c.needs-item.result c.loop-needs-test.true c.needs-item.is _ c.as_slice-in-loop-needs.ensures _ _ _ c.loop-needs.invariant c.in_ok-freeze.ensures
