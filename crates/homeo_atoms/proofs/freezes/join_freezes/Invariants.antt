-- The loops of `join_freezes`.
use Rattle.std.proofs.Common.{◌≡◌, [], map, take}
use Rattle.homeo_plan.specs.PlanView.{plain_atoms}
use Rattle.homeo_plan.specs.Template.{atoms_of_sets, put_all}
use Rattle.homeo_atoms.specs.inner.Frozen.{deltas_in}
use Rattle.homeo_atoms.proofs.freezes.join_freezes.Given as goal

abbrev pub invariant-loop-set : goal.invariant-loop-set
invariant-loop-set l = deltas_in l.frozen ≡ put_all (map (λ a. a.mixed) (atoms_of_sets (map plain_atoms (take l.set-index l.sets)))) []

abbrev pub invariant-loop-needs : goal.invariant-loop-needs
invariant-loop-needs l =
    deltas_in l.frozen ≡
    put_all (map (λ f. f.deltas.items) (take l.needs-index l.needed)) (put_all (map (λ a. a.mixed) (atoms_of_sets (map plain_atoms l.sets))) [])
