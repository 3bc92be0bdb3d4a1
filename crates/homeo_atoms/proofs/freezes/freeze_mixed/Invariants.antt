-- The loop of `freeze_mixed`.
use Rattle.std.proofs.Common.{◌≡◌, map, take}
use Rattle.homeo_plan.specs.PlanView.{plain_atom}
use Rattle.homeo_plan.specs.Template.{put_all}
use Rattle.homeo_atoms.specs.inner.Frozen.{deltas_in}
use Rattle.homeo_atoms.proofs.freezes.freeze_mixed.Given as goal

abbrev pub invariant-loop-atom : goal.invariant-loop-atom
invariant-loop-atom l =
    deltas_in l.frozen ≡ put_all (map (λ a. a.mixed) (map plain_atom (take l.atom-index l.atoms))) (deltas_in l.fn.frozen)
