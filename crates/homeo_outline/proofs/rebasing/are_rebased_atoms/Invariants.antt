-- The atoms so far are others, rebased.
use Rattle.std.proofs.Common.{◌≡◌, map, take}
use Rattle.homeo_meaning.specs.Serial.{values_of}
use Rattle.homeo_plan.specs.PlanView.{plain_atom}
use Rattle.homeo_follow.specs.Rebased.{rebased_form, gains}
use Rattle.homeo_outline.proofs.rebasing.are_rebased_atoms.Given as goal

abbrev pub invariant-loop-i : goal.invariant-loop-i
invariant-loop-i l =
    let g = gains (values_of l.from) (values_of l.to) in
    map plain_atom (take l.i l.new) ≡ map (λ a. rebased_form g (plain_atom a)) (take l.i l.old)
