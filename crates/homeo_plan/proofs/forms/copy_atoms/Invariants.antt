use Rattle.std.proofs.Common.{◌≡◌, map, take}
use Rattle.homeo_plan.specs.PlanView.{plain_atom}
use Rattle.homeo_plan.proofs.forms.copy_atoms.Given as goal

abbrev pub invariant-loop-atom : goal.invariant-loop-atom
invariant-loop-atom l = map plain_atom l.copy.items ≡ map plain_atom (take l.atom-index l.atoms)
