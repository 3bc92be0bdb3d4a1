-- Atoms that hold of what objects gained, and what they are at the other base.
use Rattle.std.specs.Prelude.{◌≡◌, ℕ, List, map, ℤ}
use Rattle.homeo_plan.specs.Each.{Each}
use Rattle.homeo_plan.specs.Holding.{AtomHolds}
use Rattle.homeo_plan.specs.Linear.{Linear}
use Rattle.homeo_plan.specs.PlanView.{plain_atom}
use Rattle.homeo_plan.specs.declared.forms.Atom.{Atom}
use Rattle.homeo_follow.specs.Follow.{own_state}
use Rattle.homeo_follow.specs.Rebased.{rebased_form}

-- the atom is this one, rebased, which holds of the gains
pub record IsRebasedAtom (g : ℕ → ℤ) (old : Linear) (new : Atom) : Type 0 where
  pub rebased : plain_atom new ≡ rebased_form g old
  pub holds : AtomHolds (own_state g) old

-- each of the old
pub record AreRebasedAtoms (g : ℕ → ℤ) (old new : List Linear) : Type 0 where
  pub rebased : new ≡ map (rebased_form g) old
  pub hold : Each (AtomHolds (own_state g)) old
