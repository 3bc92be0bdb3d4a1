-- What a command over whole objects brings to the plan of a round: what it asks, and what it depends on.
use Rattle.std.specs.Prelude.{ℕ, List, ℤ}
use Rattle.homeo_syntax.specs.Low.{Command}
use Rattle.homeo_plan.specs.declared.forms.Delta.{Delta}
use Rattle.homeo_plan.specs.Linear.{Linear}
use Rattle.homeo_plan.specs.PlanView.{plain_atoms}
use Rattle.homeo_follow.specs.Key.{definitions}
use Rattle.homeo_follow.specs.Follow.{followed, needed}
use Rattle.homeo_follow.specs.declared.part.PlanPart.{PlanPart}

pub record Brought : Type 0 where
  pub atoms : List Linear
  pub needs : List Delta

-- at a base b
abbrev pub brought : (ℕ → ℤ) → Command → Brought
unfolding definitions
brought b c = record { atoms = (followed b c).atoms; needs = needed b (followed b c) }

abbrev pub plain_part : PlanPart → Brought
plain_part p = record { atoms = plain_atoms p.atoms; needs = p.needs.deltas.items }
