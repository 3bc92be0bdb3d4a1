-- Replays of local steps that keep a treaty.
use Rattle.std.specs.Prelude.{◌≡◌, ℕ, List, [], ◌∷◌, ℤ}
use Rattle.homeo_syntax.specs.Low.{Command}
use Rattle.homeo_meaning.specs.Bounds.{AllWithin}
use Rattle.homeo_meaning.specs.LowMeaning.{BaseAt, exec, whole}
use Rattle.homeo_meaning.specs.Schema.{Schema}
use Rattle.homeo_meaning.specs.Whole.{IsWhole}
use Rattle.homeo_plan.specs.Key.{definitions}
use Rattle.homeo_plan.specs.Joined.{Deltas}
use Rattle.homeo_plan.specs.Template.{PlannedCall, Template, Covers}
use Rattle.homeo_plan.specs.Config.{Config}
use Rattle.homeo_plan.specs.Treaty.{Treaty}
use Rattle.homeo_plan.specs.Local.{local_deltas}

-- the command leaves each object within its bounds
abbrev pub Stays : Schema → Command → Type 0
unfolding definitions
Stays x c = (v : ℕ → ℤ) → AllWithin x v → AllWithin x (λ n. (exec c (whole v)).state (BaseAt n))

-- each call in turn keeps the treaty of site i
abbrev pub KeepsAlong : ℕ → (ℕ → ℤ) → Template → Config → ℕ → Deltas → List PlannedCall → Type 0
unfolding definitions
KeepsAlong k b t config i x [] = Unit {0}
KeepsAlong k b t config i x (g ∷ gs) =
    Treaty t config i (local_deltas k b g x) × KeepsAlong k b t config i (local_deltas k b g x) gs

-- a call of site i that the template covers, over whole objects, and that keeps within bounds
pub record CanStep (x : Schema) (k : ℕ) (b : ℕ → ℤ) (t : Template) (i : ℕ) (g : PlannedCall) : Type 0 where
  pub at_site : g.site ≡ i
  pub covers : Covers t k b g
  pub whole : IsWhole g.command
  pub stays : Stays x g.command
