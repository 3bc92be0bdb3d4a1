-- The residual of a planned call writes deltas of its own site alone.
use Rattle.std.proofs.Common.{◌≡◌, ℕ, List, ℤ, refl, sym, subst}
use Rattle.homeo_syntax.specs.Source as s
use Rattle.homeo_meaning.specs.Key.{definitions as meaning_definitions}
use Rattle.homeo_meaning.specs.LowMeaning.{State, whole}
use Rattle.homeo_meaning.specs.Serial.{values_of}
use Rattle.homeo_plan.specs.Key.{definitions as plan_definitions}
use Rattle.homeo_plan.specs.Each.{Member}
use Rattle.homeo_plan.specs.Planned.{sites_of, planned}
use Rattle.homeo_plan.specs.Table.{Row, walk}
use Rattle.homeo_plan.specs.Template.{PlannedCall, shifted, base_row}
use Rattle.homeo_plan.proofs.Replays.{planned_whole}
use Rattle.homeo_plan.proofs.Tables.{row_at_walk}
use Rattle.homeo_effect.specs.Touched.{WritesOwn}
use Rattle.homeo_effect.proofs.OwnWrites.{walk_writes_own}

module _ (w : s.Workload) (base : List ℤ) (g : PlannedCall) (member : Member g (planned w)) where
  abbrev k : ℕ
  k = sites_of w

  abbrev start : State
  start = whole (values_of base)

  row_is : base_row k (values_of base) g ≡ walk (shifted k g) start
  unfolding plan_definitions meaning_definitions
  row_is = row_at_walk (shifted k g) start (λ t. refl)

  pub writes_own : WritesOwn g.site (base_row k (values_of base) g).residual
  unfolding plan_definitions
  writes_own =
      subst (λ (r : Row). WritesOwn g.site r.residual) (sym row_is) (walk_writes_own k g.site g.command start (planned_whole w g member))
