-- The atoms of a ground call at its site are those of its command over whole objects, at all sites.
use Rattle.homeo_meaning.specs.Key.{definitions as meaning_definitions}
use Rattle.homeo_plan.specs.Key.{definitions as plan_definitions}
use Rattle.homeo_follow.specs.Key.{definitions}
use Rattle.std.proofs.Common.{◌≡◌, ℕ, ◌<◌, map, ℤ, refl, ap, ◌∙◌}
use Rattle.homeo_meaning.specs.LowMeaning.{whole}
use Rattle.homeo_meaning.specs.Whole.{IsWhole}
use Rattle.homeo_plan.specs.Linear.{base_forms}
use Rattle.homeo_plan.specs.Atoms.{true_cond}
use Rattle.homeo_plan.specs.Table.{Row, HasNoTemps}
use Rattle.homeo_plan.specs.Template.{PlannedCall, shifted, atoms_of}
use Rattle.homeo_plan.proofs.Tables.{row_at_walk}
use Rattle.homeo_follow.specs.Expanded.{expanded}
use Rattle.homeo_follow.specs.Follow.{object_forms, followed}
use Rattle.homeo_follow.proofs.Walked.{walked_atoms}
use Rattle.homeo_follow.proofs.Standing.{stands_at_base}
use Rattle.homeo_follow.proofs.Simulated.{follows}

pub no_temps : (b : ℕ → ℤ) → HasNoTemps (whole b)
unfolding plan_definitions meaning_definitions
no_temps b t = refl

pub atoms_are_followed : (k : ℕ) (b : ℕ → ℤ) (p : PlannedCall) → p.site < k → IsWhole p.command →
    atoms_of k b p ≡ map (expanded k) (followed b p.command).atoms
unfolding definitions plan_definitions
atoms_are_followed k b p inside w =
    ap (λ (r : Row). true_cond b r.formula) (row_at_walk (shifted k p) (whole b) (no_temps b))
    ∙ walked_atoms b (shifted k p)
    ∙ (follows k p.site inside b p.command w (base_forms b) (object_forms b) (stands_at_base k p.site inside b)).atoms.same
