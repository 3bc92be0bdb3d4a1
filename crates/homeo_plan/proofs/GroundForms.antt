-- The L form of a ground call keeps within bounds.
use Rattle.homeo_meaning.specs.Key.{definitions as meaning_definitions}
use Rattle.std.proofs.Common.{ℕ, List, map, slice_get, ℤ, Option, Some, None, sym, subst}
use Rattle.homeo_syntax.specs.Source as s
use Rattle.homeo_meaning.specs.Bounds.{IsIn, all_bounds, bounds_at}
use Rattle.homeo_meaning.specs.CallForm.{body_form, ground_form}
use Rattle.homeo_meaning.specs.Ground.{Ground}
use Rattle.homeo_meaning.specs.LForm.{l_form}
use Rattle.homeo_meaning.specs.LowMeaning as M
use Rattle.homeo_meaning.specs.Meaning.{run}
use Rattle.homeo_meaning.specs.SameRun.{IsSameRun}
use Rattle.homeo_meaning.specs.Schema.{schema_of}
use Rattle.homeo_lform.proofs.FormLaw.{form_law}
use Rattle.homeo_lform.proofs.Stays.{bounds_law}
use Rattle.homeo_plan.specs.Key.{definitions}
use Rattle.homeo_plan.specs.Replay.{Stays}

body_stays : (w : s.Workload) (t : Option s.Transaction) (args : List ℤ) → Stays (schema_of w) (body_form w t args)
unfolding definitions meaning_definitions
body_stays w None args v h = h
body_stays w (Some t) args v h =
    let params : List ℕ = map (λ p. p.name.name) t.params in
    let same : IsSameRun (M.exec (l_form (schema_of w) params args t.body) (M.whole v)) (run (schema_of w) params args t.body v) = form_law (schema_of w) params args t.body v in
    λ n. subst (IsIn (bounds_at (all_bounds (schema_of w)) n)) (sym (same.database n)) (bounds_law (schema_of w) params args t.body v h n)

pub ground_stays : (w : s.Workload) (g : Ground) → Stays (schema_of w) (ground_form w g)
unfolding meaning_definitions
ground_stays w g = body_stays w (slice_get w.transactions g.transaction) g.args
