-- What sites have after calls that a fitting configuration serves: their treaties, and bases plus deltas within bounds.
use Rattle.homeo_plan.specs.Key.{definitions}
use Rattle.std.proofs.Common.{◌≡◌, ℕ, ◌<◌, ◌==◌, Bool, true, false, cond, List, [], ◌∷◌, ℤ, ◌+ℤ◌, refl, subst, arith}
use mathlib.Core.Path.{fun_ext}
use Rattle.std.proofs.lemmas.Int.{ints}
use Rattle.std.proofs.lemmas.Bool.Decides.{nat_tests}
use Rattle.homeo_syntax.specs.Source as s
use Rattle.homeo_meaning.specs.declared.call.CallId.{CallId}
use Rattle.homeo_meaning.specs.Acceptance.{IsAccepted}
use Rattle.homeo_meaning.specs.Bounds.{AllWithin, IsWithin}
use Rattle.homeo_meaning.specs.Calls.{CallExists}
use Rattle.homeo_meaning.specs.Schema.{schema_of}
use Rattle.homeo_meaning.specs.Serial.{values_of}
use Rattle.homeo_meaning.proofs.Within.{all_within}
use Rattle.homeo_plan.specs.Config.{Config, Fits}
use Rattle.homeo_plan.specs.Each.{Each}
use Rattle.homeo_plan.specs.Joined.{Deltas}
use Rattle.homeo_plan.specs.Local.{no_deltas, local_deltas}
use Rattle.homeo_plan.specs.Planned.{sites_of, planned_at, template_at}
use Rattle.homeo_plan.specs.Template.{PlannedCall}
use Rattle.homeo_plan.specs.Treaty.{Treaty}
use Rattle.homeo_plan.proofs.OwnWithin.{zero_keeps}
use Rattle.homeo_plan.proofs.PlannedCalls.{planned_member}
use Rattle.homeo_site.proofs.LocalSteps.{stays_within}
use Rattle.homeo_forecast.specs.Forecast.{Serves}
use Rattle.homeo_forecast.specs.Visits.{visit, after, after_all, visits_from, visits}
use Rattle.homeo_forecast.proofs.Prefixes.{site_below}

-- what a site has: its treaty holds, and base plus deltas is within bounds
pub record IsReadyAt (w : s.Workload) (base : List ℤ) (config : Config) (i : ℕ) (x : Deltas) : Type 0 where
  pub meets : Treaty (template_at w base) config i x
  pub all : AllWithin (schema_of w) (λ n. values_of base n +ℤ x n)

pub no_change : (b : ℕ → ℤ) → b ≡ (λ n. b n +ℤ no_deltas n)
unfolding definitions
no_change b = fun_ext (λ n. omega (arith, ints))

module _
    (w : s.Workload) (base : List ℤ) (config : Config) (accepted : IsAccepted w) (within : IsWithin (schema_of w) base)
    (fits : Fits (sites_of w) (template_at w base).clauses config)
  where
    begins_ready : (i : ℕ) → IsReadyAt w base config i no_deltas
    begins_ready i = record {
      meets = zero_keeps (sites_of w) (template_at w base) config i fits;
      all = subst (AllWithin (schema_of w)) (no_change (values_of base)) (all_within (schema_of w) base within);
    }

    one_ready :
        (d : ℕ → Deltas) (call : CallId) → CallExists w call → ((i : ℕ) → i < sites_of w → IsReadyAt w base config i (d i)) →
        Treaty (template_at w base) config (visit w base d call).site (visit w base d call).deltas → (i : ℕ) → i < sites_of w →
        IsReadyAt w base config i (after d (visit w base d call) i)
    unfolding definitions
    one_ready d call there ready meets i lt = go ((planned_at w call).site == i) refl
      where
        g : PlannedCall
        g = planned_at w call

        below : g.site < sites_of w
        below = site_below w call accepted there

        new : Deltas
        new = local_deltas (sites_of w) (values_of base) g (d g.site)

        here : IsReadyAt w base config g.site new
        here = record {
          meets = meets;
          all = stays_within w base config g.site (d g.site) accepted fits below (ready g.site below).meets (ready g.site below).all g (planned_member w call there) refl;
        }

        go : (v : Bool) → (g.site == i) ≡ v → IsReadyAt w base config i (cond v new (d i))
        go true e = let same : g.site ≡ i = grind (arith, nat_tests) in subst (λ j. IsReadyAt w base config j new) same here
        go false e = ready i lt

    all_ready :
        (d : ℕ → Deltas) (calls : List CallId) → Each (λ call. CallExists w call) calls →
        ((i : ℕ) → i < sites_of w → IsReadyAt w base config i (d i)) → Serves (template_at w base) config (visits_from w base d calls) →
        (i : ℕ) → i < sites_of w → IsReadyAt w base config i (after_all d (visits_from w base d calls) i)
    unfolding definitions
    all_ready d [] there ready serves i lt = ready i lt
    all_ready d (call ∷ calls) there ready serves i lt =
        all_ready (after d (visit w base d call)) calls there.1 (one_ready d call there.0 ready serves.0) serves.1 i lt

    pub served_ready :
        (calls : List CallId) → Each (λ call. CallExists w call) calls → Serves (template_at w base) config (visits w base calls) →
        (i : ℕ) → i < sites_of w → IsReadyAt w base config i (after_all (λ i. no_deltas) (visits w base calls) i)
    unfolding definitions
    served_ready calls there serves i lt = all_ready (λ i. no_deltas) calls there (λ i lt. begins_ready i) serves i lt
