-- One call more, behind calls that a fitting configuration serves: its local step can be made, and what is kept of it.
use Rattle.std.proofs.Common.{◌≡◌, ◌⊎◌, ⊎_elim, ℕ, ◌<◌, false, List, [], ◌∷◌, ◌++◌, map, length, get_or, All, ℤ, ◌+ℤ◌, ◌≤ℤ◌, pos, Option, None, refl, sym, ap, ◌∙◌, subst, arith}
use mathlib.Core.Path.{fun_ext}
use Rattle.std.proofs.Math.ListN.{set}
use Rattle.std.proofs.lemmas.List.{length-map, get_or-map, map-set}
use Rattle.homeo_syntax.specs.Listed.{Listed}
use Rattle.homeo_syntax.specs.Source as s
use Rattle.homeo_meaning.specs.declared.call.CallId.{CallId}
use Rattle.homeo_meaning.specs.Acceptance.{IsAccepted}
use Rattle.homeo_meaning.specs.Bounds.{AllWithin}
use Rattle.homeo_meaning.specs.Calls.{CallExists}
use Rattle.homeo_meaning.specs.Schema.{schema_of}
use Rattle.homeo_meaning.specs.Serial.{values_of}
use Rattle.homeo_plan.specs.Key.{definitions as plan_definitions}
use Rattle.homeo_plan.specs.Joined.{Deltas}
use Rattle.homeo_plan.specs.Local.{no_deltas, local_deltas}
use Rattle.homeo_plan.specs.Planned.{sites_of, planned_at, template_at}
use Rattle.homeo_plan.specs.Template.{PlannedCall, Clause, Template}
use Rattle.homeo_plan.specs.Treaty.{site_sum, KeepsFreezes, Treaty}
use Rattle.homeo_plan.proofs.Atoms.{append_each}
use Rattle.homeo_plan.proofs.PlannedCalls.{planned_member}
use Rattle.homeo_plan.proofs.Policy.{some_sites}
use Rattle.homeo_outline.specs.Numbers.{has}
use Rattle.homeo_outline.specs.ObjectPlan.{template_in, config_in}
use Rattle.homeo_outline.specs.declared.plan.ObjectPlan.{ObjectPlan}
use Rattle.homeo_build.specs.Plan.{IsObjectPlan}
use Rattle.homeo_site.specs.OwnTreaty.{OwnClause, SumsFit, own_clauses}
use Rattle.homeo_site.specs.StandsOn.{StandsOnOne}
use Rattle.homeo_site.proofs.LocalSteps.{stays_within}
use Rattle.homeo_site.proofs.OwnEvals.{IsReadyBy}
use Rattle.homeo_site.proofs.OwnFits.{own_clauses_fit}
use Rattle.homeo_forecast.specs.Forecast.{IsServed, CanServe}
use Rattle.homeo_forecast.specs.Peaks.{PeaksFit, Stop, peak, first_stop}
use Rattle.homeo_forecast.specs.Visits.{Visit, after_all, visits, next_visit}
use Rattle.homeo_forecast.specs.Laws.{AreSited}
use Rattle.homeo_forecast.specs.declared.replay.Replay.{Replay}
use Rattle.homeo_forecast.specs.declared.rooms.Room.{Room}
use Rattle.homeo_forecast.specs.inner.Raising.{CanSum, CanTest, CanRaise, EitherRooms, Raises, own_visit, with_own}
use Rattle.homeo_forecast.specs.inner.Replays.{site_lists, AreDeltas, IsReplay, IsStep}
use Rattle.homeo_forecast.specs.inner.Rooms.{HasRoom, AreRooms, HaveRooms}
use Rattle.homeo_forecast.specs.inner.Stops.{StandsAfter}
use Rattle.homeo_forecast.proofs.Peaks.{served_on, served_peaks}
use Rattle.homeo_forecast.proofs.PlanStops.{clause_low}
use Rattle.homeo_forecast.proofs.Prefixes.{next_is, site_below, visits_sited}
use Rattle.homeo_forecast.proofs.Raised.{last_low}
use Rattle.homeo_forecast.proofs.Ready.{IsReadyAt, served_ready}
use Rattle.homeo_forecast.proofs.ReplayLists.{goes_on}
use Rattle.homeo_forecast.proofs.RoomLists.{either}
use Rattle.homeo_forecast.proofs.RoomSteps.{lower, old_is}

-- a call of an accepted workload at its site, on the plan of a base
pub record IsCallHere (w : s.Workload) (p : ObjectPlan) (call : CallId) (site : ℕ) : Type 0 where
  pub accepted : IsAccepted w
  pub plan : IsObjectPlan w p.base.items p
  pub exists : CallExists w call
  pub at : site ≡ (planned_at w call).site

-- its step, by lists that are lent
pub lent_step :
    {w : s.Workload} {base : List ℤ} {before : List CallId} {call : CallId} {new : List ℤ} {written : List ℕ} → IsStep w base before call new written →
    (ds : List ℤ) (ws : List ℕ) → ds ≡ new → ws ≡ written → IsStep w base before call ds ws
lent_step {w} {base} {before} {call} {new} step ds ws same others =
    subst (λ l. IsStep w base before call l ws) (sym same) (subst (IsStep w base before call new) (sym others) step)

module _
    {w : s.Workload} {p : ObjectPlan} {call : CallId} {site : ℕ} (here : IsCallHere w p call site) {before : List CallId} {old : Replay}
    (kept : IsReplay w p.base.items before old)
  where
    abbrev base : List ℤ
    base = p.base.items

    abbrev g : PlannedCall
    g = planned_at w call

    abbrev vs : List Visit
    vs = visits w base before

    abbrev v : Visit
    v = next_visit w base before call

    abbrev x : Deltas
    x = after_all (λ i. no_deltas) vs g.site

    -- ---- what holds by the workload's template holds by the plan's
    on_plan : (P : ℕ → Template → Type 0) → P (sites_of w) (template_at w base) → P p.outline.value.sites (template_in p)
    on_plan P h =
        subst (λ k. P k (template_in p)) (sym here.plan.sites) (subst (P (sites_of w)) (sym here.plan.template) h)

    off_plan : (P : ℕ → Template → Type 0) → P p.outline.value.sites (template_in p) → P (sites_of w) (template_at w base)
    off_plan P h = subst (P (sites_of w)) here.plan.template (subst (λ k. P k (template_in p)) here.plan.sites h)

    below : g.site < sites_of w
    below = site_below w call here.accepted here.exists

    site_in : site < sites_of w
    site_in = subst (λ i. i < sites_of w) (sym here.at) below

    ready : IsReadyAt w base kept.served.config g.site x
    ready = served_ready w base kept.served.config here.accepted here.plan.within kept.served.fits before kept.exist kept.served.serves g.site below

    -- ---- the deltas of its site
    abbrev lists : List (List ℤ)
    lists = site_lists old

    pub site_there : site < length old.deltas.items
    site_there = omega (arith, site_in, kept.sites, length-map old.deltas.items (λ (d : Listed ℤ). d.items))

    start_are : AreDeltas base x (get_or lists site [])
    start_are = subst (λ i. AreDeltas base (after_all (λ j. no_deltas) vs i) (get_or lists site [])) here.at (kept.deltas site site_in)

    module _ (u : Listed ℤ) (is : u ≡ get_or old.deltas.items site u) (ds : List ℤ) (lent : ds ≡ u.items) where
      list_there : ds ≡ get_or lists site []
      list_there = lent ∙ ap (λ (d : Listed ℤ). d.items) is ∙ sym (get_or-map (λ (d : Listed ℤ). d.items) old.deltas.items site u [] site_there)

      pub deltas_are : AreDeltas base x ds
      deltas_are = subst (AreDeltas base x) (sym list_there) start_are

      -- so the local step can be made there
      pub ready_there : IsReadyBy w base kept.served.config site ds
      ready_there = record {
        site = site_in;
        within = here.plan.within;
        count = deltas_are.count;
        fits = kept.served.fits;
        meets = subst (λ i. Treaty (template_at w base) kept.served.config i (values_of ds)) (sym here.at) (subst (Treaty (template_at w base) kept.served.config g.site) (sym deltas_are.are) ready.meets);
        all = subst (λ (y : Deltas). AllWithin (schema_of w) (λ n. values_of base n +ℤ y n)) (sym deltas_are.are) ready.all;
      }

      -- and leaves the visit
      pub step_there :
          (new : List ℤ) (written : List ℕ) → length new ≡ length ds →
          ((n : ℕ) → values_of new n ≡ local_deltas (sites_of w) (values_of base) g (values_of ds) n) →
          ((n : ℕ) → has n written ≡ false → values_of new n ≡ values_of ds n) → IsStep w base before call new written
      unfolding plan_definitions
      step_there new written count left others =
          let are : values_of new ≡ local_deltas (sites_of w) (values_of base) g x =
          fun_ext left ∙ ap (local_deltas (sites_of w) (values_of base) g) deltas_are.are in
          record {
            count = count ∙ deltas_are.count;
            visit = λ j. record { site = g.site; deltas = are j };
            others = λ n e. others n e ∙ ap (λ (y : Deltas). y n) deltas_are.are;
          }

    -- ---- behind its step
    module _ {new : List ℤ} {written : List ℕ} (step : IsStep w base before call new written) where
      visit_is : own_visit site new ≡ v
      visit_is = ap (λ i. own_visit i new) here.at ∙ step.visit

      all_within_after : AllWithin (schema_of w) (λ n. values_of base n +ℤ values_of new n)
      unfolding plan_definitions
      all_within_after =
          subst (λ (y : Deltas). AllWithin (schema_of w) (λ n. values_of base n +ℤ y n)) (sym (ap (λ (u : Visit). u.deltas) step.visit))
          (stays_within w base kept.served.config g.site x here.accepted kept.served.fits below ready.meets ready.all g (planned_member w call here.exists) refl)

      site_in_plan : site < p.outline.value.sites
      site_in_plan = on_plan (λ k t. site < k) site_in

      can_sum : CanSum p site new
      can_sum = record {
        below = site_in_plan;
        fit =
            on_plan (λ k t. All (λ (c : OwnClause). SumsFit c.terms (values_of new)) (own_clauses site t.clauses (config_in p)))
            (own_clauses_fit w base site (values_of new) here.accepted here.plan.within all_within_after (config_in p));
      }

      fit_before : PeaksFit p.outline.value.sites vs (template_in p).clauses
      fit_before = on_plan (λ k t. PeaksFit k vs t.clauses) (served_peaks (sites_of w) (template_at w base) vs kept.served).0

      pub rooms_there : (rs : List Room) → rs ≡ old.rooms.items → AreRooms p vs rs
      rooms_there rs is = on_plan (λ k t. HaveRooms k vs t.clauses rs) (subst (HaveRooms (sites_of w) vs (template_at w base).clauses) (sym is) kept.rooms)

      pub can_test : (rs : List Room) → rs ≡ old.rooms.items → CanTest p rs site new
      can_test rs is = record { sums = can_sum; visits = vs; rooms = rooms_there rs is; fit = fit_before }

      stands : StandsAfter p vs site x
      stands = record {
        fit = fit_before;
        low = λ c. subst (λ i. site_sum i c.terms x ≤ℤ peak c.terms i vs) (sym here.at) (last_low c.terms g.site vs);
        freezes = on_plan (λ k t. KeepsFreezes site x t.freezes) (subst (λ i. KeepsFreezes i x (template_at w base).freezes) (sym here.at) ready.meets.freezes);
      }

      -- what is found stops it
      pub stop_there :
          (rs : List Room) (o : Option Stop) → rs ≡ old.rooms.items →
          ((us : List Visit) (y : Deltas) → AreRooms p us rs → StandsAfter p us site y → ((n : ℕ) → has n written ≡ false → values_of new n ≡ y n) →
          o ≡ first_stop p.outline.value.sites (template_in p) us (own_visit site new)) →
          o ≡ first_stop (sites_of w) (template_at w base) vs v
      stop_there rs o is found =
          off_plan (λ k t. o ≡ first_stop k t vs v)
          (found vs x (rooms_there rs is) stands step.others ∙ ap (first_stop p.outline.value.sites (template_in p) vs) visit_is)

      -- ---- where nothing does
      module _ (none : first_stop (sites_of w) (template_at w base) vs v ≡ None) where
        sited : AreSited (sites_of w) (vs ++ v ∷ [])
        unfolding plan_definitions
        sited = append_each (λ (u : Visit). u.site < sites_of w) vs (v ∷ []) (visits_sited w base (λ i. no_deltas) before here.accepted kept.exist) (below, tt)

        next_served : IsServed (sites_of w) (template_at w base) (vs ++ v ∷ [])
        next_served = (served_on (sites_of w) (template_at w base) vs v (some_sites w here.accepted) sited kept.served).0 none

        call_served : CanServe w base (before ++ call ∷ [])
        call_served = subst (IsServed (sites_of w) (template_at w base)) (sym (next_is w base before call)) next_served

        fit_after : PeaksFit p.outline.value.sites (with_own vs site new) (template_in p).clauses
        fit_after =
            subst (λ (u : Visit). PeaksFit p.outline.value.sites (vs ++ u ∷ []) (template_in p).clauses) (sym visit_is)
            (on_plan (λ k t. PeaksFit k (vs ++ v ∷ []) t.clauses) (served_peaks (sites_of w) (template_at w base) (vs ++ v ∷ []) next_served).0)

        either_there : (rs : List Room) → rs ≡ old.rooms.items → EitherRooms p vs site new rs
        either_there rs is = either p site new vs rs (rooms_there rs is)

        pub can_raise : (rs : List Room) → rs ≡ old.rooms.items → CanRaise p rs site new
        can_raise rs is = record { sums = can_sum; visits = vs; rooms = either_there rs is; before = fit_before; after = fit_after }

        -- the rooms of clauses on none of the written objects need not rise
        all_raised :
            (rs now : List Room) → rs ≡ old.rooms.items → Raises p vs site new (StandsOnOne p written (length written)) rs now →
            HaveRooms p.outline.value.sites (with_own vs site new) (template_in p).clauses now
        all_raised rs now is raises = record { count = next.count; each = each }
          where
            next : EitherRooms p vs site new now
            next = raises.either (either_there rs is)

            each : (n : ℕ) (c : Clause) (r : Room) → n < length (template_in p).clauses →
                HasRoom p.outline.value.sites (with_own vs site new) (get_or (template_in p).clauses n c) (get_or now n r)
            each n c r lt =
                ⊎_elim (λ looked. raises.raised n c r (either_there rs is) lt looked)
                (λ low. ⊎_elim (λ room. idle room low) (λ room. room) (next.each n c r lt))
                (clause_low p vs (own_visit site new) site_in_plan x written step.others stands n c lt)
              where
                idle :
                    HasRoom p.outline.value.sites vs (get_or (template_in p).clauses n c) (get_or now n r) →
                    site_sum site (get_or (template_in p).clauses n c).terms (values_of new) ≤ℤ peak (get_or (template_in p).clauses n c).terms site vs →
                    HasRoom p.outline.value.sites (with_own vs site new) (get_or (template_in p).clauses n c) (get_or now n r)
                idle room low =
                    let d : Clause = get_or (template_in p).clauses n c in
                    let sum = site_sum site d.terms (values_of new) in
                    let peak_is = old_is p.outline.value.sites vs d (own_visit site new) site sum (get_or now n r) room refl site_in_plan refl (pos 0) in
                    lower p.outline.value.sites vs d (own_visit site new) site sum (get_or now n r) room refl site_in_plan refl (pos 0)
                    (subst (λ z. sum ≤ℤ z) (sym peak_is) low)

        pub raised_count :
            (rs now : List Room) → rs ≡ old.rooms.items → Raises p vs site new (StandsOnOne p written (length written)) rs now → length now ≡ length rs
        raised_count rs now is raises = (raises.either (either_there rs is)).count ∙ sym (rooms_there rs is).count

        pub goes_on_there :
            (rs now : List Room) (next : Replay) (deltas : Listed ℤ) → rs ≡ old.rooms.items →
            Raises p vs site new (StandsOnOne p written (length written)) rs now → next.rooms.items ≡ now →
            next.deltas.items ≡ set old.deltas.items site deltas → deltas.items ≡ new → IsReplay w base (before ++ call ∷ []) next
        goes_on_there rs now next deltas is raises rooms lists_are same =
            goes_on w base before call old next kept here.exists call_served new site (sym (ap (λ (u : Visit). u.site) visit_is)) site_in
            (ap (map (λ (d : Listed ℤ). d.items)) lists_are ∙ map-set (λ (d : Listed ℤ). d.items) old.deltas.items site deltas ∙ ap (set lists site) same)
            (record { count = step.count; are = ap (λ (u : Visit). u.deltas) visit_is })
            (subst (λ (u : Visit). HaveRooms (sites_of w) (vs ++ u ∷ []) (template_at w base).clauses next.rooms.items) visit_is
            (off_plan (λ k t. HaveRooms k (with_own vs site new) t.clauses next.rooms.items)
            (subst (HaveRooms p.outline.value.sites (with_own vs site new) (template_in p).clauses) (sym rooms) (all_raised rs now is raises))))
