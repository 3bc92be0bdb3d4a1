-- What is kept of a list of calls gives its forecast.
use Rattle.std.proofs.Common.{◌≡◌, ℕ, ◌+◌, ◌<◌, ◌≤◌, true, List, [], ◌∷◌, ◌++◌, length, get_or, take, replicate, ℤ, pos, Option, Some, None, is_some, option_map, refl, sym, ap, ◌∙◌, subst, arith}
use Rattle.std.proofs.lemmas.List.{take_more}
use Rattle.std.proofs.lemmas.Option.{slice_get-get_or}
use Rattle.homeo_lemmas.proofs.Lists.{take_past}
use Rattle.homeo_syntax.specs.Source as s
use Rattle.homeo_meaning.specs.declared.call.CallId.{CallId}
use Rattle.homeo_meaning.specs.Acceptance.{IsAccepted}
use Rattle.homeo_meaning.specs.Calls.{CallExists}
use Rattle.homeo_plan.specs.Config.{Config}
use Rattle.homeo_plan.specs.Each.{Each}
use Rattle.homeo_plan.specs.Planned.{sites_of, template_at}
use Rattle.homeo_plan.specs.Template.{Clause, Template}
use Rattle.homeo_plan.proofs.Policy.{some_sites}
use Rattle.homeo_outline.specs.declared.plan.ObjectPlan.{ObjectPlan}
use Rattle.homeo_build.specs.Plan.{IsObjectPlan}
use Rattle.homeo_forecast.specs.Forecast.{IsForecast}
use Rattle.homeo_forecast.specs.Peaks.{first_stop, peak_config}
use Rattle.homeo_forecast.specs.View.{plain_stop}
use Rattle.homeo_forecast.specs.Visits.{Visit, visits, next_visit}
use Rattle.homeo_forecast.specs.declared.outlook.Stop as code
use Rattle.homeo_forecast.specs.declared.replay.Replay.{Replay}
use Rattle.homeo_forecast.specs.declared.rooms.Room.{Room}
use Rattle.homeo_forecast.specs.inner.Replays.{site_lists, IsReplay, CanBound}
use Rattle.homeo_forecast.specs.inner.Rooms.{AreRooms, HaveRooms}
use Rattle.homeo_forecast.proofs.Peaks.{served_peaks}
use Rattle.homeo_forecast.proofs.Prefixes.{forecasts_stand}
use Rattle.homeo_forecast.proofs.ReplayLists.{begun}

-- ---- the base of a plan
pub based : (w : s.Workload) (base : List ℤ) (p : ObjectPlan) → IsObjectPlan w base p → IsObjectPlan w p.base.items p
based w base p h = subst (λ b. IsObjectPlan w b p) (sym h.base) h

pub begun_at :
    (w : s.Workload) (p : ObjectPlan) (r : Replay) → IsAccepted w → IsObjectPlan w p.base.items p →
    site_lists r ≡ replicate p.outline.value.sites (replicate (length p.base.items) (pos 0)) → AreRooms p [] r.rooms.items → IsReplay w p.base.items [] r
begun_at w p r accepted h lists rooms =
    begun w p.base.items r accepted
    (lists ∙ ap (λ k. replicate k (replicate (length p.base.items) (pos 0))) h.sites)
    (subst (λ k. HaveRooms k [] (template_at w p.base.items).clauses r.rooms.items) h.sites
    (subst (λ (t : Template). HaveRooms p.outline.value.sites [] t.clauses r.rooms.items) h.template rooms))

-- ---- a list
module _ (w : s.Workload) (base : List ℤ) (calls : List CallId) (accepted : IsAccepted w) (exist : Each (λ call. CallExists w call) calls) where
  abbrev k : ℕ
  k = sites_of w

  abbrev t : Template
  t = template_at w base

  pub can_bound : (before : List CallId) (r : Replay) → IsReplay w base before r → CanBound r.rooms.items
  can_bound before r h = record {
    sites = k;
    visits = visits w base before;
    clauses = t.clauses;
    some = some_sites w accepted;
    rooms = h.rooms;
    fit = (served_peaks k t (visits w base before) h.served).0;
  }

  pub kept_on : (n : ℕ) (d : CallId) (r : Replay) → n < length calls → IsReplay w base (take n calls ++ get_or calls n d ∷ []) r → IsReplay w base (take (n + 1) calls) r
  kept_on n d r lt h = subst (λ cs. IsReplay w base cs r) (sym (take_more calls n d lt)) h

  pub stopped_there :
      (n : ℕ) (d : CallId) (r : Replay) (rooms : List Room) (config : Config) (o : Option code.Stop) → n < length calls → IsReplay w base (take n calls) r →
      is_some o ≡ true → option_map plain_stop o ≡ first_stop k t (visits w base (take n calls)) (next_visit w base (take n calls) (get_or calls n d)) →
      ((j : ℕ) (vs : List Visit) (cs : List Clause) → HaveRooms j vs cs rooms → config ≡ peak_config j vs cs) → rooms ≡ r.rooms.items →
      IsForecast w base calls n config (option_map plain_stop o)
  stopped_there n d r rooms config o lt h some is bounds same = go o some is
    where
      config_is : config ≡ peak_config k (visits w base (take n calls)) t.clauses
      config_is = bounds k (visits w base (take n calls)) t.clauses (subst (HaveRooms k (visits w base (take n calls)) t.clauses) (sym same) h.rooms)

      go : (p : Option code.Stop) → is_some p ≡ true → option_map plain_stop p ≡ first_stop k t (visits w base (take n calls)) (next_visit w base (take n calls) (get_or calls n d)) →
          IsForecast w base calls n config (option_map plain_stop p)
      go None q e = cc
      go (Some f) q e =
          subst (λ c. IsForecast w base calls n c (Some (plain_stop f))) (sym config_is)
          ((forecasts_stand w base calls n accepted exist h.served (omega (arith, lt))).1 (get_or calls n d) (plain_stop f) (slice_get-get_or calls n d lt) (sym e))

  pub all_kept :
      (n : ℕ) (r : Replay) (config : Config) → length calls ≤ n → IsReplay w base (take n calls) r →
      ((j : ℕ) (vs : List Visit) (cs : List Clause) → HaveRooms j vs cs r.rooms.items → config ≡ peak_config j vs cs) →
      IsForecast w base calls (length calls) config None
  all_kept n r config le h bounds =
      let same : take n calls ≡ take (length calls) calls = take_past calls n le ∙ sym (take_past calls (length calls) (omega arith)) in
      let whole : IsReplay w base (take (length calls) calls) r = subst (λ cs. IsReplay w base cs r) same h in
      subst (λ c. IsForecast w base calls (length calls) c None) (sym (bounds k (visits w base (take (length calls) calls)) t.clauses whole.rooms))
      ((forecasts_stand w base calls (length calls) accepted exist whole.served (omega arith)).0 refl)
