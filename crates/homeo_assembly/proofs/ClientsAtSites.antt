-- Each client of an accepted workload is at one of its sites.
use Rattle.homeo_meaning.specs.Key.{definitions as meaning_definitions}
use Rattle.homeo_plan.specs.Key.{definitions as plan_definitions}
use Rattle.homeo_history.specs.Key.{definitions as history_definitions}
use Rattle.std.proofs.Common.{◌≡◌, ℕ, ◌<◌, int_le, false, List, [], Option, Some, None, All, refl, subst}
use Rattle.std.specs.Prelude.{slice_get}
use Rattle.std.specs.List.{flat_map}
use Rattle.std.specs.Option.{option_map}
use Rattle.homeo_lemmas.proofs.Places.{All-get}
use Rattle.homeo_syntax.specs.Source as s
use Rattle.homeo_meaning.specs.Acceptance.{IsAccepted}
use Rattle.homeo_meaning.specs.CallRules.{call_faults, client_faults}
use Rattle.homeo_meaning.specs.GlobalNames.{scope_of}
use Rattle.homeo_meaning.specs.NumberRules.{site_faults}
use Rattle.homeo_meaning.specs.Schema.{nat_of}
use Rattle.homeo_meaning.specs.declared.call.Purpose.TheVariants.{Run}
use Rattle.homeo_meaning.specs.declared.rules.Fault.{Fault}
use Rattle.homeo_meaning.proofs.FaultParts.{none_second, parts, declared_parts}
use Rattle.homeo_meaning.proofs.SoundRules.{each-none}
use Rattle.homeo_meaning.proofs.SoundRelations.{when_none}
use Rattle.homeo_plan.specs.Planned.{sites_of}
use Rattle.homeo_plan.proofs.PlannedCalls.{less_nat}
use Rattle.homeo_history.specs.Legal.{IsClientAt}
use Rattle.homeo_core.proofs.SitesOfClients.{not_negative}

abbrev IsBelow : s.Workload → s.Client → Type 0
IsBelow w c = int_le w.sites.value c.site.value ≡ false

below : (w : s.Workload) (c : s.Client) → client_faults w.sites (scope_of w) w.transactions c ≡ [] → IsBelow w c
unfolding meaning_definitions
below w c none =
    let calls : List Fault =
    flat_map (λ (call : s.Call). call_faults w.transactions ((scope_of w).item call.name.name) call) c.calls in
    when_none (int_le w.sites.value c.site.value) _ (none_second calls (site_faults w.sites c.site) none)

site_lt :
    (w : s.Workload) (i : ℕ) (c : s.Client) → IsAccepted w → slice_get w.clients i ≡ Some c →
    nat_of c.site.value < sites_of w
unfolding meaning_definitions plan_definitions
site_lt w i c accepted e =
    let faults : s.Client → List Fault = client_faults w.sites (scope_of w) w.transactions in
    let none : flat_map faults w.clients ≡ [] = (declared_parts w (parts Run w accepted.rules).text.declared).clients in
    let each : All (IsBelow w) w.clients = each-none faults (IsBelow w) (below w) w.clients none in
    less_nat c.site.value w.sites.value (not_negative w.clients i c accepted.well_formed.sites e)
    (All-get (IsBelow w) w.clients i c each e)

pub client_below : (w : s.Workload) (site client : ℕ) → IsAccepted w → IsClientAt w site client → site < sites_of w
unfolding history_definitions
client_below w site client accepted at = go (slice_get w.clients client) refl at
  where
    go :
        (o : Option s.Client) → slice_get w.clients client ≡ o →
        option_map (λ (c : s.Client). nat_of c.site.value) o ≡ Some site → site < sites_of w
    go None e h = absurd (cc)
    go (Some c) e h =
        let same : nat_of c.site.value ≡ site = cc in subst (λ n. n < sites_of w) same (site_lt w client c accepted e)
