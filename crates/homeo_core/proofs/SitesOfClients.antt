-- The sites of clients of an accepted workload are few; and what a workload's client is.
use Rattle.homeo_syntax.specs.Key.{definitions as syntax_definitions}
use Rattle.homeo_meaning.specs.Key.{definitions as meaning_definitions}
use Rattle.homeo_history.specs.Key.{definitions as history_definitions}
use Rattle.std.proofs.Common.{◌≡◌, ℕ, zero, suc, ◌<◌, List, [], ◌∷◌, length, ℤ, pos, ◌≤ℤ◌, ◌<ℤ◌, int_le, false, All, Some, sym, ap, subst, ◌∙◌, arith, to_z, of_z}
use Rattle.std.specs.Prelude.{slice_get}
use Rattle.std.specs.List.{flat_map}
use Rattle.std.specs.Option.{option_map, option_map_or}
use mir.Syntax.{w64}
use Rattle.std.proofs.lemmas.Int.{ints, fits_signed_from_abs, to_z-of_z}
use Rattle.std.proofs.lemmas.Option.{slice_get_within}
use Rattle.homeo_lemmas.proofs.Lists.{length_map}
use Rattle.homeo_lemmas.proofs.Places.{All-get}
use Rattle.homeo_syntax.specs.Source as s
use Rattle.homeo_syntax.specs.SourceView.{plain_client, plain_workload}
use Rattle.homeo_syntax.specs.WellFormed as formed
use Rattle.homeo_syntax.specs.declared.phrase.Number.{Number}
use Rattle.homeo_syntax.specs.declared.workload.Client.{Client}
use Rattle.homeo_syntax.specs.declared.workload.Workload.{Workload}
use Rattle.homeo_meaning.specs.Acceptance.{IsAccepted}
use Rattle.homeo_meaning.specs.declared.call.CallId.{CallId}
use Rattle.homeo_meaning.specs.Calls.{CallExists}
use Rattle.homeo_meaning.specs.CallRules.{call_faults, client_faults}
use Rattle.homeo_meaning.specs.GlobalNames.{scope_of}
use Rattle.homeo_meaning.specs.NumberRules.{site_faults}
use Rattle.homeo_meaning.specs.Schema.{nat_of}
use Rattle.homeo_meaning.specs.declared.call.Purpose.TheVariants.{Run}
use Rattle.homeo_meaning.proofs.FaultParts.{none_second, parts, declared_parts}
use Rattle.homeo_meaning.proofs.SoundRules.{each-none}
use Rattle.homeo_meaning.proofs.SoundRelations.{when_none}
use Rattle.homeo_plan.proofs.PlannedCalls.{KnownCall, known}
use Rattle.homeo_build.proofs.FewSites.{few_sites}
use Rattle.homeo_history.specs.Legal.{IsClientAt, call_count}

-- ---- a client's site
pub record IsFew (n : ℤ) : Type 0 where
  pub some : pos 0 ≤ℤ n
  pub few : n ≤ℤ pos 16

no_site_fault : (sites site : Number) → site_faults sites site ≡ [] → int_le sites.value site.value ≡ false
unfolding meaning_definitions
no_site_fault sites site e = when_none (int_le sites.value site.value) _ e

pub not_negative : (cs : List s.Client) (i : ℕ) (c : s.Client) → formed.Each (λ (c : s.Client). pos 0 ≤ℤ c.site.value) cs → slice_get cs i ≡ Some c → pos 0 ≤ℤ c.site.value
unfolding syntax_definitions
not_negative [] i c h e = absurd (cc)
not_negative (d ∷ cs) zero c h e = let q : d ≡ c = cc in subst (λ (z : s.Client). pos 0 ≤ℤ z.site.value) q h.0
not_negative (d ∷ cs) (suc i) c h e = not_negative cs i c h.1 e

site_few : (w : s.Workload) (i : ℕ) (c : s.Client) → IsAccepted w → slice_get w.clients i ≡ Some c → IsFew c.site.value
unfolding meaning_definitions
site_few w i c accepted found =
    let none : flat_map (client_faults w.sites (scope_of w) w.transactions) w.clients ≡ [] = (declared_parts w (parts Run w accepted.rules).text.declared).clients in
    let each : All (λ (x : s.Client). int_le w.sites.value x.site.value ≡ false) w.clients = each-none (client_faults w.sites (scope_of w) w.transactions) (λ (x : s.Client). int_le w.sites.value x.site.value ≡ false) (λ x f. no_site_fault w.sites x.site (none_second (flat_map (λ (call : s.Call). call_faults w.transactions ((scope_of w).item call.name.name) call) x.calls) (site_faults w.sites x.site) f)) w.clients none in
    let below : int_le w.sites.value c.site.value ≡ false = All-get (λ (x : s.Client). int_le w.sites.value x.site.value ≡ false) w.clients i c each found in
    let few = few_sites w accepted in
    let less : c.site.value <ℤ w.sites.value = grind (arith, ints) in
    record { some = not_negative w.clients i c accepted.well_formed.sites found; few = omega (arith, ints, less, few.few) }

pub read : (n : ℤ) → IsFew n → to_z w64 (of_z w64 n) ≡ n
read n h = to_z-of_z w64 n (fits_signed_from_abs w64 n (omega (arith, ints, h.some, h.few)))

pub read_few : (w : Workload) (i : ℕ) (c : Client) → IsAccepted (plain_workload w) → slice_get (plain_workload w).clients i ≡ Some (plain_client c) → IsFew (to_z w64 (of_z w64 c.site.value))
unfolding syntax_definitions
read_few w i c accepted found =
    let h : IsFew c.site.value = site_few (plain_workload w) i (plain_client c) accepted found in
    subst IsFew (sym (read c.site.value h)) h

pub read_site : (w : Workload) (i : ℕ) (c : Client) → IsAccepted (plain_workload w) → slice_get (plain_workload w).clients i ≡ Some (plain_client c) → IsClientAt (plain_workload w) (nat_of (to_z w64 (of_z w64 c.site.value))) i
unfolding syntax_definitions history_definitions
read_site w i c accepted found =
    let h : IsFew c.site.value = site_few (plain_workload w) i (plain_client c) accepted found in
    ap (option_map (λ (z : s.Client). nat_of z.site.value)) found ∙ ap (λ n. Some (nat_of n)) (sym (read c.site.value h))

-- ---- how many calls it has
pub counted : (w : Workload) (i : ℕ) (c : Client) → slice_get (plain_workload w).clients i ≡ Some (plain_client c) → length c.calls.items ≡ call_count (plain_workload w) i
unfolding syntax_definitions history_definitions
counted w i c found =
    sym (ap (λ o. option_map_or (λ (z : s.Client). length z.calls) o 0) found ∙ length_map _ c.calls.items)

-- ---- the client of a call
pub client_exists : (w : s.Workload) (call : CallId) → CallExists w call → call.client < length w.clients
client_exists w call h = let n : KnownCall w call = known w call h in slice_get_within w.clients call.client n.client n.found
