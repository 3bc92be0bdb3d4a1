-- Each ground call of a workload without a fault names a transaction.
use Rattle.std.proofs.Common.{◌≡◌, ℕ, ℤ, List, [], ◌∷◌, map, All, sym, ap, ◌∙◌}
use Rattle.std.specs.Prelude.{slice_get, is_some}
use Rattle.std.specs.List.{flat_map}
use Rattle.homeo_syntax.specs.Key.{definitions as syntax_definitions}
use Rattle.homeo_syntax.specs.Source as s
use Rattle.homeo_syntax.specs.WellFormed.{Each}
use Rattle.homeo_meaning.specs.Key.{definitions as meaning_definitions}
use Rattle.homeo_meaning.specs.CallForm.{body_form}
use Rattle.homeo_meaning.specs.CallRules.{call_faults, client_faults}
use Rattle.homeo_meaning.specs.Declarations.{declarations, place_of}
use Rattle.homeo_meaning.specs.Faults.{declared_faults}
use Rattle.homeo_meaning.specs.GlobalNames.{scope_of, transaction_at, sited_calls_of, sited_calls}
use Rattle.homeo_meaning.specs.NumberRules.{site_faults, ground_calls}
use Rattle.homeo_meaning.specs.Serial.{arguments}
use Rattle.homeo_meaning.specs.declared.rules.Fault.{Fault}
use Rattle.homeo_meaning.proofs.FaultParts.{none_first, none_second, declared_parts}
use Rattle.homeo_meaning.proofs.SoundRules.{names_one, names_of, place-is}
use Rattle.homeo_meaning.proofs.TransactionPlaces.{transaction_place as transaction_there}
use Rattle.homeo_ground.proofs.Limits.{each-append, all-each, distinct-each}
use Rattle.homeo_rules.specs.inner.Sizes.{transaction_place, IsNamed}

module _ (w : s.Workload) where
  abbrev rule : s.Call → List Fault
  rule call = call_faults w.transactions ((scope_of w).item call.name.name) call

  named : (call : s.Call) (site : ℤ) → rule call ≡ [] → IsNamed w (record { name = call.name; args = arguments call; site = site })
  unfolding meaning_definitions
  named call site e =
      let one = names_one w call ((scope_of w).item call.name.name) e in
      let is : place_of (declarations w).transactions call.name.name ≡ one.0 = place-is w call.name.name one.0 one.1 in
      record {
        place = ap transaction_place one.1 ∙ sym is;
        there = ap is_some (transaction_there w call.name.name ∙ (names_of w call.name.name one.0 one.1).there);
        form =
            ap (λ o. body_form w (transaction_at w o) (arguments call)) one.1
            ∙ ap (λ (k : ℕ). body_form w (slice_get w.transactions k) (arguments call)) (sym is);
      }

  of_calls : (site : ℤ) (calls : List s.Call) → flat_map rule calls ≡ [] → Each (IsNamed w) (map (λ (c : s.Call). record { name = c.name; args = arguments c; site = site }) calls)
  unfolding meaning_definitions syntax_definitions
  of_calls site [] e = tt
  of_calls site (c ∷ calls) e =
      (named c site (none_first (rule c) (flat_map rule calls) e), of_calls site calls (none_second (rule c) (flat_map rule calls) e))

  of_clients : (cs : List s.Client) → flat_map (client_faults w.sites (scope_of w) w.transactions) cs ≡ [] → Each (IsNamed w) (flat_map sited_calls_of cs)
  unfolding meaning_definitions syntax_definitions
  of_clients [] e = tt
  of_clients (c ∷ cs) e =
      let of_client : s.Client → List Fault = client_faults w.sites (scope_of w) w.transactions in
      let here = none_first (of_client c) (flat_map of_client cs) e in
      each-append (IsNamed w) (sited_calls_of c) (flat_map sited_calls_of cs)
      (of_calls c.site.value c.calls (none_first (flat_map rule c.calls) (site_faults w.sites c.site) here))
      (of_clients cs (none_second (of_client c) (flat_map of_client cs) e))

  pub are_named : declared_faults w ≡ [] → All (IsNamed w) (ground_calls w)
  unfolding meaning_definitions syntax_definitions
  are_named e =
      all-each (IsNamed w) (ground_calls w) (distinct-each (IsNamed w) (sited_calls w) [] (of_clients w.clients (declared_parts w e).clients) tt)
