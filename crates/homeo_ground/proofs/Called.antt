-- Each ground call of an accepted workload is made by one of its clients, calls one of its transactions, and is light.
use Rattle.std.proofs.Common.{◌≡◌, ℕ, zero, suc, List, [], ◌∷◌, map, All, ℤ, Some, refl, sym, ap, ◌∙◌}
use Rattle.std.specs.Prelude.{slice_get, is_some, IsSome}
use Rattle.std.specs.Option.{option_and_then}
use Rattle.std.specs.List.{flat_map}
use Rattle.std.proofs.lemmas.Option.{same_Some}
use Rattle.homeo_syntax.specs.Key.{definitions as syntax_definitions}
use Rattle.homeo_syntax.specs.Source as s
use Rattle.homeo_syntax.specs.WellFormed.{Each}
use Rattle.homeo_meaning.specs.Key.{definitions as meaning_definitions}
use Rattle.homeo_meaning.specs.Acceptance.{IsAccepted}
use Rattle.homeo_meaning.specs.Calls.{IsGroundCall}
use Rattle.homeo_meaning.specs.CallRules.{call_faults, client_faults}
use Rattle.homeo_meaning.specs.Declarations.{declarations, place_of}
use Rattle.homeo_meaning.specs.Ground.{ground_of_sited, grounds}
use Rattle.homeo_meaning.specs.GlobalNames.{SitedCall, scope_of, sited_calls_of, sited_calls}
use Rattle.homeo_meaning.specs.NumberRules.{site_faults, ground_calls}
use Rattle.homeo_meaning.specs.Serial.{arguments, numbered}
use Rattle.homeo_meaning.specs.declared.call.Purpose.TheVariants.{Run}
use Rattle.homeo_meaning.specs.declared.rules.Fault.{Fault}
use Rattle.homeo_meaning.proofs.FaultParts.{none_first, none_second, parts, declared_parts}
use Rattle.homeo_meaning.proofs.LightCalls.{ground_call_light}
use Rattle.homeo_meaning.proofs.TransactionPlaces.{transaction_place}
use Rattle.homeo_meaning.proofs.Sound.{sound}
use Rattle.homeo_meaning.proofs.SoundRules.{names_one, names_of}
use Rattle.homeo_ground.specs.Grounding.{IsCalled}
use Rattle.homeo_ground.proofs.Limits.{each-append, all-each, distinct-each}

-- ---- facts of each item
each-at : {A : Type 0} (P : A → Type 0) (xs : List A) → ((k : ℕ) (x : A) → slice_get xs k ≡ Some x → P x) → Each P xs
unfolding syntax_definitions
each-at P [] h = tt
each-at P (x ∷ xs) h = (h 0 x refl, each-at P xs (λ k y e. h (suc k) y e))

each-map : {A B : Type 0} (f : A → B) (P : B → Type 0) (xs : List A) → Each (λ (x : A). P (f x)) xs → Each P (map f xs)
unfolding syntax_definitions
each-map f P [] h = tt
each-map f P (x ∷ xs) h = (h.0, each-map f P xs h.1)

each-flat : {A B : Type 0} (f : A → List B) (P : B → Type 0) (xs : List A) → Each (λ (x : A). Each P (f x)) xs → Each P (flat_map f xs)
unfolding syntax_definitions
each-flat f P [] h = tt
each-flat f P (x ∷ xs) h = each-append P (f x) (flat_map f xs) h.0 (each-flat f P xs h.1)

no_call : (P : SitedCall → Type 0) → Each P []
unfolding syntax_definitions
no_call P = tt

-- an item has no fault where none of the list has one
none-at : {A : Type 0} (rule : A → List Fault) (xs : List A) (k : ℕ) (x : A) → flat_map rule xs ≡ [] → slice_get xs k ≡ Some x → rule x ≡ []
none-at rule [] k x e at = cc
none-at rule (y ∷ ys) zero x e at = ap rule (sym (same_Some y x at)) ∙ none_first (rule y) (flat_map rule ys) e
none-at rule (y ∷ ys) (suc k) x e at = none-at rule ys k x (none_second (rule y) (flat_map rule ys) e) at

-- ---- calls
module _ (w : s.Workload) (accepted : IsAccepted w) where
  abbrev IsCall : SitedCall → Type 0
  IsCall c = IsCalled w (ground_of_sited w c)

  abbrev rule : s.Call → List Fault
  rule call = call_faults w.transactions ((scope_of w).item call.name.name) call

  none : flat_map (client_faults w.sites (scope_of w) w.transactions) w.clients ≡ []
  none = (declared_parts w (parts Run w accepted.rules).text.declared).clients

  there : (call : s.Call) → rule call ≡ [] → IsSome (slice_get w.transactions (place_of (declarations w).transactions call.name.name))
  unfolding meaning_definitions
  there call e =
      let one = names_one w call ((scope_of w).item call.name.name) e in
      ap is_some (transaction_place w call.name.name ∙ (names_of w call.name.name one.0 one.1).there)

  one_call : (call : s.Call) → IsGroundCall w (place_of (declarations w).transactions call.name.name) (arguments call) → IsSome (slice_get w.transactions (place_of (declarations w).transactions call.name.name)) → (site : ℤ) → IsCall (record { name = call.name; args = arguments call; site = site })
  unfolding meaning_definitions
  one_call call made there site = record { made = made; there = there; light = ground_call_light w (place_of (declarations w).transactions call.name.name) (arguments call) (sound w accepted) made }

  module _ (k : ℕ) (client : s.Client) (at : slice_get w.clients k ≡ Some client) where
    no_fault : flat_map rule client.calls ≡ []
    unfolding meaning_definitions
    no_fault = none_first (flat_map rule client.calls) (site_faults w.sites client.site) (none-at (client_faults w.sites (scope_of w) w.transactions) w.clients k client none at)

    made : (j : ℕ) (call : s.Call) → slice_get client.calls j ≡ Some call → IsGroundCall w (place_of (declarations w).transactions call.name.name) (arguments call)
    unfolding meaning_definitions
    made j call e =
        record {
          id = record { client = k; seq = suc j };
          call = call;
          made = ap (option_and_then (λ (d : s.Client). numbered (suc j) d.calls)) at ∙ e;
          named = transaction_place w call.name.name;
          given = refl;
        }

    client_calls : Each IsCall (sited_calls_of client)
    unfolding meaning_definitions
    client_calls =
        let sited : s.Call → SitedCall = λ call. record { name = call.name; args = arguments call; site = client.site.value } in
        each-map sited IsCall client.calls (each-at (λ (call : s.Call). IsCall (sited call)) client.calls (λ j call e. one_call call (made j call e) (there call (none-at rule client.calls j call no_fault e)) client.site.value))

  all_calls : Each IsCall (sited_calls w)
  unfolding meaning_definitions
  all_calls = each-flat sited_calls_of IsCall w.clients (each-at (λ (client : s.Client). Each IsCall (sited_calls_of client)) w.clients client_calls)

  pub are_called : All (IsCalled w) (grounds w)
  unfolding meaning_definitions
  are_called =
      all-each (IsCalled w) (map (ground_of_sited w) (ground_calls w)) (each-map (ground_of_sited w) (IsCalled w) (ground_calls w) (distinct-each IsCall (sited_calls w) [] all_calls (no_call IsCall)))
