-- The calls of clients in the code, and those of the definition.
use Rattle.std.proofs.Common.{◌≡◌, ℕ, ◌+◌, ◌<◌, ◌≤◌, ℤ, List, [], ◌∷◌, ◌++◌, map, length, take, Vec, Global, get_or, refl, sym, ap, ◌∙◌}
use Rattle.std.specs.List.{flat_map}
use Rattle.std.proofs.lemmas.List.{map-append, take_more, take_all}
use Rattle.homeo_syntax.specs.Key.{definitions as syntax_definitions}
use Rattle.homeo_syntax.specs.Source as s
use Rattle.homeo_syntax.specs.declared.phrase.Number.{Number}
use Rattle.homeo_syntax.specs.declared.workload.Call.{Call}
use Rattle.homeo_syntax.specs.declared.workload.Client.{Client}
use Rattle.homeo_syntax.specs.SourceView.{plain_call, plain_client}
use Rattle.homeo_meaning.specs.Key.{definitions as meaning_definitions}
use Rattle.homeo_meaning.specs.Ground.{sited_call}
use Rattle.homeo_meaning.specs.GlobalNames.{SitedCall, sited_calls_of}
use Rattle.homeo_meaning.specs.NumberRules.{distinct_after}
use Rattle.homeo_ground.specs.Sited.{values}
use Rattle.homeo_meaning.specs.CallPlaces.{place_among, places_among}
use Rattle.homeo_ground.proofs.Distinct.{calls-step, places-step, clients-step, tables-step}

-- a call at the site of its client
abbrev pub sited_at : Client → Call → SitedCall
sited_at client call = sited_call (plain_client client) (plain_call call)

pub sited-is : (client : Client) (call : Call) (args : List Number) (site : ℤ) → args ≡ call.args.items → site ≡ client.site.value → record { name = call.name; args = values args; site = site } ≡ sited_at client call
unfolding meaning_definitions syntax_definitions
sited-is client call args site a s = λ i. record { name = call.name; args = values (a i); site = s i }

pub all-sited : (client : Client) → map (sited_at client) client.calls.items ≡ sited_calls_of (plain_client client)
unfolding meaning_definitions syntax_definitions
all-sited client = go client.calls.items
  where
    go : (calls : List Call) → map (sited_at client) calls ≡ map (sited_call (plain_client client)) (map plain_call calls)
    go [] = refl
    go (c ∷ calls) = ap (λ (l : List SitedCall). sited_at client c ∷ l) (go calls)

-- no call is numbered
pub no-calls : (kept : List SitedCall) → kept ≡ distinct_after kept []
unfolding meaning_definitions
no-calls kept = refl

pub no-places : (kept : List SitedCall) → [] ≡ places_among kept []
unfolding meaning_definitions
no-places kept = refl

-- one more call of a client is numbered
module _ (client : Client) (calls : List Call) (k : ℕ) (item : Call) (within : k < length calls) (here : item ≡ get_or calls k item) (call : SitedCall) (is : call ≡ sited_at client item) (kept old new : List SitedCall) (o : old ≡ distinct_after kept (map (sited_at client) (take k calls))) (n : new ≡ distinct_after old (call ∷ [])) where
  before : List SitedCall
  before = map (sited_at client) (take k calls)

  taken : map (sited_at client) (take (k + 1) calls) ≡ map (sited_at client) (take k calls) ++ sited_at client item ∷ []
  taken = ap (map (sited_at client)) (take_more calls k item within ∙ ap (λ (c : Call). take k calls ++ c ∷ []) (sym here)) ∙ map-append (sited_at client) (take k calls) (item ∷ [])

  put : new ≡ distinct_after old (sited_at client item ∷ [])
  put = n ∙ ap (λ (c : SitedCall). distinct_after old (c ∷ [])) is

  pub client_calls-step : new ≡ distinct_after kept (map (sited_at client) (take (k + 1) calls))
  client_calls-step = calls-step kept (map (sited_at client) (take k calls)) (sited_at client item) old new o put ∙ ap (distinct_after kept) (sym taken)

  pub client_places-step : (places after : List ℕ) (place : ℕ) → places ≡ map (place_among old) (map (sited_at client) (take k calls)) → place ≡ place_among new call → after ≡ places ++ place ∷ [] → after ≡ map (place_among new) (map (sited_at client) (take (k + 1) calls))
  client_places-step places after place all p a =
      a ∙ ap (λ (n : ℕ). places ++ n ∷ []) (p ∙ ap (place_among new) is)
      ∙ places-step kept (map (sited_at client) (take k calls)) (sited_at client item) old new o put places all
      ∙ ap (map (place_among new)) (sym taken)

-- all calls of a client are numbered
pub client_calls-whole : (client : Client) (calls : List Call) (k : ℕ) (kept new : List SitedCall) → calls ≡ client.calls.items → length calls ≤ k → new ≡ distinct_after kept (map (sited_at client) (take k calls)) → new ≡ distinct_after kept (sited_calls_of (plain_client client))
client_calls-whole client calls k kept new e h n = n ∙ ap (λ (l : List Call). distinct_after kept (map (sited_at client) l)) (take_all k calls h ∙ e) ∙ ap (distinct_after kept) (all-sited client)

pub client_places-whole : (client : Client) (calls : List Call) (k : ℕ) (new : List SitedCall) (places : List ℕ) → calls ≡ client.calls.items → length calls ≤ k → places ≡ map (place_among new) (map (sited_at client) (take k calls)) → places ≡ map (place_among new) (sited_calls_of (plain_client client))
client_places-whole client calls k new places e h n = n ∙ ap (λ (l : List Call). map (place_among new) (map (sited_at client) l)) (take_all k calls h ∙ e) ∙ ap (map (place_among new)) (all-sited client)

-- one more client is numbered
module _ (clients : List Client) (k : ℕ) (item : Client) (within : k < length clients) (here : item ≡ get_or clients k item) (old new : List SitedCall) (o : old ≡ distinct_after [] (flat_map sited_calls_of (map plain_client (take k clients)))) (n : new ≡ distinct_after old (sited_calls_of (plain_client item))) where
  clients_taken : map plain_client (take (k + 1) clients) ≡ map plain_client (take k clients) ++ plain_client item ∷ []
  clients_taken = ap (map plain_client) (take_more clients k item within ∙ ap (λ (c : Client). take k clients ++ c ∷ []) (sym here)) ∙ map-append plain_client (take k clients) (item ∷ [])

  pub all_calls-step : new ≡ distinct_after [] (flat_map sited_calls_of (map plain_client (take (k + 1) clients)))
  all_calls-step = clients-step (map plain_client (take k clients)) (plain_client item) old new o n ∙ ap (λ (l : List s.Client). distinct_after [] (flat_map sited_calls_of l)) (sym clients_taken)

  pub all_places-step : (tables after : List (Vec ℕ Global)) (places : Vec ℕ Global) → map (λ (p : Vec ℕ Global). p.items) tables ≡ places_among old (map plain_client (take k clients)) → places.items ≡ map (place_among new) (sited_calls_of (plain_client item)) → after ≡ tables ++ places ∷ [] → map (λ (p : Vec ℕ Global). p.items) after ≡ places_among new (map plain_client (take (k + 1) clients))
  all_places-step tables after places t p a =
      ap (map (λ (p : Vec ℕ Global). p.items)) a ∙ map-append (λ (p : Vec ℕ Global). p.items) tables (places ∷ [])
      ∙ tables-step (map plain_client (take k clients)) (plain_client item) old new o n (map (λ (p : Vec ℕ Global). p.items) tables) places.items t p
      ∙ ap (places_among new) (sym clients_taken)
