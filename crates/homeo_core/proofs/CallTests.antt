-- A call of a client of a site, by what its tests say.
use Rattle.std.proofs.Common.{◌≡◌, ℕ, zero, ◌<◌, ◌≤◌, [], length, nat_eq, true, Option, Some, None, subst, ◌∙◌, arith}
use Rattle.std.proofs.lemmas.Bool.Decides.{nat_tests}
use Rattle.std.specs.Prelude.{IsSome, slice_get}
use Rattle.std.specs.Option.{option_and_then}
use Rattle.homeo_syntax.specs.Source as s
use Rattle.homeo_meaning.specs.Key.{definitions as meaning_definitions}
use Rattle.homeo_meaning.specs.declared.call.CallId.{CallId}
use Rattle.homeo_meaning.specs.Serial.{numbered}
use Rattle.homeo_history.specs.Key.{definitions as history_definitions}
use Rattle.homeo_history.specs.Legal.{IsClientAt, IsCallAt, call_count}
use Rattle.homeo_history.proofs.ClientAnswers.{client_at, one_site}
use Rattle.homeo_history.proofs.Exists.{is_call_at, client_lt, local_exists}

pub listed : (w : s.Workload) (site home count : ℕ) (call : CallId) → IsClientAt w home call.client → nat_eq home site ≡ true → (call.seq ≡ 0 → ⊥) → call.seq ≤ count → count ≡ call_count w call.client → IsCallAt w site call
listed w site home count call own same some le is =
    let e : home ≡ site = grind (arith, nat_tests) in
    is_call_at w site call (subst (λ k. IsClientAt w k call.client) e own) (let h : 0 < call.seq = grind arith in h) (let h : call.seq ≤ call_count w call.client = omega (arith, le, is) in h)

pub home_is : (w : s.Workload) (site home : ℕ) (call : CallId) → IsClientAt w home call.client → IsCallAt w site call → nat_eq home site ≡ true
home_is w site home call own at =
    let same : home ≡ site = one_site w call.client home site own (client_at w call site at.at_site) in
    grind (arith, nat_tests)

pub client_there : (w : s.Workload) (site : ℕ) (call : CallId) → IsCallAt w site call → call.client < length w.clients
client_there w site call at = client_lt w site call.client (client_at w call site at.at_site)

pub number_there : (w : s.Workload) (site : ℕ) (call : CallId) → IsCallAt w site call → call.seq ≤ call_count w call.client
unfolding history_definitions
number_there w site call at = (local_exists w 0 site (record { call = call; prints = [] }) at).number

none_numbered : (o : Option s.Client) → IsSome (option_and_then (λ (client : s.Client). numbered 0 client.calls) o) → ⊥
none_numbered None h = absurd (cc)
none_numbered (Some client) h = absurd (cc)

pub number_some : (w : s.Workload) (site : ℕ) (call : CallId) → IsCallAt w site call → call.seq ≡ 0 → ⊥
unfolding meaning_definitions
number_some w site call at e =
    none_numbered (slice_get w.clients call.client) (subst (λ k. IsSome (option_and_then (λ (client : s.Client). numbered k client.calls) (slice_get w.clients call.client))) e at.exists)
