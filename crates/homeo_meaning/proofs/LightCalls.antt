-- Each call of an accepted workload is light.
use Rattle.std.proofs.Common.{◌≡◌, ℕ, zero, suc, ℤ, Option, Some, None, List, All, refl, sym, subst}
use Rattle.std.specs.Prelude.{slice_get}
use Rattle.std.specs.Option.{option_and_then}
use Rattle.homeo_lemmas.proofs.Places.{All-get}
use Rattle.homeo_syntax.specs.Source as s
use Rattle.homeo_meaning.specs.declared.call.CallId.{CallId}
use Rattle.homeo_meaning.specs.Key.{definitions}
use Rattle.homeo_meaning.specs.Acceptance.{IsLightBody}
use Rattle.homeo_meaning.specs.inner.LightCalls.{IsLightCall}
use Rattle.homeo_meaning.specs.Calls.{IsGroundCall}
use Rattle.homeo_meaning.specs.Serial.{numbered, call_of, arguments}
use Rattle.homeo_meaning.proofs.Sound.{IsSound}
use Rattle.homeo_meaning.proofs.SomeValues.{none_some}

numbered_at : (P : s.Call → Type 0) (n : ℕ) (calls : List s.Call) (c : s.Call) → All P calls → numbered n calls ≡ Some c → P c
numbered_at P zero calls c h e = absurd (none_some e)
numbered_at P (suc n) calls c h e = All-get P calls n c h e

call_at : (P : s.Call → Type 0) (w : s.Workload) (id : CallId) (c : s.Call) (o : Option s.Client) → slice_get w.clients id.client ≡ o → option_and_then (λ client. numbered id.seq client.calls) o ≡ Some c → All (λ client. All P client.calls) w.clients → P c
call_at P w id c None e m h = absurd (none_some m)
call_at P w id c (Some client) e m h = numbered_at P id.seq client.calls c (All-get (λ client. All P client.calls) w.clients id.client client h e) m

pub call_light : (w : s.Workload) (id : CallId) (c : s.Call) → IsSound w → call_of w id ≡ Some c → IsLightCall w c
unfolding definitions
call_light w id c sound e = call_at (IsLightCall w) w id c (slice_get w.clients id.client) refl e sound.light

pub ground_call_light : (w : s.Workload) (transaction : ℕ) (args : List ℤ) → IsSound w → IsGroundCall w transaction args → IsLightBody w (slice_get w.transactions transaction) args
unfolding definitions
ground_call_light w transaction args sound g =
    subst (IsLightBody w (slice_get w.transactions transaction)) g.given (subst (λ t. IsLightBody w t (arguments g.call)) (sym g.named) (call_light w g.id g.call sound g.made))
