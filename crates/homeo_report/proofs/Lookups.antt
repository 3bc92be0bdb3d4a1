-- Names, clients and calls as they are looked up.
use Rattle.std.proofs.Common.{◌≡◌, ℕ, zero, suc, ◌-◌, ◌<◌, Option, Some, None, List, [], map, sym, ap, ◌∙◌, arith}
use Rattle.std.specs.Prelude.{slice_get}
use Rattle.std.specs.Option.{option_map, option_and_then, option_map_or}
use Rattle.std.proofs.lemmas.Option.{slice_get-map}
use Rattle.homeo_syntax.specs.Key.{definitions as syntax_definitions}
use Rattle.homeo_syntax.specs.SourceView.{plain_call, plain_client, plain_workload}
use Rattle.homeo_syntax.specs.declared.workload.Call.{Call}
use Rattle.homeo_syntax.specs.declared.workload.Client.{Client}
use Rattle.homeo_syntax.specs.declared.workload.Workload.{Workload}
use Rattle.homeo_meaning.specs.Key.{definitions as meaning_definitions}
use Rattle.homeo_meaning.specs.declared.call.CallId.{CallId}
use Rattle.homeo_meaning.specs.Serial.{numbered, call_of}
use Rattle.homeo_report.specs.Key.{definitions}
use Rattle.homeo_print.specs.Names.{name_text}
use Rattle.homeo_report.specs.Report.{client_text}

-- the client of a number, in the plain workload
pub client_at : (w : Workload) (n : ℕ) → slice_get (plain_workload w).clients n ≡ option_map plain_client (slice_get w.clients.items n)
unfolding syntax_definitions
client_at w n = slice_get-map plain_client w.clients.items n

pub client_text_at : (w : Workload) (id : CallId) (o : Option Client) → o ≡ slice_get w.clients.items id.client → client_text (plain_workload w) id ≡ option_map_or (λ (c : Client). name_text (plain_workload w) c.name) o []
unfolding definitions syntax_definitions
client_text_at w id None e = ap (λ o. option_map_or (λ client. name_text (plain_workload w) client.name) o []) (client_at w id.client ∙ ap (option_map plain_client) (sym e))
client_text_at w id (Some c) e = ap (λ o. option_map_or (λ client. name_text (plain_workload w) client.name) o []) (client_at w id.client ∙ ap (option_map plain_client) (sym e))

pub numbered_at : (calls : List Call) (seq : ℕ) (o : Option Call) → 0 < seq → o ≡ slice_get calls (seq - 1) → option_map plain_call o ≡ numbered seq (map plain_call calls)
numbered_at calls zero o positive e = absurd (omega arith)
numbered_at calls (suc n) o positive e =
    let k : suc n - 1 ≡ n = omega arith in
    ap (option_map plain_call) (e ∙ ap (slice_get calls) k) ∙ sym (slice_get-map plain_call calls n)

-- the call that a client has under a number
pub call_at : (w : Workload) (id : CallId) (o : Option Client) → o ≡ slice_get w.clients.items id.client → call_of (plain_workload w) id ≡ option_and_then (λ (c : Client). numbered id.seq (map plain_call c.calls.items)) o
unfolding definitions syntax_definitions meaning_definitions
call_at w id None e = ap (option_and_then (λ client. numbered id.seq client.calls)) (client_at w id.client ∙ ap (option_map plain_client) (sym e))
call_at w id (Some c) e = ap (option_and_then (λ client. numbered id.seq client.calls)) (client_at w id.client ∙ ap (option_map plain_client) (sym e))
