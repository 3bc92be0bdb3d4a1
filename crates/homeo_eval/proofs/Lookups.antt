-- What the code finds in its lists is what the definitions find.
use Rattle.std.proofs.Common.{◌≡◌, ℕ, zero, suc, ◌-◌, ◌<◌, ◌≤◌, ℤ, Option, Some, List, [], ◌∷◌, map, length, get_or, refl, sym, ap, ◌∙◌, subst, arith}
use Rattle.std.specs.Prelude.{slice_get, option_map, IsSome}
use Rattle.std.specs.Option.{option_and_then}
use Rattle.std.proofs.lemmas.Bool.{false≢true}
use Rattle.std.proofs.lemmas.Option.{slice_get-map, slice_get_read}
use Rattle.homeo_syntax.specs.Key.{definitions as syntax_definitions}
use Rattle.homeo_syntax.specs.Source as s
use Rattle.homeo_syntax.specs.declared.command.Command.{Command}
use Rattle.homeo_syntax.specs.declared.workload.RangeDecl.{RangeDecl}
use Rattle.homeo_syntax.specs.declared.workload.Transaction.{Transaction}
use Rattle.homeo_syntax.specs.declared.workload.Call.{Call}
use Rattle.homeo_syntax.specs.declared.workload.Client.{Client}
use Rattle.homeo_syntax.specs.declared.workload.Workload.{Workload}
use Rattle.homeo_syntax.specs.SourceView.{commands, plain_command, plain_transaction, plain_call, plain_client, plain_workload}
use Rattle.homeo_context.specs.declared.arguments.Argument.{Argument}
use Rattle.homeo_meaning.specs.declared.call.CallId.{CallId}
use Rattle.homeo_meaning.specs.Key.{definitions}
use Rattle.homeo_meaning.specs.Calls.{CallExists}
use Rattle.homeo_meaning.specs.Serial.{numbered, call_of}
use Rattle.homeo_meaning.specs.Schema.{schema_of}
use Rattle.homeo_meaning.specs.Bounds.{IsWithin}
use Rattle.homeo_meaning.specs.Context.{arguments_of}
use Rattle.homeo_meaning.specs.Acceptance.{IsLightBody}
use Rattle.homeo_meaning.specs.Declarations.{Declarations, declarations}
use Rattle.homeo_meaning.proofs.TransactionPlaces.{transaction_here}
use Rattle.homeo_eval.proofs.Outcomes.{TransactionRuns, transaction_runs}

client_within : (f : s.Client → Option s.Call) (cs : List Client) (n : ℕ) → IsSome (option_and_then f (slice_get (map plain_client cs) n)) → n < length cs
client_within f [] n h = absurd (false≢true h)
client_within f (c ∷ cs) zero h = omega arith
client_within f (c ∷ cs) (suc n) h = omega (arith, client_within f cs n h)

pub client_exists : (w : Workload) (id : CallId) (cs : List Client) → cs ≡ w.clients.items → CallExists (plain_workload w) id → id.client < length cs
unfolding definitions syntax_definitions
client_exists w id cs e h = client_within _ cs id.client (subst (λ l. IsSome (option_and_then (λ client. numbered id.seq client.calls) (slice_get (map plain_client l) id.client))) (sym e) h)

numbered_previous : (n : ℕ) (calls : List s.Call) → 1 ≤ n → numbered n calls ≡ slice_get calls (n - 1)
numbered_previous zero calls h = absurd (omega arith)
numbered_previous (suc n) calls h = let e : n ≡ suc n - 1 = omega arith in ap (slice_get calls) e

call_within : (cs : List Call) (n : ℕ) → IsSome (slice_get (map plain_call cs) n) → n < length cs
call_within [] n h = absurd (false≢true h)
call_within (c ∷ cs) zero h = omega arith
call_within (c ∷ cs) (suc n) h = omega (arith, call_within cs n h)

numbered_within : (n : ℕ) (cs : List Call) → IsSome (numbered n (map plain_call cs)) → (1 ≤ n) × (n - 1 < length cs)
numbered_within zero cs h = absurd (false≢true h)
numbered_within (suc n) cs h = let k = call_within cs n h in (omega arith, omega arith)

-- the call is among its client's calls
pub record CallHere (w : Workload) (id : CallId) (calls : List Call) : Type 0 where
  pub counted : 1 ≤ id.seq
  pub within : id.seq - 1 < length calls
  pub found : (c : Call) → c ≡ get_or calls (id.seq - 1) c → call_of (plain_workload w) id ≡ Some (plain_call c)

pub call_here : (w : Workload) (id : CallId) (cs : List Client) (client : Client) (calls : List Call) → cs ≡ w.clients.items → id.client < length cs → client ≡ get_or cs id.client client → calls ≡ client.calls.items → CallExists (plain_workload w) id → CallHere w id calls
unfolding definitions syntax_definitions
call_here w id cs client calls e h p q exists =
    let at : slice_get (plain_workload w).clients id.client ≡ Some (plain_client client) = ap (λ l. slice_get (map plain_client l) id.client) (sym e) ∙ slice_get-map plain_client cs id.client ∙ ap (option_map plain_client) (slice_get_read cs (length cs) id.client client refl h p) in
    let of : call_of (plain_workload w) id ≡ numbered id.seq (map plain_call calls) = ap (option_and_then (λ client. numbered id.seq client.calls)) at ∙ ap (λ l. numbered id.seq (map plain_call l)) (sym q) in
    let k = numbered_within id.seq calls (subst IsSome of exists) in
    record {
      counted = k.0;
      within = k.1;
      found = λ c r. of ∙ numbered_previous id.seq (map plain_call calls) k.0 ∙ slice_get-map plain_call calls (id.seq - 1) ∙ ap (option_map plain_call) (slice_get_read calls (length calls) (id.seq - 1) c refl k.1 r);
    }

-- what stands of the transaction at a place of the code's list
pub runs_here : (w : Workload) (ts : List Transaction) (place : ℕ) (args : List ℤ) (t : Transaction) (params : List RangeDecl) (given bound : List Argument) (body : List Command) (d : Declarations) (db : List ℤ) → ts ≡ w.transactions.items → place < length ts → t ≡ get_or ts place t → params ≡ t.params.items → given ≡ bound → arguments_of (map (λ a. a.name) bound) (map (λ a. a.value) bound) ≡ arguments_of (map (λ p. p.name.name) params) args → body ≡ t.body.items → d ≡ declarations (plain_workload w) → IsLightBody (plain_workload w) (slice_get (plain_workload w).transactions place) args → IsWithin (schema_of (plain_workload w)) db → TransactionRuns (plain_workload w) place args d given (commands (map plain_command body)) db
unfolding syntax_definitions
runs_here w ts place args t params given bound body d db e h p ps b g q r light within =
    transaction_runs (plain_workload w) (plain_transaction t) place args d given (commands (map plain_command body)) db (transaction_here w ts place t e h p) (ap (λ l. arguments_of (map (λ a. a.name) l) (map (λ a. a.value) l)) b ∙ g ∙ ap (λ ps. arguments_of (map (λ p. p.name.name) ps) args) ps) r (ap (λ l. commands (map plain_command l)) q) light within
