-- The rules of calls, kind by kind.
use Rattle.std.proofs.Common.{◌≡◌, ℕ, zero, suc, not, ◌==◌, List, [], ◌∷◌, map, Option, Some, None, length, refl, ◌∙◌, ap}
use Rattle.std.specs.Prelude.{slice_get}
use Rattle.std.specs.List.{flat_map}
use Rattle.homeo_syntax.specs.Key.{definitions as syntax_definitions}
use Rattle.homeo_syntax.specs.Source as s
use Rattle.homeo_syntax.specs.SourceView.{plain_transaction, plain_call}
use Rattle.homeo_syntax.specs.declared.phrase.Number.{Number}
use Rattle.homeo_syntax.specs.declared.workload.RangeDecl.{RangeDecl}
use Rattle.homeo_syntax.specs.declared.workload.Transaction.{Transaction}
use Rattle.homeo_syntax.specs.declared.workload.Call.{Call}
use Rattle.homeo_syntax.specs.declared.workload.Client.{Client}
use Rattle.homeo_meaning.specs.Key.{definitions as meaning_definitions}
use Rattle.homeo_meaning.specs.Bindings.{Scope}
use Rattle.homeo_meaning.specs.NameRules.{when, fault}
use Rattle.homeo_meaning.specs.NumberRules.{arguments_outside, site_faults}
use Rattle.homeo_meaning.specs.CallRules as c
use Rattle.homeo_meaning.specs.CallRules.{argument_faults, call_faults}
use Rattle.homeo_rules.specs.inner.Deciding.{keep_all}
use Rattle.homeo_meaning.specs.declared.rules.Fault.{Fault}
use Rattle.homeo_meaning.specs.declared.rules.Item.TheVariants as I
use Rattle.homeo_meaning.specs.declared.rules.Phase.TheVariants.{Unknown, Kind, Arity}
use Rattle.homeo_rules.specs.inner.Key.{definitions}
use Rattle.homeo_rules.specs.inner.Listwise.{along_all, along_arguments}
use Rattle.homeo_rules.specs.inner.Callers.{params_at, call_faults_of, client_faults_of}
use Rattle.homeo_rules.proofs.Steps.{keep-none, keep_all-append}
use Rattle.homeo_rules.proofs.Listing.{all-mapped, arguments-along}

pub arguments-is : (b : Option Fault) (params : List RangeDecl) (call : Call) → keep_all b (argument_faults params (plain_call call)) ≡ along_arguments (keep_all b (when (not (length call.args.items == length params)) (fault Arity call.name))) 0 params call.args.items
unfolding meaning_definitions syntax_definitions
arguments-is b params call =
    keep_all-append b (when (not (length call.args.items == length params)) (fault Arity call.name)) (arguments_outside 0 params call.args.items)
    ∙ arguments-along (keep_all b (when (not (length call.args.items == length params)) (fault Arity call.name))) 0 params call.args.items

params-plain : (ts : List Transaction) (k : ℕ) → c.params_of (slice_get (map plain_transaction ts) k) ≡ params_at ts k
unfolding syntax_definitions
params-plain [] k = refl
params-plain (t ∷ ts) zero = refl
params-plain (t ∷ ts) (suc k) = params-plain ts k

pub call-is : (sc : Scope) (ts : List Transaction) (call : Call) → call_faults_of sc ts call ≡ call_faults (map plain_transaction ts) (sc.item call.name.name) (plain_call call)
unfolding definitions
call-is sc ts call = refl

pub call-None : (ts : List s.Transaction) (call : Call) → call_faults ts None (plain_call call) ≡ fault Unknown call.name
unfolding meaning_definitions syntax_definitions
call-None ts call = refl

pub call-Transaction : (ts : List Transaction) (k : ℕ) (call : Call) → call_faults (map plain_transaction ts) (Some (I.Transaction k)) (plain_call call) ≡ argument_faults (params_at ts k) (plain_call call)
unfolding meaning_definitions syntax_definitions
call-Transaction ts k call = ap (λ params. argument_faults params (plain_call call)) (params-plain ts k)

pub call-Object : (ts : List s.Transaction) (k : ℕ) (call : Call) → call_faults ts (Some (I.Object k)) (plain_call call) ≡ fault Kind call.name
unfolding meaning_definitions syntax_definitions
call-Object ts k call = refl

pub call-Relation : (ts : List s.Transaction) (k : ℕ) (call : Call) → call_faults ts (Some (I.Relation k)) (plain_call call) ≡ fault Kind call.name
unfolding meaning_definitions syntax_definitions
call-Relation ts k call = refl

pub call-Client : (ts : List s.Transaction) (k : ℕ) (call : Call) → call_faults ts (Some (I.Client k)) (plain_call call) ≡ fault Kind call.name
unfolding meaning_definitions syntax_definitions
call-Client ts k call = refl

pub client-is : (b : Option Fault) (sites : Number) (sc : Scope) (ts : List Transaction) (client : Client) → keep_all b (client_faults_of sites sc ts client) ≡ keep_all (along_all (call_faults_of sc ts) b client.calls.items) (site_faults sites client.site)
unfolding definitions meaning_definitions syntax_definitions
client-is b sites sc ts client =
    keep_all-append b (flat_map (λ (call : s.Call). call_faults (map plain_transaction ts) (sc.item call.name.name) call) (map plain_call client.calls.items)) (site_faults sites client.site)
    ∙ ap (λ a. keep_all a (site_faults sites client.site)) (all-mapped plain_call (λ (call : s.Call). call_faults (map plain_transaction ts) (sc.item call.name.name) call) b client.calls.items)

pub ruleset callings = (keep-none, arguments-is, call-is, call-None, call-Transaction, call-Object, call-Relation, call-Client, client-is)
