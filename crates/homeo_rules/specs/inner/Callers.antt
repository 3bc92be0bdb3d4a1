-- The rules of calls, of the calls and clients that plain ones stand for.
use Rattle.std.specs.Prelude.{ℕ, List, [], Option, Some, None, map, slice_get}
use Rattle.homeo_syntax.specs.SourceView.{plain_transaction, plain_call, plain_client}
use Rattle.homeo_syntax.specs.declared.phrase.Number.{Number}
use Rattle.homeo_syntax.specs.declared.workload.RangeDecl.{RangeDecl}
use Rattle.homeo_syntax.specs.declared.workload.Transaction.{Transaction}
use Rattle.homeo_syntax.specs.declared.workload.Call.{Call}
use Rattle.homeo_syntax.specs.declared.workload.Client.{Client}
use Rattle.homeo_meaning.specs.Bindings.{Scope}
use Rattle.homeo_meaning.specs.CallRules.{call_faults, client_faults}
use Rattle.homeo_meaning.specs.Faults.{of_transaction}
use Rattle.homeo_meaning.specs.declared.rules.Fault.{Fault}
use Rattle.homeo_rules.specs.inner.Key.{definitions}

abbrev pub params_of : Option Transaction → List RangeDecl
params_of None = []
params_of (Some t) = t.params.items

abbrev pub params_at : List Transaction → ℕ → List RangeDecl
params_at ts k = params_of (slice_get ts k)

abbrev pub call_faults_of : Scope → List Transaction → Call → List Fault
unfolding definitions
call_faults_of s ts c = call_faults (map plain_transaction ts) (s.item c.name.name) (plain_call c)

abbrev pub client_faults_of : Number → Scope → List Transaction → Client → List Fault
unfolding definitions
client_faults_of sites s ts c = client_faults sites s (map plain_transaction ts) (plain_client c)

abbrev pub transaction_faults_of : Scope → Transaction → List Fault
unfolding definitions
transaction_faults_of s t = of_transaction s (plain_transaction t)
