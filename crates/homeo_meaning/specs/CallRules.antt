-- The rules of calls and of the schedule.
use Rattle.std.specs.Prelude.{ℕ, Bool, true, false, not, ◌&&◌, nat_lt, List, [], ◌∷◌, ◌++◌, length, Option, Some, None, ◌==◌, slice_get, count_by}
use Rattle.std.specs.List.{list_any, flat_map}
use Rattle.homeo_syntax.specs.Source as s
use Rattle.homeo_syntax.specs.declared.phrase.Ident.{Ident}
use Rattle.homeo_syntax.specs.declared.phrase.Number.{Number}
use Rattle.homeo_syntax.specs.declared.workload.RangeDecl.{RangeDecl}
use Rattle.homeo_meaning.specs.Key.{definitions}
use Rattle.homeo_meaning.specs.Bindings.{Scope}
use Rattle.homeo_meaning.specs.NameRules.{when, fault}
use Rattle.homeo_meaning.specs.TransactionRules.{each}
use Rattle.homeo_meaning.specs.NumberRules.{arguments_outside, site_faults}
use Rattle.homeo_meaning.specs.declared.call.Purpose.{Purpose}
use Rattle.homeo_meaning.specs.declared.call.Purpose.TheVariants.{Steps}
use Rattle.homeo_meaning.specs.declared.rules.Fault.{Fault}
use Rattle.homeo_meaning.specs.declared.rules.Phase.TheVariants.{Unknown, Kind, Arity, Schedule}
use Rattle.homeo_meaning.specs.declared.rules.Item.{Item}
use Rattle.homeo_meaning.specs.declared.rules.Item.TheVariants as I

-- ---- calls
abbrev pub params_of : Option s.Transaction → List RangeDecl
params_of None = []
params_of (Some t) = t.params

-- as many arguments as parameters, and each within its parameter's bounds
abbrev pub argument_faults : List RangeDecl → s.Call → List Fault
unfolding definitions
argument_faults params c = when (not (length c.args == length params)) (fault Arity c.name) ++ arguments_outside 0 params c.args

-- a call takes a transaction
abbrev pub call_faults : List s.Transaction → Option Item → s.Call → List Fault
unfolding definitions
call_faults ts None c = fault Unknown c.name
call_faults ts (Some (I.Transaction k)) c = argument_faults (params_of (slice_get ts k)) c
call_faults ts (Some g) c = fault Kind c.name

abbrev pub client_faults : Number → Scope → List s.Transaction → s.Client → List Fault
unfolding definitions
client_faults sites scope ts c =
    flat_map (λ call. call_faults ts (scope.item call.name.name) call) c.calls ++ site_faults sites c.site

-- ---- the schedule
abbrev pub times : ℕ → List Ident → ℕ
times n xs = count_by (λ x. x.name == n) xs

abbrev pub call_count : Option s.Client → ℕ
call_count None = 0
call_count (Some c) = length c.calls

-- a name of a schedule takes a client that was named less often before than it has calls
abbrev pub scheduled : List s.Client → ℕ → Option Item → Ident → List Fault
unfolding definitions
scheduled cs before None x = fault Unknown x
scheduled cs before (Some (I.Client k)) x = when (before == call_count (slice_get cs k)) (fault Schedule x)
scheduled cs before (Some g) x = fault Kind x

abbrev pub order_faults : Scope → List s.Client → List Ident → List Fault
unfolding definitions
order_faults s cs xs = each (λ before x. scheduled cs (times x.name before) (s.item x.name) x) xs

-- some client is named less often than it has calls
abbrev pub is_short : List s.Client → List Ident → Bool
unfolding definitions
is_short cs xs = list_any (λ c. nat_lt (times c.name.name xs) (length c.calls)) cs

-- a fault of the schedule that stands at the word `end`
abbrev pub end_fault : ℕ → List Fault
end_fault end = record { phase = Schedule; offset = end } ∷ []

abbrev pub has_calls : List s.Client → Bool
unfolding definitions
has_calls cs = list_any (λ c. nat_lt 0 (length c.calls)) cs

abbrev pub needs_order : Purpose → Bool
needs_order Steps = true
needs_order _ = false

abbrev pub schedule_faults : Purpose → Scope → List s.Client → ℕ → Option (List Ident) → List Fault
unfolding definitions
schedule_faults purpose scope cs end None = when (needs_order purpose && has_calls cs) (end_fault end)
schedule_faults purpose scope cs end (Some xs) = order_faults scope cs xs ++ when (is_short cs xs) (end_fault end)
