-- All faults of a workload, and the one that decides.
use Rattle.std.specs.Prelude.{◌≡◌, ◌⊎◌, ℕ, Bool, false, ◌&&◌, ◌||◌, List, [], ◌∷◌, ◌++◌, map, ◌==◌, nat_lt}
use Rattle.std.specs.List.{flat_map}
use Rattle.homeo_syntax.specs.Source as s
use Rattle.homeo_syntax.specs.declared.workload.Refusal.{Refusal}
use Rattle.homeo_meaning.specs.Key.{definitions}
use Rattle.homeo_meaning.specs.Bindings.{Scope}
use Rattle.homeo_meaning.specs.TransactionRules.{each, transaction_faults}
use Rattle.homeo_meaning.specs.GlobalNames.{global_names, duplicate, scope_of}
use Rattle.homeo_meaning.specs.NumberRules.{object_faults, range_bounds, site_weight_faults, limit_faults}
use Rattle.homeo_meaning.specs.CallRules.{client_faults, schedule_faults}
use Rattle.homeo_meaning.specs.SizeRules.{size_faults, print_faults, weight_faults, row_faults}
use Rattle.homeo_meaning.specs.declared.call.Purpose.{Purpose}
use Rattle.homeo_meaning.specs.declared.rules.Fault.{Fault}
use Rattle.homeo_meaning.specs.declared.rules.Phase.{Phase}
use Rattle.homeo_meaning.specs.declared.rules.Phase.TheVariants as P

-- the bounds of its fields, and their names
abbrev pub of_relation : s.RelationDecl → List Fault
unfolding definitions
of_relation q = flat_map range_bounds q.fields ++ each duplicate (map (λ d. d.name) q.fields)

-- the bounds of its parameters, and its names
abbrev pub of_transaction : Scope → s.Transaction → List Fault
unfolding definitions
of_transaction scope t = flat_map range_bounds t.params ++ transaction_faults scope t

-- bounds, names and weights, of what is declared and called
abbrev pub declared_faults : s.Workload → List Fault
unfolding definitions
declared_faults w =
    flat_map object_faults w.objects
    ++ flat_map of_relation w.relations
    ++ flat_map (of_transaction (scope_of w)) w.transactions
    ++ flat_map (client_faults w.sites (scope_of w) w.transactions) w.clients
    ++ site_weight_faults w.sites w.weights

-- names, bounds, counts and the schedule
abbrev pub text_faults : Purpose → s.Workload → List Fault
unfolding definitions
text_faults purpose w =
    each duplicate (map (λ d. d.name) (global_names w))
    ++ declared_faults w
    ++ limit_faults w
    ++ schedule_faults purpose (scope_of w) w.clients w.end w.schedule

-- how large the calls' L forms are, their values, and their tables where these are made
abbrev pub form_faults : Purpose → s.Workload → List Fault
unfolding definitions
form_faults purpose w = size_faults w ++ print_faults w ++ weight_faults w ++ row_faults purpose w

-- all faults of a workload that is read for a purpose
abbrev pub faults : Purpose → s.Workload → List Fault
unfolding definitions
faults purpose w = text_faults purpose w ++ form_faults purpose w

-- ---- the fault that decides
-- the place of a phase in the order in which they are tried
abbrev pub rank : Phase → ℕ
unfolding definitions
rank P.Duplicate = 0
rank P.Unknown = 1
rank P.Kind = 2
rank P.Arity = 3
rank P.Bounds = 4
rank P.Limits = 5
rank P.Schedule = 6
rank P.Size = 7
rank P.Weight = 8
rank P.Rows = 9

-- the number of a phase's refusals
abbrev pub code : Phase → ℕ
unfolding definitions
code P.Duplicate = 5
code P.Unknown = 6
code P.Kind = 7
code P.Arity = 8
code P.Bounds = 9
code P.Limits = 13
code P.Schedule = 14
code P.Size = 11
code P.Weight = 10
code P.Rows = 12

-- an earlier phase, or in one phase a lesser offset
abbrev pub comes_before : Fault → Fault → Bool
unfolding definitions
comes_before f g = nat_lt (rank f.phase) (rank g.phase) || ((rank f.phase == rank g.phase) && nat_lt f.offset g.offset)

abbrev pub IsFaultIn : Fault → List Fault → Type 0
IsFaultIn f [] = ⊥
IsFaultIn f (g ∷ gs) = (g ≡ f) ⊎ IsFaultIn f gs

-- none of an earlier phase, and none in its own phase at a lesser offset
abbrev pub NoneBefore : Fault → List Fault → Type 0
NoneBefore f [] = Unit {0}
NoneBefore f (g ∷ gs) = (comes_before g f ≡ false) × NoneBefore f gs

pub record Decides (all : List Fault) (f : Fault) : Type 0 where
  pub there : IsFaultIn f all
  pub first : NoneBefore f all

-- a refusal has the code and the offset of the fault that decides
pub record IsRefusedBy (purpose : Purpose) (w : s.Workload) (r : Refusal) : Type 0 where
  pub fault : Fault
  pub decides : Decides (faults purpose w) fault
  pub same_code : r.code ≡ code fault.phase
  pub same_offset : r.offset ≡ fault.offset
