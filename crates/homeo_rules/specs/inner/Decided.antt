-- The steps in which the fault that decides is found.
use Rattle.std.specs.Prelude.{◌≡◌, List, [], ◌++◌, map, Option, Some, None, Result, Ok, Err}
use Rattle.homeo_syntax.specs.Source as s
use Rattle.homeo_meaning.specs.GlobalNames.{global_names, duplicate, scope_of}
use Rattle.homeo_meaning.specs.TransactionRules.{each}
use Rattle.homeo_meaning.specs.NumberRules.{limit_faults}
use Rattle.homeo_meaning.specs.CallRules.{schedule_faults}
use Rattle.homeo_meaning.specs.Faults.{declared_faults}
use Rattle.homeo_rules.specs.inner.Deciding.{keep_all}
use Rattle.homeo_meaning.specs.declared.call.Purpose.{Purpose}
use Rattle.homeo_meaning.specs.declared.rules.Fault.{Fault}
use Rattle.homeo_rules.specs.inner.Key.{definitions}
use Rattle.homeo_rules.specs.inner.Scopes.{item_at}
use Rattle.homeo_rules.specs.inner.Items.{Items}

-- the fault that decides among those of the global names
abbrev pub name_fault : s.Workload → Option Fault
name_fault w = keep_all None (each duplicate (map (λ d. d.name) (global_names w)))

-- the table of a workload's global names, and the fault that decides with theirs
pub record NamesGlobals (w : s.Workload) (t : Items) : Type 0 where
  pub items : item_at t.items ≡ (scope_of w).item
  pub kept : t.best ≡ name_fault w

-- the faults of the text that need the global names
abbrev pub faults_with_names : Purpose → s.Workload → List Fault
unfolding definitions
faults_with_names purpose w =
    declared_faults w ++ limit_faults w ++ schedule_faults purpose (scope_of w) w.clients w.end w.schedule

-- no fault that speaks of the text comes before those of the L forms
pub record IsFaultless (w : s.Workload) : Type 0 where
  pub declared : declared_faults w ≡ []
  pub limits : limit_faults w ≡ []

-- the fault that decides, if there is one
abbrev pub fault_of : {T : Type 0} → Result T Fault → Option Fault
fault_of (Ok t) = None
fault_of (Err f) = Some f
