-- The workload of each load is accepted.
use Rattle.std.proofs.Common.{◌≡◌, ◌≤◌, ℕ, List, [], map, length, arith}
use Rattle.std.specs.Prelude.{All}
use Rattle.homeo_meaning.specs.Key.{definitions as meaning_definitions}
use Rattle.homeo_meaning.specs.Acceptance.{IsAccepted}
use Rattle.homeo_meaning.specs.ListRules.{each, duplicate}
use Rattle.homeo_meaning.specs.GlobalNames.{global_names, scope_of}
use Rattle.homeo_meaning.specs.NumberRules.{limit_faults}
use Rattle.homeo_meaning.specs.CallRules.{schedule_faults}
use Rattle.homeo_meaning.specs.Faults.{declared_faults, text_faults, form_faults, faults}
use Rattle.homeo_meaning.specs.declared.call.Purpose.TheVariants.{Run}
use Rattle.homeo_load.specs.Key.{definitions}
use Rattle.homeo_load.specs.Additions.{Addition, additions}
use Rattle.homeo_load.specs.Load.{load_of, load_workload}
use Rattle.homeo_load.proofs.DrawnAdditions.{IsAddition, additions_fit, additions_length}
use Rattle.homeo_load.proofs.Declared.{names_once, declared_none, schedule_none}
use Rattle.homeo_load.proofs.Judged.{none_then_none, four_none}
use Rattle.homeo_load.proofs.Named.{load_well_formed}
use Rattle.homeo_load.proofs.Sizes.{limits_none, forms_none}

module _ (all : List Addition) (a : All IsAddition all) (l : length all ≤ 20000) where
  text_none : text_faults Run (load_of all) ≡ []
  unfolding meaning_definitions definitions
  text_none =
      four_none (each duplicate (map (λ d. d.name) (global_names (load_of all)))) (declared_faults (load_of all)) (limit_faults (load_of all)) (schedule_faults Run (scope_of (load_of all)) (load_of all).clients 0 (load_of all).schedule)
      (names_once all) (declared_none all a) (limits_none all a l) (schedule_none all)

  no_faults : faults Run (load_of all) ≡ []
  unfolding meaning_definitions definitions
  no_faults = none_then_none (text_faults Run (load_of all)) (form_faults Run (load_of all)) text_none (forms_none all a l)

  pub load_of_accepted : IsAccepted (load_of all)
  load_of_accepted = record { well_formed = load_well_formed all a; rules = no_faults }

pub load_accepted : (number calls : ℕ) → calls ≤ 20000 → IsAccepted (load_workload number calls)
unfolding definitions
load_accepted number calls l = load_of_accepted (additions number calls) (additions_fit number calls) (omega (arith, l, additions_length number calls))
