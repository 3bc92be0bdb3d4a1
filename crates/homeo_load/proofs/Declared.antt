-- The declarations and the calls of a load have no fault.
use Rattle.std.proofs.Common.{◌≡◌, ◌<◌, ◌≤◌, ℕ, ◌%◌, false, List, [], ◌∷◌, map, flat_map, pos, refl, arith}
use Rattle.std.specs.Prelude.{All, int_le}
use Rattle.std.proofs.lemmas.List.Elements.{All-head, All-tail}
use Rattle.std.proofs.lemmas.Bool.Decides.{nat_tests}
use Rattle.homeo_syntax.specs.Source as s
use Rattle.homeo_meaning.specs.Key.{definitions as meaning_definitions}
use Rattle.homeo_meaning.specs.ListRules.{each, duplicate}
use Rattle.homeo_meaning.specs.GlobalNames.{global_names, scope_of}
use Rattle.homeo_meaning.specs.NumberRules.{object_faults, site_faults}
use Rattle.homeo_meaning.specs.CallRules.{call_faults, client_faults, schedule_faults}
use Rattle.homeo_meaning.specs.Faults.{of_transaction, declared_faults}
use Rattle.homeo_meaning.specs.declared.call.Purpose.TheVariants.{Run}
use Rattle.homeo_meaning.specs.declared.rules.Fault.{Fault}
use Rattle.homeo_load.specs.Key.{definitions}
use Rattle.homeo_load.specs.Additions.{Addition}
use Rattle.homeo_load.specs.Load.{number, load_call, load_client, load_of, eight, dealt}
use Rattle.homeo_load.proofs.Cases.{by_eight, by_nine}
use Rattle.homeo_load.proofs.DrawnAdditions.{IsAddition}
use Rattle.homeo_load.proofs.Dealt.{dealt_fit}
use Rattle.homeo_load.proofs.Judged.{none_then_none, when_false}

module _ (all : List Addition) where
  pub names_once : each duplicate (map (λ d. d.name) (global_names (load_of all))) ≡ []
  unfolding meaning_definitions definitions
  names_once = refl

  objects_none : flat_map object_faults (load_of all).objects ≡ []
  unfolding meaning_definitions definitions
  objects_none = refl

  transactions_none : flat_map (of_transaction (scope_of (load_of all))) (load_of all).transactions ≡ []
  unfolding meaning_definitions definitions
  transactions_none = refl

  -- ---- calls
  abbrev faults_of : s.Call → List Fault
  faults_of call = call_faults (load_of all).transactions ((scope_of (load_of all)).item call.name.name) call

  abbrev IsFine : ℕ → ℕ → Type 0
  IsFine n p = faults_of (load_call (record { object = p; number = n })) ≡ []

  abbrev AllFine : ℕ → Type 0
  AllFine n = (p : ℕ) → p < 8 → IsFine n p

  call_fine : (n : ℕ) → 1 ≤ n → n ≤ 9 → AllFine n
  unfolding meaning_definitions definitions
  call_fine =
      by_nine AllFine
      (by_eight (IsFine 1) refl refl refl refl refl refl refl refl)
      (by_eight (IsFine 2) refl refl refl refl refl refl refl refl)
      (by_eight (IsFine 3) refl refl refl refl refl refl refl refl)
      (by_eight (IsFine 4) refl refl refl refl refl refl refl refl)
      (by_eight (IsFine 5) refl refl refl refl refl refl refl refl)
      (by_eight (IsFine 6) refl refl refl refl refl refl refl refl)
      (by_eight (IsFine 7) refl refl refl refl refl refl refl refl)
      (by_eight (IsFine 8) refl refl refl refl refl refl refl refl)
      (by_eight (IsFine 9) refl refl refl refl refl refl refl refl)

  calls_fine : (some : List Addition) → All IsAddition some → flat_map faults_of (map load_call some) ≡ []
  calls_fine [] a = refl
  calls_fine (x ∷ some) a =
      let here : IsAddition x = All-head IsAddition x some a in
      none_then_none (faults_of (load_call x)) (flat_map faults_of (map load_call some))
      (call_fine x.number here.least here.most x.object here.object) (calls_fine some (All-tail IsAddition x some a))

  site_fine : (j : ℕ) → site_faults (number 4) (number (j % 4)) ≡ []
  unfolding meaning_definitions definitions
  site_fine j =
      let q : int_le (pos 4) (pos (j % 4)) ≡ false = grind (arith, nat_tests) in
      when_false (int_le (pos 4) (pos (j % 4))) _ q

  abbrev of_client : s.Client → List Fault
  of_client = client_faults (load_of all).sites (scope_of (load_of all)) (load_of all).transactions

  client_fine : All IsAddition all → (j : ℕ) → of_client (load_client all j) ≡ []
  unfolding meaning_definitions definitions
  client_fine a j =
      none_then_none (flat_map faults_of (map load_call (dealt j 0 all))) (site_faults (number 4) (number (j % 4)))
      (calls_fine (dealt j 0 all) (dealt_fit j 0 all a)) (site_fine j)

  clients_fine : All IsAddition all → (js : List ℕ) → flat_map of_client (map (load_client all) js) ≡ []
  clients_fine a [] = refl
  clients_fine a (j ∷ js) = none_then_none (of_client (load_client all j)) (flat_map of_client (map (load_client all) js)) (client_fine a j) (clients_fine a js)

  pub declared_none : All IsAddition all → declared_faults (load_of all) ≡ []
  unfolding meaning_definitions definitions
  declared_none a =
      none_then_none (flat_map object_faults (load_of all).objects) _ objects_none
      (none_then_none (flat_map (of_transaction (scope_of (load_of all))) (load_of all).transactions) _ transactions_none
      (none_then_none (flat_map of_client (load_of all).clients) _ (clients_fine a eight) refl))

  pub schedule_none : schedule_faults Run (scope_of (load_of all)) (load_of all).clients 0 (load_of all).schedule ≡ []
  unfolding meaning_definitions definitions
  schedule_none = refl
