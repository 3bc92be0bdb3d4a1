-- Which of the faults of L forms decides, by those of sizes and prints, and then of weights and rows.
use Rattle.std.proofs.Common.{◌≡◌, IfOk, Ok, Err, Result, ℕ, ◌+◌, ◌^◌, ◌<◌, ◌≤◌, arith, All, true, false, List, [], ◌++◌, map, length, Option, Some, None, sym, ap, subst, ◌∙◌, append_assoc}
use Rattle.std.proofs.lemmas.List.{length-map}
use Rattle.std.specs.List.{flat_map}
use Rattle.homeo_syntax.specs.Key.{definitions as syntax_definitions}
use Rattle.homeo_syntax.specs.LowView.{plain_lcommand}
use Rattle.homeo_syntax.specs.Source as s
use Rattle.homeo_syntax.specs.declared.list.Memory.{Memory}
use Rattle.homeo_syntax.specs.declared.low.LCommand.{LCommand}
use Rattle.homeo_syntax.specs.SourceView.{plain_relation, plain_workload}
use Rattle.homeo_syntax.specs.declared.workload.Workload.{Workload}
use Rattle.homeo_meaning.specs.Key.{definitions as meaning_definitions}
use Rattle.homeo_rules.specs.inner.Deciding.{keep_all}
use Rattle.homeo_meaning.specs.Faults.{form_faults}
use Rattle.homeo_meaning.specs.Forms.{AreForms}
use Rattle.homeo_meaning.specs.GlobalNames.{sited_calls}
use Rattle.homeo_meaning.specs.NumberRules.{ground_calls}
use Rattle.homeo_meaning.specs.Context.{object_count}
use Rattle.homeo_meaning.specs.Schema.{declared_object, declared_relation, schema_of}
use Rattle.homeo_desugar.specs.SchemaFits.{SchemaFits}
use Rattle.homeo_meaning.specs.SizeRules.{extent_of, too_large, size_faults, print_faults, heavy_call, weight_faults, too_many_rows, makes_tables, row_faults}
use Rattle.homeo_meaning.specs.ListRules.{when}
use Rattle.homeo_meaning.specs.TransactionRules.{each}
use Rattle.homeo_meaning.specs.declared.call.Purpose.{Purpose}
use Rattle.homeo_meaning.specs.declared.rules.Fault.{Fault}
use Rattle.homeo_meaning.proofs.FaultParts.{none_first}
use Rattle.homeo_rules.proofs.Phases.{sizes_in, later_in, decides_first}
use Rattle.homeo_meaning.proofs.SoundRelations.{slots-fit, objects-fit}
use Rattle.homeo_context.specs.Placed.{HasSlots}
use Rattle.homeo_context.proofs.Placing.{have_slots}
use Rattle.homeo_rules.specs.inner.Decided.{IsFaultless, fault_of}
use Rattle.homeo_rules.specs.inner.Printing.{prints_too_much_in}
use Rattle.homeo_ground.specs.Sited.{sited}
use Rattle.homeo_rules.specs.inner.Bodies.{form_place}
use Rattle.homeo_rules.specs.inner.Sizes.{AreTold, AreKnown, call_of}
use Rattle.homeo_rules.specs.declared.forms.Forms.{Forms}
use Rattle.homeo_ground.specs.declared.sited.SitedCall.{SitedCall}
use Rattle.homeo_rules.specs.declared.rules.sizes.MeasuredCall.{MeasuredCall}
use Rattle.homeo_rules.proofs.OneDecides.{none_left}
use Rattle.homeo_rules.proofs.CallsMeasured.{AllKnown, are_known}
use Rattle.homeo_rules.proofs.Steps.{keep_all-append}

-- ---- what is laid out
pub slots-here : (w : Workload) → IsFaultless (plain_workload w) → All HasSlots w.relations.items
unfolding meaning_definitions syntax_definitions
slots-here w sound = have_slots w.relations.items (slots-fit (plain_workload w) sound.limits)

pub objects-fit-forms : (w : Workload) → IsFaultless (plain_workload w) → SchemaFits (schema_of (plain_workload w))
objects-fit-forms w sound = few (objects-fit (plain_workload w) sound.limits)
  where
    few : {n : ℕ} → n ≤ 1024 → n + 1 < 2 ^ 32
    few h = omega arith

pub few-objects : (w : Workload) → IsFaultless (plain_workload w) → object_count (length w.objects.items) (map declared_relation (map plain_relation w.relations.items)) ≤ 1024
unfolding meaning_definitions syntax_definitions
few-objects w sound =
    subst (λ n. object_count n (map declared_relation (map plain_relation w.relations.items)) ≤ 1024) (length-map w.objects.items declared_object) (objects-fit (plain_workload w) sound.limits)

-- ---- which decides
-- a fault of sizes or prints comes before those of weights and rows
pub sizes-decide : (purpose : Purpose) (w : s.Workload) (b : Option Fault) (f : Fault) → b ≡ keep_all None (size_faults w ++ print_faults w) → b ≡ Some f → b ≡ keep_all None (form_faults purpose w)
unfolding meaning_definitions
sizes-decide purpose w b f e is =
    is
    ∙ sym (
    ap (keep_all None) (append_assoc (size_faults w ++ print_faults w) (weight_faults w) (row_faults purpose w))
    ∙ keep_all-append None (size_faults w ++ print_faults w) (weight_faults w ++ row_faults purpose w)
    ∙ decides_first 7 8 10 (size_faults w ++ print_faults w) (weight_faults w ++ row_faults purpose w) f (sizes_in w) (later_in purpose w) (sym e ∙ is))

pub after-sizes : (purpose : Purpose) (w : s.Workload) (b : Option Fault) → b ≡ keep_all None (size_faults w ++ print_faults w) → b ≡ None → keep_all None (weight_faults w ++ row_faults purpose w) ≡ keep_all None (form_faults purpose w)
unfolding meaning_definitions
after-sizes purpose w b e none =
    sym (
    ap (keep_all None) (append_assoc (size_faults w ++ print_faults w) (weight_faults w) (row_faults purpose w))
    ∙ keep_all-append None (size_faults w ++ print_faults w) (weight_faults w ++ row_faults purpose w)
    ∙ ap (λ o. keep_all o (weight_faults w ++ row_faults purpose w)) (sym e ∙ none))

-- ---- of the lists that the code goes along
-- the ground calls are measured, one for one
pub grounds-plain : (w : s.Workload) (grounds : List SitedCall) (measured found : List MeasuredCall)
    → map sited grounds ≡ ground_calls w → map call_of measured ≡ map sited grounds → found ≡ measured → map call_of found ≡ ground_calls w
grounds-plain w grounds measured found e m f = ap (map call_of) f ∙ m ∙ e

-- where there is no fault of sizes, each ground call is measured
pub all-known : (w : s.Workload) (b : Option Fault) (ms : List MeasuredCall) → map call_of ms ≡ ground_calls w → AreTold w 0 ms → b ≡ keep_all None (size_faults w ++ print_faults w) → b ≡ None → AllKnown w ms
unfolding meaning_definitions
all-known w b ms grounds told e none =
    let no_size : size_faults w ≡ [] = none_first (size_faults w) (print_faults w) (none_left (size_faults w ++ print_faults w) (sym e ∙ none)) in
    are_known w ms told (ap (each (too_large (extent_of w))) grounds ∙ no_size)

pub sizes-and-prints : (w : s.Workload) (ms : List MeasuredCall) (calls : List SitedCall) (one two : Option Fault) → map call_of ms ≡ ground_calls w → map sited calls ≡ sited_calls w → one ≡ keep_all None (each (too_large (extent_of w)) (map call_of ms)) → two ≡ keep_all one (each (prints_too_much_in w) (map sited calls)) → two ≡ keep_all None (size_faults w ++ print_faults w)
unfolding meaning_definitions
sizes-and-prints w ms calls one two grounds all e f =
    f
    ∙ (λ i. keep_all (e i) (each (prints_too_much_in w) (all i)))
    ∙ ap (λ l. keep_all (keep_all None (each (too_large (extent_of w)) l)) (print_faults w)) grounds
    ∙ sym (keep_all-append None (size_faults w) (print_faults w))

pub rows-found : (purpose : Purpose) (w : s.Workload) (best : Option Fault) (ms : List MeasuredCall) → map call_of ms ≡ ground_calls w → makes_tables purpose ≡ true → keep_all best (each (too_many_rows w) (map call_of ms)) ≡ keep_all best (row_faults purpose w)
unfolding meaning_definitions
rows-found purpose w best ms grounds makes =
    ap (λ l. keep_all best (each (too_many_rows w) l)) grounds ∙ ap (λ b. keep_all best (when b (each (too_many_rows w) (ground_calls w)))) (sym makes)

pub no-rows : (purpose : Purpose) (w : s.Workload) (best : Option Fault) → makes_tables purpose ≡ false → best ≡ keep_all best (row_faults purpose w)
unfolding meaning_definitions
no-rows purpose w best makes = ap (λ b. keep_all best (when b (each (too_many_rows w) (ground_calls w)))) (sym makes)

pub weights-and-rows : (purpose : Purpose) (w : s.Workload) (ms : List MeasuredCall) (one two : Option Fault) → map call_of ms ≡ ground_calls w → one ≡ keep_all None (flat_map (heavy_call w) (map call_of ms)) → two ≡ keep_all one (row_faults purpose w) → two ≡ keep_all None (weight_faults w ++ row_faults purpose w)
unfolding meaning_definitions
weights-and-rows purpose w ms one two grounds e f =
    f
    ∙ ap (λ o. keep_all o (row_faults purpose w)) (e ∙ ap (λ l. keep_all None (flat_map (heavy_call w) l)) grounds)
    ∙ sym (keep_all-append None (weight_faults w) (row_faults purpose w))

-- the L forms that are handed on where there is no fault
pub forms-stand :
    (w : s.Workload) (r : Result (Result Forms Fault) Memory) (fault : Option Fault) (calls : List MeasuredCall) (forms : List LCommand) → IfOk r (λ x. fault_of x ≡ fault) → IfOk r (λ x. IfOk x (λ f. f.forms.items ≡ forms)) →
    IfOk r (λ x. IfOk x (λ f. f.places.items ≡ map (λ c. form_place c.body) calls)) → (fault ≡ None → AreKnown calls) → (AreKnown calls → AreForms w (map plain_lcommand forms) (map (λ c. form_place c.body) calls)) →
    IfOk r (λ x. IfOk x (λ f. AreForms w (map plain_lcommand f.forms.items) f.places.items))
forms-stand w (Ok (Ok f)) fault calls forms none made places known stand =
    subst (AreForms w (map plain_lcommand f.forms.items)) (sym places)
    (subst (λ (l : List LCommand). AreForms w (map plain_lcommand l) (map (λ c. form_place c.body) calls)) (sym made) (stand (known (sym none))))
forms-stand w (Ok (Err g)) fault calls forms none made places known stand = tt
forms-stand w (Err e) fault calls forms none made places known stand = tt
