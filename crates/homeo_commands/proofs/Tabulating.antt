-- Where a workload has no fault, no table of a ground call has too many rows.
use Rattle.std.proofs.Common.{◌≡◌, ℕ, ◌+◌, ◌^◌, ◌<◌, ◌≤◌, Bool, true, false, ◌||◌, List, [], ◌∷◌, ◌++◌, map, length, take, get_or, Some, All, Result, Ok, Err, OnOk, refl, sym, ap, subst, append_assoc, append-nil, ◌∙◌, arith}
use Rattle.std.specs.Prelude.{slice_get, nat_lt}
use Rattle.std.specs.List.{flat_map}
use Rattle.std.proofs.lemmas.Bool.Decides.{nat_tests}
use Rattle.std.proofs.lemmas.List.{get_or-map, length-map, map-append}
use Rattle.std.proofs.lemmas.List.Elements.{All-nil, All-cons}
use Rattle.homeo_lemmas.proofs.Lists.{map_take_more}
use Rattle.homeo_syntax.specs.Source as s
use Rattle.homeo_syntax.specs.Low.{Command}
use Rattle.homeo_meaning.specs.Key.{definitions as meaning_definitions}
use Rattle.homeo_meaning.specs.CallForm.{body_form, call_form, ground_form}
use Rattle.homeo_meaning.specs.CallRules.{call_faults, client_faults}
use Rattle.homeo_meaning.specs.Declarations.{declarations, place_of}
use Rattle.homeo_meaning.specs.Faults.{faults}
use Rattle.homeo_meaning.specs.GlobalNames.{SitedCall, scope_of, called, transaction_at, sited_calls_of, sited_calls}
use Rattle.homeo_meaning.specs.Ground.{Ground, plain_ground, sited_call, ground_of_sited, grounds}
use Rattle.homeo_meaning.specs.declared.call.GroundCall.{GroundCall}
use Rattle.homeo_meaning.specs.ListRules.{when}
use Rattle.homeo_meaning.specs.LowSizes.{rows}
use Rattle.homeo_meaning.specs.NumberRules.{ground_calls, site_faults}
use Rattle.homeo_meaning.specs.SizeRules.{too_many_rows}
use Rattle.homeo_meaning.specs.TransactionRules.{each_from}
use Rattle.homeo_meaning.specs.declared.call.Purpose.TheVariants.{Tables}
use Rattle.homeo_meaning.specs.declared.rules.Fault.{Fault}
use Rattle.homeo_meaning.specs.declared.rules.Item.TheVariants as I
use Rattle.homeo_meaning.proofs.FaultParts.{none_first, none_second, parts, declared_parts, limit_parts}
use Rattle.homeo_meaning.proofs.GroundCalls.{Every}
use Rattle.homeo_meaning.proofs.SoundRules.{names_one, named-is}
use Rattle.homeo_meaning.proofs.TransactionPlaces.{transaction_place}
use Rattle.homeo_plan.specs.Key.{definitions as plan_definitions}
use Rattle.homeo_plan.specs.Planned.{sites_of, planned_call}
use Rattle.homeo_plan.specs.Table.{Row}
use Rattle.homeo_plan.specs.Template.{shifted}
use Rattle.homeo_plan.proofs.PlannedCalls.{every_both, every_distinct}
use Rattle.homeo_plan.proofs.RowCounts.{rows_shift}
use Rattle.homeo_print.specs.Key.{definitions as print_definitions}
use Rattle.homeo_print.specs.Tables.{call_table, row_text, rows_text, table_text, joint_text}
use Rattle.homeo_print.proofs.OneMore.{numbered_more}
use Rattle.homeo_commands.specs.inner.Key.{definitions}
use Rattle.homeo_commands.specs.inner.Tabulated.{HasFewRows, AddsJoint, calls_text, rows_from}
use Rattle.homeo_meaning.proofs.FewClients.{few_from}
use Rattle.homeo_table.proofs.RowCounting.{some_rows}

-- ---- each call names a transaction
abbrev IsNamed : s.Workload → SitedCall → Type 0
IsNamed w c = (k : ℕ) × ((scope_of w).item c.name.name ≡ Some (I.Transaction k))

abbrev rule : s.Workload → s.Call → List Fault
rule w call = call_faults w.transactions ((scope_of w).item call.name.name) call

named_calls : (w : s.Workload) (client : s.Client) (calls : List s.Call) → flat_map (rule w) calls ≡ [] → Every (IsNamed w) (map (sited_call client) calls)
unfolding meaning_definitions
named_calls w client [] none = tt
named_calls w client (c ∷ cs) none = (
  names_one w c ((scope_of w).item c.name.name) (none_first (rule w c) (flat_map (rule w) cs) none),
  named_calls w client cs (none_second (rule w c) (flat_map (rule w) cs) none),
)

named_clients :
    (w : s.Workload) (cs : List s.Client) → flat_map (client_faults w.sites (scope_of w) w.transactions) cs ≡ [] → Every (IsNamed w) (flat_map sited_calls_of cs)
unfolding meaning_definitions
named_clients w [] none = tt
named_clients w (c ∷ cs) none =
    let here : List Fault = client_faults w.sites (scope_of w) w.transactions c in
    let more : List Fault = flat_map (client_faults w.sites (scope_of w) w.transactions) cs in
    every_both (IsNamed w) (sited_calls_of c) (flat_map sited_calls_of cs)
    (named_calls w c c.calls (none_first (flat_map (rule w) c.calls) (site_faults w.sites c.site) (none_first here more none)))
    (named_clients w cs (none_second here more none))

-- its L form is that of its ground call
same_form : (w : s.Workload) (c : SitedCall) → IsNamed w c → call_form w c ≡ ground_form w (ground_of_sited w c)
unfolding meaning_definitions
same_form w c n =
    let by_name : called w c.name ≡ slice_get w.transactions n.0 = ap (transaction_at w) n.1 in
    let by_place : slice_get w.transactions (place_of (declarations w).transactions c.name.name) ≡ slice_get w.transactions n.0 =
    transaction_place w c.name.name ∙ named-is w c.name.name n.0 n.1 in
    ap (λ t. body_form w t c.args) (by_name ∙ sym by_place)

-- ---- no table has too many rows
abbrev HasFew : s.Workload → SitedCall → Type 0
HasFew w c = rows (call_form w c) ≤ 4096

few_or_fault : (n : ℕ) (b : Bool) (fs : List Fault) (f : Fault) → when (nat_lt 4096 n || b) (f ∷ []) ≡ [] → n ≤ 4096
unfolding meaning_definitions
few_or_fault n b fs f none = go (nat_lt 4096 n) refl none
  where
    go : (d : Bool) → nat_lt 4096 n ≡ d → when (d || b) (f ∷ []) ≡ [] → n ≤ 4096
    go true e none = absurd (cc)
    go false e none = grind (arith, nat_tests)

few_rows : (w : s.Workload) (before cs : List SitedCall) → each_from (too_many_rows w) before cs ≡ [] → Every (HasFew w) cs
unfolding meaning_definitions
few_rows w before [] none = tt
few_rows w before (c ∷ cs) none =
    let more : List Fault = each_from (too_many_rows w) (before ++ c ∷ []) cs in (
      few_or_fault (rows (call_form w c)) _ more _ (none_first (too_many_rows w before c) more none),
      few_rows w (before ++ c ∷ []) cs (none_second (too_many_rows w before c) more none),
    )

-- ---- all of them
all_few : (w : s.Workload) (us : List SitedCall) → Every (IsNamed w) us → Every (HasFew w) us → All (HasFewRows w) (map (ground_of_sited w) us)
unfolding meaning_definitions
all_few w [] named few = All-nil (HasFewRows w)
all_few w (u ∷ us) named few =
    All-cons (HasFewRows w) (ground_of_sited w u) (map (ground_of_sited w) us) (subst (λ c. rows c ≤ 4096) (same_form w u named.0) few.0)
    (all_few w us named.1 few.1)

pub tables_are_few : (w : s.Workload) → faults Tables w ≡ [] → All (HasFewRows w) (grounds w)
unfolding meaning_definitions
tables_are_few w none =
    let all = parts Tables w none in
    let named : Every (IsNamed w) (ground_calls w) =
    every_distinct (IsNamed w) (sited_calls w) [] (named_clients w w.clients (declared_parts w all.text.declared).clients) tt in
    all_few w (ground_calls w) named (few_rows w [] (ground_calls w) all.form.rows)

pub grounds_few : (w : s.Workload) → faults Tables w ≡ [] → length (grounds w) ≤ 1024
unfolding meaning_definitions
grounds_few w none =
    let limits = limit_parts w (parts Tables w none).text.limits in
    let few = few_from 1024 (λ (c : SitedCall). c.name) [] (ground_calls w) (omega arith) limits.grounds in
    omega (arith, few, length-map (ground_calls w) (ground_of_sited w))

-- ---- rows of a call
-- the table of a command of few rows has one, and not too many
pub rows_counted :
    (w : s.Workload) (g : Ground) (c : Command) (n : ℕ) → HasFewRows w g → c ≡ shifted (sites_of w) (planned_call w g) → n ≡ rows c → (1 ≤ n) × (n < 2 ^ 32)
unfolding plan_definitions
rows_counted w g c n few is count =
    let same : rows c ≡ rows (ground_form w g) = ap rows is ∙ rows_shift (sites_of w) g.site (ground_form w g) in
    let some : 1 ≤ rows (ground_form w g) = some_rows (ground_form w g) in
    (omega (arith, same, some, count), omega (arith, same, few, count))

-- ---- one call more
pub texts_more :
    (w : s.Workload) (calls : List GroundCall) (i : ℕ) (g : GroundCall) → i < length calls → g ≡ get_or calls i g →
    calls_text w (map plain_ground (take (i + 1) calls)) ≡
    calls_text w (map plain_ground (take i calls)) ++ table_text w i (plain_ground g) (call_table w (plain_ground g))
unfolding definitions
texts_more w calls i g within is = numbered_more (λ n g. table_text w n g (call_table w g)) plain_ground calls i g within is

pub counts_more :
    (w : s.Workload) (calls : List GroundCall) (i : ℕ) (g : GroundCall) → i < length calls → g ≡ get_or calls i g →
    map length (map (call_table w) (map plain_ground (take (i + 1) calls))) ≡
    map length (map (call_table w) (map plain_ground (take i calls))) ++ length (call_table w (plain_ground g)) ∷ []
counts_more w calls i g within is =
    let before = map plain_ground (take i calls) in
    ap (λ gs. map length (map (call_table w) gs)) (map_take_more plain_ground calls i g within is)
    ∙ ap (map length) (map-append (call_table w) before (plain_ground g ∷ []))
    ∙ map-append length (map (call_table w) before) (call_table w (plain_ground g) ∷ [])

pub few_here :
    (w : s.Workload) (calls : List GroundCall) (i : ℕ) (g : GroundCall) → i < length calls → g ≡ get_or calls i g →
    All (HasFewRows w) (map plain_ground calls) → HasFewRows w (plain_ground g)
few_here w calls i g within is all =
    let here : i < length (map plain_ground calls) = omega (arith, length-map calls plain_ground, within) in
    subst (HasFewRows w) (get_or-map plain_ground calls i g (plain_ground g) within ∙ ap plain_ground (sym is)) (all i (plain_ground g) here)

-- the table of the command of a call
pub small_here :
    (w : s.Workload) (calls : List GroundCall) (i : ℕ) (g : GroundCall) (c : Command) → map plain_ground calls ≡ grounds w → i < length calls →
    g ≡ get_or calls i g → c ≡ shifted (sites_of w) (planned_call w (plain_ground g)) → All (HasFewRows w) (grounds w) → rows c < 2 ^ 32
small_here w calls i g c are within is command few =
    (rows_counted w (plain_ground g) c (rows c) (few_here w calls i g within is (subst (All (HasFewRows w)) (sym are) few)) command refl).1

-- ---- one row more
pub row_next :
    (w : s.Workload) (n : ℕ) (r s : Row) (rest all : List Row) (out more start text : List ℕ) → all ≡ s ∷ rest → r ≡ s → more ≡ out ++ row_text w n r →
    out ++ rows_from w n all ≡ start ++ text → more ++ rows_from w (n + 1) rest ≡ start ++ text
unfolding definitions
row_next w n r s rest all out more start text e is put so_far =
    ap (λ l. l ++ rows_from w (n + 1) rest) put ∙ append_assoc out (row_text w n r) (rows_from w (n + 1) rest)
    ∙ ap (λ r. out ++ (row_text w n r ++ rows_from w (n + 1) rest)) is ∙ ap (λ all. out ++ rows_from w n all) (sym e) ∙ so_far

pub rows_end : (w : s.Workload) (n : ℕ) (all : List Row) (out whole : List ℕ) → all ≡ [] → out ++ rows_from w n all ≡ whole → out ≡ whole
unfolding definitions
rows_end w n all out whole e so_far = sym (append-nil out) ∙ ap (λ all. out ++ rows_from w n all) (sym e) ∙ so_far

pub rows_start : (w : s.Workload) (out : List ℕ) (all t : List Row) → all ≡ t → out ++ rows_from w 0 all ≡ out ++ rows_text w t
unfolding definitions print_definitions
rows_start w out all t e = ap (λ all. out ++ rows_from w 0 all) e

-- ---- the joint table
pub on_ok_all : {T E A : Type 0} (r : Result T E) (P : A → Type 0) → ((a : A) → OnOk r (P a)) → OnOk r ((a : A) → P a)
on_ok_all (Ok x) P h = h
on_ok_all (Err e) P h = tt

pub adds_joint :
    {T E : Type 0} (r : Result T E) (counts before after : List ℕ) →
    ((tables : List (List Row)) → map length tables ≡ counts → OnOk r (after ≡ before ++ joint_text tables)) → OnOk r (AddsJoint counts before after)
adds_joint r counts before after h =
    on_ok_all r (λ tables. map length tables ≡ counts → after ≡ before ++ joint_text tables)
    (λ tables. on_ok_all r (λ is. after ≡ before ++ joint_text tables) (h tables))
