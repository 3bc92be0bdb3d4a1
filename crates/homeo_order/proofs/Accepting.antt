-- Where no rule is broken, the schedule runs every call of every client.
use Rattle.std.proofs.Common.{◌≡◌, ◌<◌, ◌≤◌, ◌+◌, ◌∙◌, ◌++◌, ◌==◌, ℕ, zero, suc, Bool, true, false, cond, List, [], ◌∷◌, length, map, refl, sym, ap, subst, arith, append_assoc, append-nil, ◌⊎◌, inl, inr}
use Rattle.std.specs.Prelude.{All, Option, Some, None, slice_get, if◌then◌else◌, nat_lt}
use Rattle.std.specs.List.{list_any}
use Rattle.std.proofs.lemmas.List.{map-append}
use Rattle.std.proofs.lemmas.List.Elements.{All-nil, All-cons}
use Rattle.std.proofs.lemmas.List.Folds.{list_any-append}
use Rattle.std.proofs.lemmas.Bool.{eqb-false, or_parts}
use Rattle.std.proofs.lemmas.Bool.Decides.{Decides-eqb, nat_tests}
use Rattle.homeo_lemmas.proofs.Naturals.{nat_itself}
use Rattle.homeo_syntax.specs.Source as s
use Rattle.homeo_syntax.specs.declared.phrase.Ident.{Ident}
use Rattle.homeo_syntax.specs.Key.{definitions as syntax_definitions}
use Rattle.homeo_syntax.specs.WellFormed.{Each, InSchedule, IsBelow, IsWellFormed}
use Rattle.homeo_meaning.specs.Key.{definitions as meaning_definitions}
use Rattle.homeo_meaning.specs.NameRules.{when}
use Rattle.homeo_meaning.specs.TransactionRules.{each, each_from, is_in}
use Rattle.homeo_meaning.specs.GlobalNames.{GlobalName, global_names, numbered_from, first_named, duplicate, scope_of}
use Rattle.homeo_meaning.specs.CallRules.{times, call_count, scheduled, is_short, end_fault, schedule_faults}
use Rattle.homeo_meaning.specs.Faults.{faults}
use Rattle.homeo_meaning.proofs.FaultParts.{none_first, none_second, parts}
use Rattle.homeo_meaning.proofs.FewClients.{few_clients}
use Rattle.homeo_meaning.proofs.SoundRelations.{when_none}
use Rattle.homeo_meaning.specs.declared.call.Purpose.TheVariants.{Steps}
use Rattle.homeo_meaning.specs.Declarations.{place_of, place_from}
use Rattle.homeo_meaning.specs.declared.rules.Fault.{Fault}
use Rattle.homeo_meaning.specs.declared.rules.Item.{Item}
use Rattle.homeo_meaning.specs.declared.rules.Item.TheVariants as I
use Rattle.homeo_order.specs.Key.{definitions}
use Rattle.homeo_order.specs.Order.{client_names, order_of}
use Rattle.homeo_order.specs.Scheduled.{IsWholeOrder}
use Rattle.homeo_order.proofs.Scheduling.{times-snoc}

not_less : (m n : ℕ) → nat_lt m n ≡ false → n ≤ m
not_less m n e = grind (arith, nat_tests)

-- ---- names of one kind among others
either_step : (b : Bool) (item v : Item) (rest here there : Option Item) → (if b then Some item else rest) ≡ Some v → (rest ≡ Some v → (here ≡ Some v) ⊎ (there ≡ Some v))
    → ((if b then Some item else here) ≡ Some v) ⊎ (there ≡ Some v)
either_step true item v rest here there e later = inl e
either_step false item v rest here there e later = later e

-- what is found in two lists is found in one of them
found_in : (ds es : List GlobalName) (n : ℕ) (v : Item) → first_named (ds ++ es) n ≡ Some v → (first_named ds n ≡ Some v) ⊎ (first_named es n ≡ Some v)
unfolding meaning_definitions
found_in [] es n v e = inr e
found_in (d ∷ ds) es n v e = either_step (d.name.name == n) d.item v (first_named (ds ++ es) n) (first_named ds n) (first_named es n) e (found_in ds es n v)

chosen : (b : Bool) (item v : Item) (rest : Option Item) → (if b then Some item else rest) ≡ Some v → (item ≡ v) ⊎ (rest ≡ Some v)
chosen true item v rest e = inl (cc)
chosen false item v rest e = inr e

-- a list of names that are numbered as one kind gives no other
other_kind : (kind : ℕ → Item) (i : ℕ) (xs : List Ident) (n k : ℕ) → ((j : ℕ) → kind j ≡ I.Client k → ⊥) → first_named (numbered_from kind i xs) n ≡ Some (I.Client k) → ⊥
unfolding meaning_definitions
other_kind kind i [] n k differs e = absurd (cc)
other_kind kind i (x ∷ xs) n k differs e =
    elim (chosen (x.name == n) (kind i) (I.Client k) (first_named (numbered_from kind (i + 1) xs) n) e) [ inl here ↦ differs i here | inr later ↦ other_kind kind (i + 1) xs n k differs later ]

-- the global names but for the clients'
others : s.Workload → List GlobalName
others w =
    numbered_from I.Object 0 (map (λ d. d.name) w.objects)
    ++ numbered_from I.Relation 0 (map (λ d. d.name) w.relations)
    ++ numbered_from I.Transaction 0 (map (λ d. d.name) w.transactions)

client_names_of : s.Workload → List GlobalName
client_names_of w = numbered_from I.Client 0 (map (λ c. c.name) w.clients)

no_client : (w : s.Workload) (n k : ℕ) → first_named (others w) n ≡ Some (I.Client k) → ⊥
unfolding others
no_client w n k e =
    let objects : List GlobalName = numbered_from I.Object 0 (map (λ d. d.name) w.objects) in
    let relations : List GlobalName = numbered_from I.Relation 0 (map (λ d. d.name) w.relations) in
    let transactions : List GlobalName = numbered_from I.Transaction 0 (map (λ d. d.name) w.transactions) in
    elim (found_in (objects ++ relations) transactions n (I.Client k) e) [
      | inl front ↦ elim (found_in objects relations n (I.Client k) front) [
        | inl at ↦ other_kind I.Object 0 (map (λ d. d.name) w.objects) n k (λ j same. cc) at
        | inr at ↦ other_kind I.Relation 0 (map (λ d. d.name) w.relations) n k (λ j same. cc) at
      ]
      | inr at ↦ other_kind I.Transaction 0 (map (λ d. d.name) w.transactions) n k (λ j same. cc) at
    ]

client_step : (b : Bool) (i k place : ℕ) (rest : Option Item) (many : ℕ) → (if b then Some (I.Client i) else rest) ≡ Some (I.Client k) → (rest ≡ Some (I.Client k) → (place ≡ k) × (k < suc i + many))
    → (cond b i place ≡ k) × (k < i + suc many)
client_step true i k place rest many e later = let same : i ≡ k = cc in (same, omega (arith, same))
client_step false i k place rest many e later = let at = later e in (at.0, omega (arith, at.1))

-- a name that is a client's has the client's place
client_from : (i : ℕ) (cs : List s.Client) (n k : ℕ) → first_named (numbered_from I.Client i (map (λ (c : s.Client). c.name) cs)) n ≡ Some (I.Client k)
    → (place_from i (map (λ (c : s.Client). c.name.name) cs) n ≡ k) × (k < i + length cs)
unfolding meaning_definitions
client_from i [] n k e = absurd (cc)
client_from i (c ∷ cs) n k e =
    let next : i + 1 ≡ suc i = omega arith in
    let rest : ℕ → Option Item = λ (j : ℕ). first_named (numbered_from I.Client j (map (λ (c : s.Client). c.name) cs)) n in
    client_step (c.name.name == n) i k (place_from (suc i) (map (λ (c : s.Client). c.name.name) cs) n) (rest (i + 1)) (length cs) e
    (λ later. client_from (suc i) cs n k (ap rest (sym next) ∙ later))

named_client : (w : s.Workload) (n k : ℕ) → first_named (global_names w) n ≡ Some (I.Client k) → (place_of (client_names w) n ≡ k) × (k < length w.clients)
unfolding meaning_definitions definitions others client_names_of
named_client w n k e =
    elim (found_in (others w) (client_names_of w) n (I.Client k) e) [
      | inl other ↦ absurd (no_client w n k other)
      | inr at ↦ let there = client_from 0 w.clients n k at in (there.0, omega (arith, there.1))
    ]

-- ---- distinct names
-- the names of declarations behind others are judged after those
each_from-append : (rule : List Ident → Ident → List Fault) (before xs ys : List Ident) → each_from rule before (xs ++ ys) ≡ each_from rule before xs ++ each_from rule (before ++ xs) ys
unfolding meaning_definitions
each_from-append rule before [] ys = ap (λ (l : List Ident). each_from rule l ys) (sym (append-nil before))
each_from-append rule before (x ∷ xs) ys =
    ap (λ (l : List Fault). rule before x ++ l) (each_from-append rule (before ++ x ∷ []) xs ys)
    ∙ sym (append_assoc (rule before x) (each_from rule (before ++ x ∷ []) xs) (each_from rule ((before ++ x ∷ []) ++ xs) ys))
    ∙ ap (λ (l : List Ident). (rule before x ++ each_from rule (before ++ x ∷ []) xs) ++ each_from rule l ys) (append_assoc before (x ∷ []) xs)

-- a declared name stands among none before it
absent_before : (before : List Ident) (cs : List s.Client) (k : ℕ) (c : s.Client) → each_from duplicate before (map (λ (c : s.Client). c.name) cs) ≡ [] → slice_get cs k ≡ Some c
    → is_in c.name.name (map (λ (y : Ident). y.name) before) ≡ false
unfolding meaning_definitions
absent_before before [] k c none found = absurd (cc)
absent_before before (d ∷ cs) zero c none found =
    let same : d ≡ c = cc in
    subst (λ (c : s.Client). is_in c.name.name (map (λ (y : Ident). y.name) before) ≡ false) same
    (when_none (is_in d.name.name (map (λ (y : Ident). y.name) before)) _ (none_first (duplicate before d.name) (each_from duplicate (before ++ d.name ∷ []) (map (λ (c : s.Client). c.name) cs)) none))
absent_before before (d ∷ cs) (suc k) c none found =
    let later = absent_before (before ++ d.name ∷ []) cs k c (none_second (duplicate before d.name) (each_from duplicate (before ++ d.name ∷ []) (map (λ (c : s.Client). c.name) cs)) none) found in
    let cut = list_any-append (λ (m : ℕ). m == c.name.name) (map (λ (y : Ident). y.name) before) (d.name.name ∷ []) in
    let appended : map (λ (y : Ident). y.name) (before ++ d.name ∷ []) ≡ map (λ (y : Ident). y.name) before ++ d.name.name ∷ [] = map-append (λ (y : Ident). y.name) before (d.name ∷ []) in
    (or_parts (list_any (λ (m : ℕ). m == c.name.name) (map (λ (y : Ident). y.name) before)) (list_any (λ (m : ℕ). m == c.name.name) (d.name.name ∷ []))
    (sym cut ∙ ap (list_any (λ (m : ℕ). m == c.name.name)) (sym appended) ∙ later)).0

-- the last of the names before isn't the one that comes after
last_differs : (before : List Ident) (d : Ident) (n : ℕ) → is_in n (map (λ (y : Ident). y.name) (before ++ d ∷ [])) ≡ false → (d.name == n) ≡ false
unfolding meaning_definitions
last_differs before d n none =
    let cut = list_any-append (λ (m : ℕ). m == n) (map (λ (y : Ident). y.name) before) (d.name ∷ []) in
    let appended : map (λ (y : Ident). y.name) (before ++ d ∷ []) ≡ map (λ (y : Ident). y.name) before ++ d.name ∷ [] = map-append (λ (y : Ident). y.name) before (d ∷ []) in
    let last = (or_parts (list_any (λ (m : ℕ). m == n) (map (λ (y : Ident). y.name) before)) (list_any (λ (m : ℕ). m == n) (d.name ∷ []))
    (sym cut ∙ ap (list_any (λ (m : ℕ). m == n)) (sym appended) ∙ none)).1 in
    (or_parts (d.name == n) false last).0

-- each client is found at its own place, and as a client
placed_from : (i : ℕ) (before : List Ident) (cs : List s.Client) (k : ℕ) (c : s.Client) → each_from duplicate before (map (λ (c : s.Client). c.name) cs) ≡ [] → slice_get cs k ≡ Some c
    → (place_from i (map (λ (c : s.Client). c.name.name) cs) c.name.name ≡ i + k) × (first_named (numbered_from I.Client i (map (λ (c : s.Client). c.name) cs)) c.name.name ≡ Some (I.Client (i + k)))
unfolding meaning_definitions
placed_from i before [] k c none found = absurd (cc)
placed_from i before (d ∷ cs) zero c none found =
    let same : d ≡ c = cc in
    let here : (d.name.name == c.name.name) ≡ true = ap (λ (e : s.Client). d.name.name == e.name.name) (sym same) ∙ nat_itself d.name.name in
    let start : i ≡ i + 0 = omega arith in (
      ap (λ (b : Bool). cond b i (place_from (suc i) (map (λ (c : s.Client). c.name.name) cs) c.name.name)) here ∙ start,
      ap (λ (b : Bool). if b then Some (I.Client i) else first_named (numbered_from I.Client (i + 1) (map (λ (c : s.Client). c.name) cs)) c.name.name) here ∙ ap (λ (j : ℕ). Some (I.Client j)) start,
    )
placed_from i before (d ∷ cs) (suc k) c none found =
    let rest = none_second (duplicate before d.name) (each_from duplicate (before ++ d.name ∷ []) (map (λ (c : s.Client). c.name) cs)) none in
    let differs = last_differs before d.name c.name.name (absent_before (before ++ d.name ∷ []) cs k c rest found) in
    let later = placed_from (suc i) (before ++ d.name ∷ []) cs k c rest found in
    let step : i + 1 ≡ suc i = omega arith in
    let count : suc i + k ≡ i + suc k = omega arith in (
      ap (λ (b : Bool). cond b i (place_from (suc i) (map (λ (c : s.Client). c.name.name) cs) c.name.name)) differs ∙ later.0 ∙ count,
      ap (λ (b : Bool). if b then Some (I.Client i) else first_named (numbered_from I.Client (i + 1) (map (λ (c : s.Client). c.name) cs)) c.name.name) differs
          ∙ ap (λ (j : ℕ). first_named (numbered_from I.Client j (map (λ (c : s.Client). c.name) cs)) c.name.name) step ∙ later.1 ∙ ap (λ (j : ℕ). Some (I.Client j)) count,
    )

-- a name that stands among none of these isn't found among them
not_found : (ds es : List GlobalName) (n : ℕ) → is_in n (map (λ (y : Ident). y.name) (map (λ (d : GlobalName). d.name) ds)) ≡ false → first_named (ds ++ es) n ≡ first_named es n
unfolding meaning_definitions
not_found [] es n none = refl
not_found (d ∷ ds) es n none =
    let parts = or_parts (d.name.name == n) (list_any (λ (m : ℕ). m == n) (map (λ (y : Ident). y.name) (map (λ (d : GlobalName). d.name) ds))) none in
    ap (λ (b : Bool). if b then Some d.item else first_named (ds ++ es) n) parts.0 ∙ not_found ds es n parts.1

names_numbered : (kind : ℕ → Item) (i : ℕ) (xs : List Ident) → map (λ (d : GlobalName). d.name) (numbered_from kind i xs) ≡ xs
unfolding meaning_definitions
names_numbered kind i [] = refl
names_numbered kind i (x ∷ xs) = ap (λ (l : List Ident). x ∷ l) (names_numbered kind (i + 1) xs)

-- what each client's name names, and where it stands
client_known : (w : s.Workload) (k : ℕ) (c : s.Client) → each duplicate (map (λ (d : GlobalName). d.name) (global_names w)) ≡ [] → slice_get w.clients k ≡ Some c
    → (place_of (client_names w) c.name.name ≡ k) × (first_named (global_names w) c.name.name ≡ Some (I.Client k))
unfolding meaning_definitions definitions others client_names_of
client_known w k c none found =
    let before : List Ident = map (λ (d : GlobalName). d.name) (others w) in
    let names : List Ident = map (λ (c : s.Client). c.name) w.clients in
    let cut : map (λ (d : GlobalName). d.name) (others w ++ client_names_of w) ≡ before ++ names =
    map-append (λ (d : GlobalName). d.name) (others w) (client_names_of w) ∙ ap (λ (l : List Ident). before ++ l) (names_numbered I.Client 0 names) in
    let clients : each_from duplicate before names ≡ [] =
    none_second (each_from duplicate [] before) (each_from duplicate before names) (sym (each_from-append duplicate [] before names) ∙ ap (each_from duplicate []) (sym cut) ∙ none) in
    let at = placed_from 0 before w.clients k c clients found in
    let zero_more : 0 + k ≡ k = omega arith in
    (at.0 ∙ zero_more, not_found (others w) (client_names_of w) c.name.name (absent_before before w.clients k c clients found) ∙ at.1 ∙ ap (λ (j : ℕ). Some (I.Client j)) zero_more)

-- ---- the schedule
scheduled_is : (cs : List s.Client) (n : ℕ) (item : Option Item) (x : Ident) → scheduled cs n item x ≡ [] → (k : ℕ) × (item ≡ Some (I.Client k)) × ((n == call_count (slice_get cs k)) ≡ false)
unfolding meaning_definitions
scheduled_is cs n None x none = absurd (cc)
scheduled_is cs n (Some (I.Client k)) x none = (k, refl, when_none (n == call_count (slice_get cs k)) _ none)
scheduled_is cs n (Some (I.Object k)) x none = absurd (cc)
scheduled_is cs n (Some (I.Relation k)) x none = absurd (cc)
scheduled_is cs n (Some (I.Transaction k)) x none = absurd (cc)

-- the rule of a schedule at a place
order_rule : s.Workload → List Ident → Ident → List Fault
order_rule w before x = scheduled w.clients (times x.name before) ((scope_of w).item x.name) x

all_named : (w : s.Workload) (before xs : List Ident) → each_from (order_rule w) before xs ≡ [] → All (λ x. place_of (client_names w) x.name < length w.clients) xs
unfolding meaning_definitions order_rule
all_named w before [] none = All-nil (λ (x : Ident). place_of (client_names w) x.name < length w.clients)
all_named w before (x ∷ xs) none =
    let here = scheduled_is w.clients (times x.name before) (first_named (global_names w) x.name) x (none_first (order_rule w before x) (each_from (order_rule w) (before ++ x ∷ []) xs) none) in
    let at = named_client w x.name here.0 here.1 in
    All-cons (λ (x : Ident). place_of (client_names w) x.name < length w.clients) x xs (omega (arith, at.0, at.1))
    (all_named w (before ++ x ∷ []) xs (none_second (order_rule w before x) (each_from (order_rule w) (before ++ x ∷ []) xs) none))

raised : (b : Bool) (n count : ℕ) → n ≤ count → (b ≡ true → (n == count) ≡ false) → n + cond b 1 0 ≤ count
raised true n count most differs =
    let other : n ≡ count → ⊥ = eqb-false n count (differs refl) in
    omega (arith, most, other)
raised false n count most differs = omega (arith, most)

-- no client is named more often than it has calls
most_times : (w : s.Workload) (k : ℕ) (c : s.Client) (before xs : List Ident) → slice_get w.clients k ≡ Some c → first_named (global_names w) c.name.name ≡ Some (I.Client k)
    → each_from (order_rule w) before xs ≡ [] → times c.name.name before ≤ length c.calls → times c.name.name (before ++ xs) ≤ length c.calls
unfolding meaning_definitions order_rule
most_times w k c before [] found is none most = let same = ap (times c.name.name) (append-nil before) in omega (arith, same, most)
most_times w k c before (x ∷ xs) found is none most =
    let here = scheduled_is w.clients (times x.name before) (first_named (global_names w) x.name) x (none_first (order_rule w before x) (each_from (order_rule w) (before ++ x ∷ []) xs) none) in
    let differs : (x.name == c.name.name) ≡ true → (times c.name.name before == length c.calls) ≡ false = λ e.
    let same : x.name ≡ c.name.name = (Decides-eqb x.name c.name.name).0 e in
    let client : Some (I.Client here.0) ≡ Some (I.Client k) = sym here.1 ∙ ap (first_named (global_names w)) same ∙ is in
    let number : here.0 ≡ k = cc in
    let counted : call_count (slice_get w.clients here.0) ≡ length c.calls = ap (λ (j : ℕ). call_count (slice_get w.clients j)) number ∙ ap call_count found in
    ap (λ (m : ℕ). times m before == length c.calls) (sym same) ∙ ap (λ (m : ℕ). times x.name before == m) (sym counted) ∙ here.2 in
    let next : times c.name.name (before ++ x ∷ []) ≤ length c.calls =
    let more = raised (x.name == c.name.name) (times c.name.name before) (length c.calls) most differs in
    let snoc = times-snoc c.name.name before x in omega (arith, more, snoc) in
    let whole = most_times w k c (before ++ x ∷ []) xs found is (none_second (order_rule w before x) (each_from (order_rule w) (before ++ x ∷ []) xs) none) next in
    let appended = ap (times c.name.name) (append_assoc before (x ∷ []) xs) in
    omega (arith, whole, appended)

not_short : (cs : List s.Client) (xs : List Ident) (k : ℕ) (c : s.Client) → list_any (λ (c : s.Client). nat_lt (times c.name.name xs) (length c.calls)) cs ≡ false → slice_get cs k ≡ Some c → length c.calls ≤ times c.name.name xs
not_short [] xs k c none found = absurd (cc)
not_short (d ∷ cs) xs zero c none found =
    let same : d ≡ c = cc in
    let here = (or_parts (nat_lt (times d.name.name xs) (length d.calls)) (list_any (λ (c : s.Client). nat_lt (times c.name.name xs) (length c.calls)) cs) none).0 in
    let enough : length d.calls ≤ times d.name.name xs = not_less (times d.name.name xs) (length d.calls) here in
    subst (λ (c : s.Client). length c.calls ≤ times c.name.name xs) same enough
not_short (d ∷ cs) xs (suc k) c none found =
    not_short cs xs k c (or_parts (nat_lt (times d.name.name xs) (length d.calls)) (list_any (λ (c : s.Client). nat_lt (times c.name.name xs) (length c.calls)) cs) none).1 found

no_calls : (cs : List s.Client) (k : ℕ) (c : s.Client) → list_any (λ (c : s.Client). nat_lt 0 (length c.calls)) cs ≡ false → slice_get cs k ≡ Some c → 0 ≡ length c.calls
no_calls [] k c none found = absurd (cc)
no_calls (d ∷ cs) zero c none found =
    let same : d ≡ c = cc in
    let here = (or_parts (nat_lt 0 (length d.calls)) (list_any (λ (c : s.Client). nat_lt 0 (length c.calls)) cs) none).0 in
    let few = not_less 0 (length d.calls) here in
    let zero_calls : 0 ≡ length d.calls = omega (arith, few) in
    zero_calls ∙ ap (λ (c : s.Client). length c.calls) same
no_calls (d ∷ cs) (suc k) c none found = no_calls cs k c (or_parts (nat_lt 0 (length d.calls)) (list_any (λ (c : s.Client). nat_lt 0 (length c.calls)) cs) none).1 found

-- ---- the schedule runs every call
each_within : (P : Ident → Type 0) (xs : List Ident) → Each P xs → All P xs
unfolding syntax_definitions
each_within P [] all = All-nil P
each_within P (x ∷ xs) all = All-cons P x xs all.0 (each_within P xs all.1)

known_in : (P : Ident → Type 0) (schedule : Option (List Ident)) → InSchedule P schedule → All P (order_of schedule)
unfolding syntax_definitions
known_in P None all = All-nil P
known_in P (Some xs) all = each_within P xs all

named_in : (w : s.Workload) (schedule : Option (List Ident)) → schedule_faults Steps (scope_of w) w.clients w.end schedule ≡ [] → All (λ x. place_of (client_names w) x.name < length w.clients) (order_of schedule)
unfolding meaning_definitions order_rule
named_in w None none = All-nil (λ (x : Ident). place_of (client_names w) x.name < length w.clients)
named_in w (Some xs) none = all_named w [] xs (none_first (each_from (order_rule w) [] xs) (when (is_short w.clients xs) (end_fault w.end)) none)

whole_in : (w : s.Workload) (schedule : Option (List Ident)) (k : ℕ) (c : s.Client) → schedule_faults Steps (scope_of w) w.clients w.end schedule ≡ [] → slice_get w.clients k ≡ Some c
    → first_named (global_names w) c.name.name ≡ Some (I.Client k) → times c.name.name (order_of schedule) ≡ length c.calls
unfolding meaning_definitions order_rule
whole_in w None k c none found is = no_calls w.clients k c (when_none (list_any (λ (c : s.Client). nat_lt 0 (length c.calls)) w.clients) _ none) found
whole_in w (Some xs) k c none found is =
    let most = most_times w k c [] xs found is (none_first (each_from (order_rule w) [] xs) (when (is_short w.clients xs) (end_fault w.end)) none) (omega arith) in
    let least = not_short w.clients xs k c (when_none (is_short w.clients xs) _ (none_second (each_from (order_rule w) [] xs) (when (is_short w.clients xs) (end_fault w.end)) none)) found in
    omega (arith, most, least)

pub whole_order : (w : s.Workload) → IsWellFormed w → faults Steps w ≡ [] → IsWholeOrder w
whole_order w formed none =
    let all = parts Steps w none in
    record {
      named = named_in w w.schedule all.text.schedule;
      known = known_in (IsBelow (length w.names)) w.schedule formed.named.schedule;
      placed = λ k c found. (client_known w k c all.text.names found).0;
      whole = λ k c found. whole_in w w.schedule k c all.text.schedule found (client_known w k c all.text.names found).1;
      few = few_clients w all.text.limits;
    }
