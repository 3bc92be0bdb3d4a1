-- What the code finds of a whole workload, rule by rule.
use Rattle.std.proofs.Common.{◌≡◌, ℕ, zero, suc, ◌+◌, List, [], ◌∷◌, ◌++◌, map, replicate, length, Option, Some, None, refl, sym, ap, subst, ◌∙◌, arith, append_assoc}
use Rattle.std.specs.Prelude.{slice_get}
use Rattle.std.specs.List.{flat_map}
use Rattle.homeo_syntax.specs.Key.{definitions as syntax_definitions}
use Rattle.homeo_syntax.specs.Source as s
use Rattle.homeo_syntax.specs.SourceView.{plain_relation, plain_transaction, plain_client, plain_schedule, plain_workload}
use Rattle.homeo_syntax.specs.WellFormed.{Each, IsBelow, InSchedule, EachInCommands, IsWellFormed}
use Rattle.homeo_syntax.specs.declared.phrase.Ident.{Ident}
use Rattle.homeo_syntax.specs.declared.phrase.Number.{Number}
use Rattle.homeo_syntax.specs.declared.workload.ObjectDecl.{ObjectDecl}
use Rattle.homeo_syntax.specs.declared.workload.RangeDecl.{RangeDecl}
use Rattle.homeo_syntax.specs.declared.workload.RelationDecl.{RelationDecl}
use Rattle.homeo_syntax.specs.declared.workload.Transaction.{Transaction}
use Rattle.homeo_syntax.specs.declared.workload.Client.{Client}
use Rattle.homeo_syntax.specs.declared.workload.Workload.{Workload}
use Rattle.homeo_meaning.specs.Key.{definitions as meaning_definitions}
use Rattle.homeo_meaning.specs.Bindings.{Scope}
use Rattle.homeo_meaning.specs.TransactionRules.{each}
use Rattle.homeo_meaning.specs.CallPlaces.{places_among, call_places}
use Rattle.homeo_meaning.specs.GlobalNames.{GlobalName, numbered_from, global_names, duplicate, field_names, scope_of, sited_calls, sited_calls_of}
use Rattle.homeo_meaning.specs.NumberRules.{object_faults, site_weight_faults, site_count_faults, slot_faults, object_making, relation_making, makings, too_many_objects, passes_limit, limit_faults, distinct_after, ground_calls}
use Rattle.homeo_meaning.specs.CallRules.{client_faults, schedule_faults}
use Rattle.homeo_meaning.specs.SizeRules.{size_faults, print_faults, weight_faults, row_faults}
use Rattle.homeo_meaning.specs.Faults.{of_relation, of_transaction, declared_faults, text_faults, form_faults, faults}
use Rattle.homeo_meaning.proofs.FaultParts.{NoTextFault, text_parts}
use Rattle.homeo_rules.proofs.Phases.{text_early, sizes_in, later_in, both as both_lists, wider_below, wider_above, decides_first}
use Rattle.homeo_rules.specs.inner.Deciding.{keep_all}
use Rattle.homeo_meaning.specs.declared.call.Purpose.{Purpose}
use Rattle.homeo_meaning.specs.declared.rules.Fault.{Fault}
use Rattle.homeo_ground.specs.declared.sited.SitedCall.{SitedCall}
use Rattle.homeo_ground.specs.Sited.{sited}
use Rattle.homeo_rules.specs.inner.Sited.{sited_of}
use Rattle.homeo_meaning.specs.GlobalNames as g
use Rattle.homeo_meaning.specs.declared.rules.Item.{Item}
use Rattle.homeo_meaning.specs.declared.rules.Item.TheVariants as I
use Rattle.homeo_rules.specs.inner.Key.{definitions}
use Rattle.homeo_rules.specs.inner.Scopes.{item_at, scope_with}
use Rattle.homeo_rules.specs.inner.Tabled.{fields_at}
use Rattle.homeo_rules.specs.inner.Items.{Items, along_names}
use Rattle.homeo_rules.specs.inner.Listwise.{along_all}
use Rattle.homeo_rules.specs.inner.Within.{AreNamed}
use Rattle.homeo_rules.specs.inner.Callers.{client_faults_of, transaction_faults_of}
use Rattle.homeo_rules.specs.inner.Counting.{count_all, making_of}
use Rattle.homeo_rules.specs.inner.Relations.{relation_faults_of, slot_faults_of}
use Rattle.homeo_rules.specs.inner.Limited.{transaction_passing, client_passing, call_passing}
use Rattle.homeo_rules.specs.inner.Decided.{NamesGlobals, faults_with_names, IsFaultless}
use Rattle.homeo_rules.proofs.Steps.{keep_all-append}
use Rattle.homeo_rules.proofs.Listing.{all-along, all-mapped}
use Rattle.homeo_rules.proofs.Counts.{objects-counted}
use Rattle.homeo_rules.proofs.First.{along, along-append, along-numbered, Along, table_is, NamesWithin}
use Rattle.homeo_rules.proofs.Limiting.{passing, limit-is, transaction-plain, client-plain, call-plain, sited-plain}
use Rattle.homeo_rules.proofs.OneDecides.{none_left}

-- ---- global names
names-map : {A : Type 0} (n : ℕ) (name : A → Ident) (kind : ℕ → Item) (i : ℕ) (xs : List A) → Each (λ x. IsBelow n (name x)) xs → NamesWithin n (numbered_from kind i (map name xs))
unfolding meaning_definitions syntax_definitions
names-map n name kind i [] h = tt
names-map n name kind i (x ∷ xs) h = (h.0, names-map n name kind (i + 1) xs h.1)

both : (n : ℕ) (xs ys : List GlobalName) → NamesWithin n xs → NamesWithin n ys → NamesWithin n (xs ++ ys)
both n [] ys h k = k
both n (x ∷ xs) ys h k = (h.0, both n xs ys h.1 k)

firsts : {A : Type 0} (P Q : A → Type 0) (xs : List A) → Each (λ x. P x × Q x) xs → Each P xs
unfolding syntax_definitions
firsts P Q [] h = tt
firsts P Q (x ∷ xs) h = (h.0.0, firsts P Q xs h.1)

transaction-names : (n : ℕ) (ts : List s.Transaction) → Each (λ (t : s.Transaction). IsBelow n t.name × Each (λ (p : RangeDecl). IsBelow n p.name) t.params × EachInCommands (IsBelow n) t.body) ts → Each (λ (t : s.Transaction). IsBelow n t.name) ts
unfolding syntax_definitions
transaction-names n [] h = tt
transaction-names n (t ∷ ts) h = (h.0.0, transaction-names n ts h.1)

all-named : (w : s.Workload) → IsWellFormed w → NamesWithin (length w.names) (global_names w)
unfolding meaning_definitions syntax_definitions
all-named w f =
    let n : ℕ = length w.names in
    let o = names-map n (λ (d : ObjectDecl). d.name) I.Object 0 w.objects f.named.objects in
    let r = names-map n (λ (d : s.RelationDecl). d.name) I.Relation 0 w.relations (firsts _ _ w.relations f.named.relations) in
    let t = names-map n (λ (d : s.Transaction). d.name) I.Transaction 0 w.transactions (transaction-names n w.transactions f.named.transactions) in
    let c = names-map n (λ (d : s.Client). d.name) I.Client 0 w.clients (firsts _ _ w.clients f.named.clients) in
    both n _ _ (both n _ _ (both n _ _ o r) t) c

pub are-named : (n : ℕ) (ts : List Transaction) → Each (λ (t : s.Transaction). IsBelow n t.name × Each (λ (p : RangeDecl). IsBelow n p.name) t.params × EachInCommands (IsBelow n) t.body) (map plain_transaction ts) → AreNamed n ts
unfolding definitions syntax_definitions
are-named n [] h = tt
are-named n (t ∷ ts) h = ((h.0.1, h.0.2), are-named n ts h.1)

names-plain : {A B : Type 0} (view : A → B) (f : A → Ident) (g : B → Ident) → ((x : A) → g (view x) ≡ f x) → (xs : List A) → map f xs ≡ map g (map view xs)
names-plain view f g e [] = refl
names-plain view f g e (x ∷ xs) = λ i. sym (e x) i ∷ names-plain view f g e xs i

pub entered-all : (w : Workload) (n : ℕ) (t0 t1 t2 t3 t4 : Items) (os : List ObjectDecl) (rs : List RelationDecl) (ts : List Transaction) (cs : List Client) → IsWellFormed (plain_workload w) → n ≡ length w.names.items → t0 ≡ record { items = replicate n None; best = None } → os ≡ w.objects.items → rs ≡ w.relations.items → ts ≡ w.transactions.items → cs ≡ w.clients.items → t1 ≡ along_names (λ d. d.name) I.Object 0 t0 os → t2 ≡ along_names (λ d. d.name) I.Relation 0 t1 rs → t3 ≡ along_names (λ d. d.name) I.Transaction 0 t2 ts → t4 ≡ along_names (λ d. d.name) I.Client 0 t3 cs → NamesGlobals (plain_workload w) t4
unfolding definitions meaning_definitions syntax_definitions
entered-all w n t0 t1 t2 t3 t4 os rs ts cs formed en e0 eo er et ec e1 e2 e3 e4 =
    let p : s.Workload = plain_workload w in
    let start : Items = record { items = replicate (length w.names.items) None; best = None } in
    let o : List GlobalName = numbered_from I.Object 0 (map (λ d. d.name) p.objects) in
    let r : List GlobalName = numbered_from I.Relation 0 (map (λ d. d.name) p.relations) in
    let t : List GlobalName = numbered_from I.Transaction 0 (map (λ d. d.name) p.transactions) in
    let c : List GlobalName = numbered_from I.Client 0 (map (λ d. d.name) p.clients) in
    let s0 : t0 ≡ start = e0 ∙ ap (λ k. record { items = replicate k None; best = None }) en in
    let s1 : t1 ≡ along start o = e1 ∙ (λ i. along_names (λ d. d.name) I.Object 0 (s0 i) (eo i)) ∙ along-numbered (λ (d : ObjectDecl). d.name) I.Object 0 start w.objects.items in
    let s2 : t2 ≡ along (along start o) r =
    e2 ∙ (λ i. along_names (λ d. d.name) I.Relation 0 (s1 i) (er i)) ∙ along-numbered (λ (d : RelationDecl). d.name) I.Relation 0 (along start o) w.relations.items
    ∙ ap (λ l. along (along start o) (numbered_from I.Relation 0 l)) (names-plain plain_relation (λ d. d.name) (λ d. d.name) (λ x. refl) w.relations.items) in
    let s3 : t3 ≡ along (along (along start o) r) t =
    e3 ∙ (λ i. along_names (λ d. d.name) I.Transaction 0 (s2 i) (et i)) ∙ along-numbered (λ (d : Transaction). d.name) I.Transaction 0 (along (along start o) r) w.transactions.items
    ∙ ap (λ l. along (along (along start o) r) (numbered_from I.Transaction 0 l)) (names-plain plain_transaction (λ d. d.name) (λ d. d.name) (λ x. refl) w.transactions.items) in
    let s4 : t4 ≡ along (along (along (along start o) r) t) c =
    e4 ∙ (λ i. along_names (λ d. d.name) I.Client 0 (s3 i) (ec i)) ∙ along-numbered (λ (d : Client). d.name) I.Client 0 (along (along (along start o) r) t) w.clients.items
    ∙ ap (λ l. along (along (along (along start o) r) t) (numbered_from I.Client 0 l)) (names-plain plain_client (λ d. d.name) (λ d. d.name) (λ x. refl) w.clients.items) in
    let one_after_another : along (along (along (along start o) r) t) c ≡ along start (global_names p) =
    sym (along-append start ((o ++ r) ++ t) c ∙ ap (λ z. along z c) (along-append start (o ++ r) t ∙ ap (λ z. along z t) (along-append start o r))) in
    let whole : Along (length w.names.items) [] start (along start (global_names p)) (global_names p) = table_is (length w.names.items) None (global_names p) (all-named p formed) in
    let e : t4 ≡ along start (global_names p) = s4 ∙ one_after_another in
    record {
      items = ap (λ (u : Items). item_at u.items) e ∙ (λ i m. whole.agree m i);
      kept = ap (λ (u : Items). u.best) e ∙ whole.best;
    }

-- ---- what is declared and called
abbrev declared_without : s.Workload → List Fault
unfolding meaning_definitions
declared_without p =
    flat_map object_faults p.objects ++ flat_map of_relation p.relations ++ flat_map (of_transaction (scope_of p)) p.transactions
    ++ flat_map (client_faults p.sites (scope_of p) p.transactions) p.clients

without-along : (w : Workload) (sc : Scope) (best : Option Fault) (os : List ObjectDecl) (qs : List RelationDecl) (ts us : List Transaction) (cs : List Client) → sc ≡ scope_of (plain_workload w) → os ≡ w.objects.items → qs ≡ w.relations.items → ts ≡ w.transactions.items → us ≡ w.transactions.items → cs ≡ w.clients.items → along_all (client_faults_of w.sites sc us) (along_all (transaction_faults_of sc) (along_all relation_faults_of (along_all object_faults best os) qs) ts) cs ≡ keep_all best (declared_without (plain_workload w))
unfolding definitions meaning_definitions syntax_definitions
without-along w sc best os qs ts us cs es eo eq et eu ec =
    let p : s.Workload = plain_workload w in
    let a : List Fault = flat_map object_faults w.objects.items in
    let b : List Fault = flat_map of_relation p.relations in
    let c : List Fault = flat_map (of_transaction (scope_of p)) p.transactions in
    let d : List Fault = flat_map (client_faults w.sites (scope_of p) p.transactions) p.clients in
    (λ i. along_all (client_faults_of w.sites (es i) (eu i)) (along_all (transaction_faults_of (es i)) (along_all relation_faults_of (along_all object_faults best (eo i)) (eq i)) (et i)) (ec i))
    ∙ sym (
    keep_all-append best (a ++ b ++ c) d
    ∙ all-mapped plain_client (client_faults w.sites (scope_of p) p.transactions) (keep_all best (a ++ b ++ c)) w.clients.items
    ∙ ap (λ o. along_all (client_faults_of w.sites (scope_of p) w.transactions.items) o w.clients.items) (
    keep_all-append best (a ++ b) c
    ∙ all-mapped plain_transaction (of_transaction (scope_of p)) (keep_all best (a ++ b)) w.transactions.items
    ∙ ap (λ o. along_all (transaction_faults_of (scope_of p)) o w.transactions.items) (
    keep_all-append best a b
    ∙ all-mapped plain_relation of_relation (keep_all best a) w.relations.items
    ∙ ap (λ o. along_all relation_faults_of o w.relations.items) (all-along object_faults best w.objects.items))))

pub declared-along : (w : Workload) (sc : Scope) (best : Option Fault) (os : List ObjectDecl) (qs : List RelationDecl) (ts us : List Transaction) (cs : List Client) (ns : List Number) → sc ≡ scope_of (plain_workload w) → os ≡ w.objects.items → qs ≡ w.relations.items → ts ≡ w.transactions.items → us ≡ w.transactions.items → cs ≡ w.clients.items → ns ≡ w.weights.items
    → keep_all (along_all (client_faults_of w.sites sc us) (along_all (transaction_faults_of sc) (along_all relation_faults_of (along_all object_faults best os) qs) ts) cs) (site_weight_faults w.sites ns) ≡ keep_all best (declared_faults (plain_workload w))
unfolding definitions meaning_definitions syntax_definitions
declared-along w sc best os qs ts us cs ns es eo eq et eu ec en =
    (λ i. keep_all (without-along w sc best os qs ts us cs es eo eq et eu ec i) (site_weight_faults w.sites (en i)))
    ∙ sym (keep_all-append best (declared_without (plain_workload w)) (site_weight_faults w.sites w.weights.items))

-- ---- limits
makings-plain : (qs : List RelationDecl) → map making_of qs ≡ map relation_making (map plain_relation qs)
unfolding definitions
makings-plain [] = refl
makings-plain (q ∷ qs) = ap (λ l. making_of q ∷ l) (makings-plain qs)

pub limits-along : (w : Workload) (best : Option Fault) (qs rs : List RelationDecl) (os : List ObjectDecl) (ts : List Transaction) (cs : List Client) (calls grounds : List SitedCall) → qs ≡ w.relations.items → os ≡ w.objects.items → rs ≡ w.relations.items → ts ≡ w.transactions.items → cs ≡ w.clients.items → map sited calls ≡ sited_calls (plain_workload w) → map sited grounds ≡ ground_calls (plain_workload w)
    → keep_all (keep_all (keep_all (keep_all (count_all making_of (count_all object_making (record { count = 0; best = along_all slot_faults_of (keep_all best (site_count_faults w.sites)) qs }) os) rs).best (transaction_passing (slice_get ts 256))) (client_passing (slice_get cs 64))) (call_passing (slice_get calls 20000))) (call_passing (slice_get grounds 1024)) ≡ keep_all best (limit_faults (plain_workload w))
unfolding definitions meaning_definitions syntax_definitions
limits-along w best qs rs os ts cs calls grounds eq eo er et ec el ek =
    let p : s.Workload = plain_workload w in
    let a : List Fault = site_count_faults w.sites in
    let b : List Fault = flat_map slot_faults p.relations in
    let c : List Fault = each too_many_objects (makings p) in
    let d : List Fault = each (passes_limit 256 (λ (t : s.Transaction). t.name)) p.transactions in
    let f : List Fault = each (passes_limit 64 (λ (c : s.Client). c.name)) p.clients in
    let l : List Fault = each (passes_limit 20000 (λ (c : g.SitedCall). c.name)) (sited_calls p) in
    let h : List Fault = each (passes_limit 1024 (λ (c : g.SitedCall). c.name)) (distinct_after [] (sited_calls p)) in
    let slots : along_all slot_faults_of (keep_all best a) qs ≡ keep_all best (a ++ b) =
    ap (along_all slot_faults_of (keep_all best a)) eq ∙ sym (keep_all-append best a b ∙ all-mapped plain_relation slot_faults (keep_all best a) w.relations.items) in
    let objects : (count_all making_of (count_all object_making (record { count = 0; best = along_all slot_faults_of (keep_all best a) qs }) os) rs).best ≡ keep_all best (a ++ b ++ c) =
    (λ i. (count_all making_of (count_all object_making (record { count = 0; best = slots i }) (eo i)) (er i)).best)
    ∙ objects-counted (keep_all best (a ++ b)) w.objects.items w.relations.items
    ∙ ap (λ l. keep_all (keep_all best (a ++ b)) (each too_many_objects (map object_making w.objects.items ++ l))) (makings-plain w.relations.items)
    ∙ sym (keep_all-append best (a ++ b) c) in
    let ed : transaction_passing (slice_get ts 256) ≡ d = ap (λ l. transaction_passing (slice_get l 256)) et ∙ sym (limit-is 256 (λ (t : s.Transaction). t.name) p.transactions ∙ transaction-plain w.transactions.items 256) in
    let ef : client_passing (slice_get cs 64) ≡ f = ap (λ l. client_passing (slice_get l 64)) ec ∙ sym (limit-is 64 (λ (c : s.Client). c.name) p.clients ∙ client-plain w.clients.items 64) in
    let eg : call_passing (slice_get calls 20000) ≡ l =
    sym (
    limit-is 20000 (λ (c : g.SitedCall). c.name) (sited_calls p)
    ∙ ap (λ us. passing (λ (c : g.SitedCall). c.name) (slice_get us 20000)) (sym el)
    ∙ call-plain calls 20000) in
    let eh : call_passing (slice_get grounds 1024) ≡ h =
    sym (
    limit-is 1024 (λ (c : g.SitedCall). c.name) (ground_calls p)
    ∙ ap (λ us. passing (λ (c : g.SitedCall). c.name) (slice_get us 1024)) (sym ek)
    ∙ call-plain grounds 1024) in
    (λ i. keep_all (keep_all (keep_all (keep_all (objects i) (ed i)) (ef i)) (eg i)) (eh i))
    ∙ sym (
    keep_all-append best (a ++ b ++ c ++ d ++ f ++ l) h
    ∙ ap (λ o. keep_all o h) (
    keep_all-append best (a ++ b ++ c ++ d ++ f) l
    ∙ ap (λ o. keep_all o l) (
    keep_all-append best (a ++ b ++ c ++ d) f
    ∙ ap (λ o. keep_all o f) (keep_all-append best (a ++ b ++ c) d))))

-- ---- the scope
fields-plain : (qs : List RelationDecl) (k : ℕ) → fields_at qs k ≡ field_names (slice_get (map plain_relation qs) k)
unfolding meaning_definitions syntax_definitions
fields-plain [] k = refl
fields-plain (q ∷ qs) zero = refl
fields-plain (q ∷ qs) (suc k) = fields-plain qs k

pub scope-is : (w : Workload) (t : Items) (items : List (Option Item)) (qs : List RelationDecl) → NamesGlobals (plain_workload w) t → items ≡ t.items → qs ≡ w.relations.items → scope_with items qs ≡ scope_of (plain_workload w)
unfolding meaning_definitions syntax_definitions
scope-is w t items qs globals ei eq =
    (λ i. scope_with (ei i) (eq i)) ∙ (λ i. record { item = globals.items i; fields = λ k. fields-plain w.relations.items k i })

-- ---- calls
-- the distinct calls of the clients are the ground calls
pub grounds-are : (w : Workload) (grounds : List SitedCall) (cs : List Client)
    → map sited grounds ≡ distinct_after [] (flat_map sited_calls_of (map plain_client cs)) → cs ≡ w.clients.items → map sited grounds ≡ ground_calls (plain_workload w)
unfolding meaning_definitions syntax_definitions
grounds-are w grounds cs e ec = e ∙ ap (λ l. distinct_after [] (flat_map sited_calls_of (map plain_client l))) ec

-- the places of the clients' calls among them are those of the calls
pub places-are : (w : Workload) (places : List (List ℕ)) (grounds : List SitedCall) (cs : List Client)
    → map sited grounds ≡ distinct_after [] (flat_map sited_calls_of (map plain_client cs)) → places ≡ places_among (map sited grounds) (map plain_client cs) → cs ≡ w.clients.items → places ≡ call_places (plain_workload w)
unfolding meaning_definitions syntax_definitions
places-are w places grounds cs e p ec =
    p ∙ ap (λ l. places_among l (map plain_client cs)) (grounds-are w grounds cs e ec)
    ∙ ap (λ l. places_among (ground_calls (plain_workload w)) (map plain_client l)) ec

-- ---- the names of what is read
pub order-named : (w : Workload) (n : ℕ) → IsWellFormed (plain_workload w) → n ≡ length w.names.items → InSchedule (IsBelow n) (plain_schedule w.schedule)
unfolding syntax_definitions
order-named w n formed e = subst (λ k. InSchedule (IsBelow k) (plain_schedule w.schedule)) (sym e) formed.named.schedule

pub transactions-named : (w : Workload) (n : ℕ) (ts : List Transaction) → IsWellFormed (plain_workload w) → n ≡ length w.names.items → ts ≡ w.transactions.items → AreNamed n ts
unfolding syntax_definitions
transactions-named w n ts formed en et =
    subst (λ l. AreNamed n l) (sym et) (subst (λ k. AreNamed k w.transactions.items) (sym en) (are-named (length w.names.items) w.transactions.items formed.named.transactions))

pub schedule-along : (w : Workload) (purpose : Purpose) (sc : Scope) (best : Option Fault) (cs : List Client) → sc ≡ scope_of (plain_workload w) → cs ≡ w.clients.items → keep_all best (schedule_faults purpose sc (map plain_client cs) w.end (plain_schedule w.schedule)) ≡ keep_all best (schedule_faults purpose (scope_of (plain_workload w)) (plain_workload w).clients (plain_workload w).end (plain_workload w).schedule)
unfolding syntax_definitions
schedule-along w purpose sc best cs es ec = λ i. keep_all best (schedule_faults purpose (es i) (map plain_client (ec i)) w.end (plain_schedule w.schedule))

pub calls-are : (w : Workload) (calls : List SitedCall) (cs : List Client) → map sited calls ≡ sited_of cs → cs ≡ w.clients.items → map sited calls ≡ sited_calls (plain_workload w)
unfolding meaning_definitions syntax_definitions
calls-are w calls cs e ec = e ∙ ap sited_of ec ∙ sited-plain w.clients.items

pub with-names : (purpose : Purpose) (w : s.Workload) (best : Option Fault) → keep_all (keep_all (keep_all best (declared_faults w)) (limit_faults w)) (schedule_faults purpose (scope_of w) w.clients w.end w.schedule) ≡ keep_all best (faults_with_names purpose w)
unfolding definitions
with-names purpose w best =
    let a = declared_faults w in
    let b = limit_faults w in
    let c = schedule_faults purpose (scope_of w) w.clients w.end w.schedule in
    sym (keep_all-append best (a ++ b) c ∙ ap (λ o. keep_all o c) (keep_all-append best a b))

pub of-text : (purpose : Purpose) (w : s.Workload) → keep_all (keep_all None (each duplicate (map (λ d. d.name) (global_names w)))) (faults_with_names purpose w) ≡ keep_all None (text_faults purpose w)
unfolding definitions meaning_definitions
of-text purpose w =
    let n = each duplicate (map (λ (d : GlobalName). d.name) (global_names w)) in
    let a = declared_faults w in
    let b = limit_faults w in
    let c = schedule_faults purpose (scope_of w) w.clients w.end w.schedule in
    sym (with-names purpose w (keep_all None n))
    ∙ sym (
    keep_all-append None (n ++ a ++ b) c
    ∙ ap (λ o. keep_all o c) (
    keep_all-append None (n ++ a) b
    ∙ ap (λ o. keep_all o b) (keep_all-append None n a)))

-- a fault of the text decides
pub text-decides : (purpose : Purpose) (w : s.Workload) (f : Fault) → keep_all None (text_faults purpose w) ≡ Some f → Some f ≡ keep_all None (faults purpose w)
unfolding meaning_definitions
text-decides purpose w f e =
    let late = both_lists 7 10 (size_faults w ++ print_faults w) (weight_faults w ++ row_faults purpose w) (wider_below 7 8 10 (size_faults w ++ print_faults w) (omega arith) (sizes_in w)) (wider_above 7 8 10 (weight_faults w ++ row_faults purpose w) (omega arith) (later_in purpose w)) in
    sym (
    keep_all-append None (text_faults purpose w) (form_faults purpose w)
    ∙ ap (keep_all (keep_all None (text_faults purpose w))) (append_assoc (size_faults w ++ print_faults w) (weight_faults w) (row_faults purpose w))
    ∙ decides_first 0 7 10 (text_faults purpose w) ((size_faults w ++ print_faults w) ++ (weight_faults w ++ row_faults purpose w)) f (text_early purpose w) late e)

-- without one, those of the L forms do
pub forms-decide : (purpose : Purpose) (w : s.Workload) → keep_all None (text_faults purpose w) ≡ None → keep_all None (form_faults purpose w) ≡ keep_all None (faults purpose w)
unfolding meaning_definitions
forms-decide purpose w e = sym (keep_all-append None (text_faults purpose w) (form_faults purpose w) ∙ ap (λ o. keep_all o (form_faults purpose w)) e)

pub faultless : (purpose : Purpose) (w : s.Workload) → keep_all None (text_faults purpose w) ≡ None → IsFaultless w
faultless purpose w e =
    let p : NoTextFault purpose w = text_parts purpose w (none_left (text_faults purpose w) e) in
    record { declared = p.declared; limits = p.limits }

pub text-found : (purpose : Purpose) (w : s.Workload) (one two : Option Fault) → one ≡ keep_all None (each duplicate (map (λ d. d.name) (global_names w))) → two ≡ keep_all one (faults_with_names purpose w) → two ≡ keep_all None (text_faults purpose w)
text-found purpose w one two h e = e ∙ ap (λ o. keep_all o (faults_with_names purpose w)) h ∙ of-text purpose w
