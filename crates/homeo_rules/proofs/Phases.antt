-- The faults of the text come in earlier phases than those of the L forms, so that one of the text's decides where there is one.
use Rattle.std.proofs.Common.{◌≡◌, ℕ, ◌+◌, ◌<◌, ◌≤◌, pos, neg_ℤ, Bool, true, false, cond, ◌&&◌, ◌||◌, ◌==◌, List, [], ◌∷◌, ◌++◌, map, Option, Some, None, length, refl, ap, subst, ◌∙◌, arith}
use Rattle.std.specs.Prelude.{nat_le, nat_lt, slice_get, int_lt, int_le, is_some, not}
use Rattle.std.specs.List.{flat_map, sum_by, list_all}
use Rattle.std.specs.Ordering.{int_eq}
use Rattle.std.proofs.lemmas.Bool.Decides.{nat_tests}
use Rattle.homeo_syntax.specs.Source as s
use Rattle.homeo_syntax.specs.declared.phrase.Ident.{Ident}
use Rattle.homeo_syntax.specs.declared.phrase.Number.{Number}
use Rattle.homeo_syntax.specs.declared.workload.RangeDecl.{RangeDecl}
use Rattle.homeo_syntax.specs.declared.workload.ObjectDecl.{ObjectDecl}
use Rattle.homeo_meaning.specs.Key.{definitions}
use Rattle.homeo_meaning.specs.Bindings.{Scope, binding}
use Rattle.homeo_meaning.specs.Occurrences.{Mark, Occurrence, DeclaresRow, TakesObject, TakesRelation, TakesValue, TakesField, NamesField, FillsFields, Assigns, in_commands}
use Rattle.homeo_meaning.specs.NameRules.{when, fault, number_fault, declares_row, takes_object, takes_relation, takes_value, field_of, takes_field, fills_all, fills_fields, assigns, judge_mark, judge}
use Rattle.homeo_meaning.specs.TransactionRules.{is_in, each_from, each, local_of, temporaries, body_faults, parameter_fault, transaction_faults}
use Rattle.homeo_meaning.specs.GlobalNames.{SitedCall, global_names, duplicate, scope_of, sited_calls}
use Rattle.homeo_meaning.specs.NumberRules.{largest_weight, too_heavy, is_weightless, weight_list_faults, site_weight_faults, largest_bound, too_large, crossed, range_faults, outside, object_faults, range_bounds, argument_outside, arguments_outside, site_faults, site_count_faults, slot_faults, makings, made, too_many_objects, passes_limit, ground_calls, limit_faults}
use Rattle.homeo_meaning.specs.CallRules.{times, call_count, params_of, call_faults, client_faults, scheduled, order_faults, is_short, end_fault, needs_order, has_calls, schedule_faults}
use Rattle.homeo_meaning.specs.SizeRules.{too_large as too_large_call, size_faults, prints_too_much, print_faults, heavy_call, weight_faults, too_many_rows, row_faults, makes_tables}
use Rattle.homeo_meaning.specs.CallForm.{call_form}
use Rattle.homeo_meaning.specs.SizeRules.{extent_of, heaviest, table_size}
use Rattle.homeo_meaning.specs.LowSizes.{Extent, rows, prints_in}
use Rattle.homeo_meaning.specs.LowWeights.{first_weights, is_light}
use Rattle.homeo_meaning.specs.Schema.{schema_of}
use Rattle.homeo_meaning.specs.Faults.{of_relation, of_transaction, declared_faults, text_faults, rank, comes_before}
use Rattle.homeo_rules.specs.inner.Deciding.{keep, keep_all}
use Rattle.homeo_meaning.specs.declared.call.Purpose.{Purpose}
use Rattle.homeo_meaning.specs.declared.rules.Fault.{Fault}
use Rattle.homeo_meaning.specs.declared.rules.Local.{Local}
use Rattle.homeo_meaning.specs.declared.rules.Item.{Item}
use Rattle.homeo_meaning.specs.declared.rules.Item.TheVariants as I
use Rattle.homeo_meaning.specs.declared.rules.Binding.{Binding}
use Rattle.homeo_meaning.specs.declared.rules.Binding.TheVariants as B
use Rattle.homeo_meaning.specs.declared.rules.Phase.TheVariants as F

-- each fault is of a phase from m on and before n
abbrev pub Between : ℕ → ℕ → List Fault → Type 0
unfolding definitions
Between m n [] = Unit {0}
Between m n (f ∷ fs) = (m ≤ rank f.phase) × (rank f.phase < n) × Between m n fs

module _ (m n : ℕ) where
  pub both : (fs gs : List Fault) → Between m n fs → Between m n gs → Between m n (fs ++ gs)
  unfolding definitions
  both [] gs h k = k
  both (f ∷ fs) gs h k = (h.0, h.1, both fs gs h.2 k)

  pub if_so : (b : Bool) (fs : List Fault) → Between m n fs → Between m n (when b fs)
  unfolding definitions
  if_so true fs h = h
  if_so false fs h = tt

  pub all_of : {A : Type 0} (rule : A → List Fault) → ((x : A) → Between m n (rule x)) → (xs : List A) → Between m n (flat_map rule xs)
  unfolding definitions
  all_of rule h [] = tt
  all_of rule h (x ∷ xs) = both (rule x) (flat_map rule xs) (h x) (all_of rule h xs)

  pub each_of : {A : Type 0} (rule : List A → A → List Fault) → ((before : List A) (x : A) → Between m n (rule before x)) → (before xs : List A) → Between m n (each_from rule before xs)
  unfolding definitions
  each_of rule h before [] = tt
  each_of rule h before (x ∷ xs) = both (rule before x) (each_from rule (before ++ x ∷ []) xs) (h before x) (each_of rule h (before ++ x ∷ []) xs)

pub wider_below : (m n p : ℕ) (fs : List Fault) → n ≤ p → Between m n fs → Between m p fs
unfolding definitions
wider_below m n p [] le h = tt
wider_below m n p (f ∷ fs) le h = (h.0, omega (arith, h.1), wider_below m n p fs le h.2)

pub wider_above : (l m n : ℕ) (fs : List Fault) → l ≤ m → Between m n fs → Between l n fs
unfolding definitions
wider_above l m n [] le h = tt
wider_above l m n (f ∷ fs) le h = (omega (arith, h.0), h.1, wider_above l m n fs le h.2)

-- ---- the text's
abbrev Early : List Fault → Type 0
Early fs = Between 0 7 fs

takes_object_early : (x : Ident) (b : Binding) → Early (takes_object x b)
unfolding definitions
takes_object_early x B.Unbound = (omega arith, omega arith, tt)
takes_object_early x (B.Item (I.Object k)) = tt
takes_object_early x (B.Item (I.Relation k)) = (omega arith, omega arith, tt)
takes_object_early x (B.Item (I.Transaction k)) = (omega arith, omega arith, tt)
takes_object_early x (B.Item (I.Client k)) = (omega arith, omega arith, tt)
takes_object_early x B.Parameter = (omega arith, omega arith, tt)
takes_object_early x (B.Row q) = (omega arith, omega arith, tt)
takes_object_early x B.Temporary = (omega arith, omega arith, tt)

takes_value_early : (x : Ident) (b : Binding) → Early (takes_value x b)
unfolding definitions
takes_value_early x B.Unbound = (omega arith, omega arith, tt)
takes_value_early x (B.Item g) = (omega arith, omega arith, tt)
takes_value_early x B.Parameter = tt
takes_value_early x (B.Row q) = (omega arith, omega arith, tt)
takes_value_early x B.Temporary = tt

assigns_early : (x : Ident) (b : Binding) → Early (assigns x b)
unfolding definitions
assigns_early x B.Unbound = tt
assigns_early x (B.Item g) = (omega arith, omega arith, tt)
assigns_early x B.Parameter = (omega arith, omega arith, tt)
assigns_early x (B.Row q) = (omega arith, omega arith, tt)
assigns_early x B.Temporary = tt

declares_row_early : (x : Ident) (b : Binding) → Early (declares_row x b)
unfolding definitions
declares_row_early x B.Unbound = tt
declares_row_early x (B.Item g) = (omega arith, omega arith, tt)
declares_row_early x B.Parameter = (omega arith, omega arith, tt)
declares_row_early x (B.Row q) = (omega arith, omega arith, tt)
declares_row_early x B.Temporary = (omega arith, omega arith, tt)

takes_relation_early : (x : Ident) (b : Binding) → Early (takes_relation x b)
unfolding definitions
takes_relation_early x B.Unbound = (omega arith, omega arith, tt)
takes_relation_early x (B.Item (I.Object k)) = (omega arith, omega arith, tt)
takes_relation_early x (B.Item (I.Relation k)) = tt
takes_relation_early x (B.Item (I.Transaction k)) = (omega arith, omega arith, tt)
takes_relation_early x (B.Item (I.Client k)) = (omega arith, omega arith, tt)
takes_relation_early x B.Parameter = (omega arith, omega arith, tt)
takes_relation_early x (B.Row q) = (omega arith, omega arith, tt)
takes_relation_early x B.Temporary = (omega arith, omega arith, tt)

field_early : (sc : Scope) (g : Option Item) (f : Ident) → Early (field_of sc g f)
unfolding definitions
field_early sc None f = tt
field_early sc (Some (I.Object k)) f = tt
field_early sc (Some (I.Relation k)) f = if_so 0 7 (not (is_in f.name (sc.fields k))) (fault F.Unknown f) (omega arith, omega arith, tt)
field_early sc (Some (I.Transaction k)) f = tt
field_early sc (Some (I.Client k)) f = tt

takes_field_early : (sc : Scope) (r f : Ident) (b : Binding) → Early (takes_field sc r f b)
unfolding definitions
takes_field_early sc r f B.Unbound = (omega arith, omega arith, tt)
takes_field_early sc r f (B.Item g) = (omega arith, omega arith, tt)
takes_field_early sc r f B.Parameter = (omega arith, omega arith, tt)
takes_field_early sc r f (B.Row q) = field_early sc (sc.item q) f
takes_field_early sc r f B.Temporary = (omega arith, omega arith, tt)

fills_all_early : (sc : Scope) (g : Option Item) (q : Ident) (n : ℕ) → Early (fills_all sc g q n)
unfolding definitions
fills_all_early sc None q n = tt
fills_all_early sc (Some (I.Object k)) q n = tt
fills_all_early sc (Some (I.Relation k)) q n = if_so 0 7 (not (n == length (sc.fields k))) (fault F.Arity q) (omega arith, omega arith, tt)
fills_all_early sc (Some (I.Transaction k)) q n = tt
fills_all_early sc (Some (I.Client k)) q n = tt

duplicates_early : (xs : List Ident) → Early (each duplicate xs)
unfolding definitions
duplicates_early xs = each_of 0 7 duplicate (λ before x. if_so 0 7 (is_in x.name (map (λ (y : Ident). y.name) before)) (fault F.Duplicate x) (omega arith, omega arith, tt)) [] xs

fills_fields_early : (sc : Scope) (g : Option Item) (q : Ident) (fs : List Ident) → Early (fills_fields sc g q fs)
unfolding definitions
fills_fields_early sc g q fs =
    both 0 7 (each duplicate fs ++ flat_map (field_of sc g) fs) (fills_all sc g q (length fs)) (both 0 7 (each duplicate fs) (flat_map (field_of sc g) fs) (duplicates_early fs) (all_of 0 7 (field_of sc g) (field_early sc g) fs)) (fills_all_early sc g q (length fs))

mark_early : (sc : Scope) (b : ℕ → Binding) (k : Mark) → Early (judge_mark sc b k)
mark_early sc b (DeclaresRow x) = declares_row_early x (b x.name)
mark_early sc b (TakesObject x) = takes_object_early x (b x.name)
mark_early sc b (TakesRelation x) = takes_relation_early x (b x.name)
mark_early sc b (TakesValue x) = takes_value_early x (b x.name)
mark_early sc b (TakesField r f) = takes_field_early sc r f (b r.name)
mark_early sc b (NamesField q f) = field_early sc (sc.item q.name) f
mark_early sc b (FillsFields q fs) = fills_fields_early sc (sc.item q.name) q fs
mark_early sc b (Assigns t) = assigns_early t (b t.name)

judge_early : (sc : Scope) (local : ℕ → Local) (p : Occurrence) → Early (judge sc local p)
unfolding definitions
judge_early sc local p = mark_early sc (binding sc local p.rows) p.mark

bounds_early : (x : Number) → Early (number_fault F.Bounds x)
unfolding definitions
bounds_early x = (omega arith, omega arith, tt)

size_early : (x : Number) → Early (too_large x)
unfolding definitions
size_early x = if_so 0 7 (int_lt x.value (neg_ℤ largest_bound) || int_lt largest_bound x.value) (number_fault F.Bounds x) (bounds_early x)

range_early : (lo hi : Number) → Early (range_faults lo hi)
unfolding definitions
range_early lo hi =
    both 0 7 (too_large lo ++ too_large hi) (crossed lo hi) (both 0 7 (too_large lo) (too_large hi) (size_early lo) (size_early hi)) (if_so 0 7 (int_lt hi.value lo.value) (number_fault F.Bounds lo) (bounds_early lo))

outside_early : (lo hi x : Number) → Early (outside lo hi x)
unfolding definitions
outside_early lo hi x = if_so 0 7 (int_lt x.value lo.value || int_lt hi.value x.value) (number_fault F.Bounds x) (bounds_early x)

object_early : (d : ObjectDecl) → Early (object_faults d)
unfolding definitions
object_early d = both 0 7 (range_faults d.lo d.hi) (outside d.lo d.hi d.start) (range_early d.lo d.hi) (outside_early d.lo d.hi d.start)

transaction_early : (sc : Scope) (t : s.Transaction) → Early (of_transaction sc t)
unfolding definitions
transaction_early sc t =
    let params : List Ident = map (λ (d : RangeDecl). d.name) t.params in
    let names : List ℕ = map (λ (x : Ident). x.name) params in
    both 0 7 (flat_map range_bounds t.params) (transaction_faults sc t) (all_of 0 7 range_bounds (λ d. range_early d.lo d.hi) t.params) (both 0 7 (each (parameter_fault sc) params) (body_faults sc names (in_commands [] t.body)) (each_of 0 7 (parameter_fault sc) (λ before x. if_so 0 7 (is_some (sc.item x.name) || is_in x.name (map (λ (y : Ident). y.name) before)) (fault F.Duplicate x) (omega arith, omega arith, tt)) [] params) (each_of 0 7 (λ before p. judge sc (local_of names (temporaries sc names before)) p) (λ before p. judge_early sc (local_of names (temporaries sc names before)) p) [] (in_commands [] t.body)))

argument_early : (d : RangeDecl) (o : Option Number) → Early (argument_outside d o)
unfolding definitions
argument_early d None = tt
argument_early d (Some a) = outside_early d.lo d.hi a

arguments_early : (i : ℕ) (ds : List RangeDecl) (args : List Number) → Early (arguments_outside i ds args)
unfolding definitions
arguments_early i [] args = tt
arguments_early i (d ∷ ds) args =
    both 0 7 (argument_outside d (slice_get args i)) (arguments_outside (i + 1) ds args) (argument_early d (slice_get args i)) (arguments_early (i + 1) ds args)

call_early : (ts : List s.Transaction) (g : Option Item) (c : s.Call) → Early (call_faults ts g c)
unfolding definitions
call_early ts None c = (omega arith, omega arith, tt)
call_early ts (Some (I.Transaction k)) c =
    let params : List RangeDecl = params_of (slice_get ts k) in
    both 0 7 (when (not (length c.args == length params)) (fault F.Arity c.name)) (arguments_outside 0 params c.args) (if_so 0 7 (not (length c.args == length params)) (fault F.Arity c.name) (omega arith, omega arith, tt)) (arguments_early 0 params c.args)
call_early ts (Some (I.Object k)) c = (omega arith, omega arith, tt)
call_early ts (Some (I.Relation k)) c = (omega arith, omega arith, tt)
call_early ts (Some (I.Client k)) c = (omega arith, omega arith, tt)

client_early : (sites : Number) (sc : Scope) (ts : List s.Transaction) (c : s.Client) → Early (client_faults sites sc ts c)
unfolding definitions
client_early sites sc ts c =
    let rule : s.Call → List Fault = λ call. call_faults ts (sc.item call.name.name) call in
    both 0 7 (flat_map rule c.calls) (site_faults sites c.site) (all_of 0 7 rule (λ call. call_early ts (sc.item call.name.name) call) c.calls) (if_so 0 7 (int_le sites.value c.site.value) (number_fault F.Bounds c.site) (bounds_early c.site))

relation_early : (q : s.RelationDecl) → Early (of_relation q)
unfolding definitions
relation_early q =
    let names : List Ident = map (λ (d : RangeDecl). d.name) q.fields in
    both 0 7 (flat_map range_bounds q.fields) (each duplicate names) (all_of 0 7 range_bounds (λ d. range_early d.lo d.hi) q.fields) (duplicates_early names)

weight_list_early : (sites : Number) (ns : List Number) → Early (weight_list_faults sites ns)
unfolding definitions
weight_list_early sites [] = tt
weight_list_early sites (n ∷ ns) =
    both 0 7 (when (not (int_eq (pos (length (n ∷ ns))) sites.value)) (number_fault F.Arity n)) (when (list_all is_weightless (n ∷ ns)) (number_fault F.Bounds n))
    (if_so 0 7 (not (int_eq (pos (length (n ∷ ns))) sites.value)) (number_fault F.Arity n) (omega arith, omega arith, tt))
    (if_so 0 7 (list_all is_weightless (n ∷ ns)) (number_fault F.Bounds n) (bounds_early n))

weights_early : (sites : Number) (ns : List Number) → Early (site_weight_faults sites ns)
unfolding definitions
weights_early sites ns =
    both 0 7 (weight_list_faults sites ns) (flat_map too_heavy ns) (weight_list_early sites ns)
    (all_of 0 7 too_heavy (λ n. if_so 0 7 (int_lt largest_weight n.value) (number_fault F.Bounds n) (bounds_early n)) ns)

declared_early : (w : s.Workload) → Early (declared_faults w)
unfolding definitions
declared_early w =
    let a : List Fault = flat_map object_faults w.objects in
    let b : List Fault = flat_map of_relation w.relations in
    let c : List Fault = flat_map (of_transaction (scope_of w)) w.transactions in
    let d : List Fault = flat_map (client_faults w.sites (scope_of w) w.transactions) w.clients in
    both 0 7 (a ++ b ++ c ++ d) (site_weight_faults w.sites w.weights)
    (both 0 7 (a ++ b ++ c) d (both 0 7 (a ++ b) c (both 0 7 a b (all_of 0 7 object_faults object_early w.objects) (all_of 0 7 of_relation relation_early w.relations)) (all_of 0 7 (of_transaction (scope_of w)) (transaction_early (scope_of w)) w.transactions)) (all_of 0 7 (client_faults w.sites (scope_of w) w.transactions) (client_early w.sites (scope_of w) w.transactions) w.clients))
    (weights_early w.sites w.weights)

passing_early : {A : Type 0} (most : ℕ) (name : A → Ident) (xs : List A) → Early (each (passes_limit most name) xs)
unfolding definitions
passing_early most name xs = each_of 0 7 (passes_limit most name) (λ before x. if_so 0 7 (length before == most) (fault F.Limits (name x)) (omega arith, omega arith, tt)) [] xs

limits_early : (w : s.Workload) → Early (limit_faults w)
unfolding definitions
limits_early w =
    let a : List Fault = site_count_faults w.sites in
    let b : List Fault = flat_map slot_faults w.relations in
    let c : List Fault = each too_many_objects (makings w) in
    let d : List Fault = each (passes_limit 256 (λ (t : s.Transaction). t.name)) w.transactions in
    let f : List Fault = each (passes_limit 64 (λ (c : s.Client). c.name)) w.clients in
    let g : List Fault = each (passes_limit 20000 (λ (c : SitedCall). c.name)) (sited_calls w) in
    let h : List Fault = each (passes_limit 1024 (λ (c : SitedCall). c.name)) (ground_calls w) in
    let ae : Early a = if_so 0 7 (int_lt w.sites.value (pos 1) || int_lt (pos 16) w.sites.value) (number_fault F.Limits w.sites) (omega arith, omega arith, tt) in
    let be : Early b = all_of 0 7 slot_faults (λ q. if_so 0 7 (int_lt q.slots.value (pos 1) || int_lt (pos 64) q.slots.value) (number_fault F.Limits q.slots) (omega arith, omega arith, tt)) w.relations in
    let ce : Early c = each_of 0 7 too_many_objects (λ before m. if_so 0 7 (nat_le (made before) 1024 && nat_lt 1024 (made before + m.objects)) (fault F.Limits m.name) (omega arith, omega arith, tt)) [] (makings w) in
    let abc : Early (a ++ b ++ c) = both 0 7 (a ++ b) c (both 0 7 a b ae be) ce in
    both 0 7 (a ++ b ++ c ++ d ++ f ++ g) h (both 0 7 (a ++ b ++ c ++ d ++ f) g (both 0 7 (a ++ b ++ c ++ d) f (both 0 7 (a ++ b ++ c) d abc (passing_early 256 (λ (t : s.Transaction). t.name) w.transactions)) (passing_early 64 (λ (c : s.Client). c.name) w.clients)) (passing_early 20000 (λ (c : SitedCall). c.name) (sited_calls w))) (passing_early 1024 (λ (c : SitedCall). c.name) (ground_calls w))

scheduled_early : (cs : List s.Client) (before : ℕ) (g : Option Item) (x : Ident) → Early (scheduled cs before g x)
unfolding definitions
scheduled_early cs before None x = (omega arith, omega arith, tt)
scheduled_early cs before (Some (I.Client k)) x = if_so 0 7 (before == call_count (slice_get cs k)) (fault F.Schedule x) (omega arith, omega arith, tt)
scheduled_early cs before (Some (I.Object k)) x = (omega arith, omega arith, tt)
scheduled_early cs before (Some (I.Relation k)) x = (omega arith, omega arith, tt)
scheduled_early cs before (Some (I.Transaction k)) x = (omega arith, omega arith, tt)

schedule_early : (purpose : Purpose) (sc : Scope) (cs : List s.Client) (end : ℕ) (o : Option (List Ident)) → Early (schedule_faults purpose sc cs end o)
unfolding definitions
schedule_early purpose sc cs end None = if_so 0 7 (needs_order purpose && has_calls cs) (end_fault end) (omega arith, omega arith, tt)
schedule_early purpose sc cs end (Some xs) =
    both 0 7 (order_faults sc cs xs) (when (is_short cs xs) (end_fault end)) (each_of 0 7 (λ before x. scheduled cs (times x.name before) (sc.item x.name) x) (λ before x. scheduled_early cs (times x.name before) (sc.item x.name) x) [] xs) (if_so 0 7 (is_short cs xs) (end_fault end) (omega arith, omega arith, tt))

-- each fault of the text is of a phase before that of sizes
pub text_early : (purpose : Purpose) (w : s.Workload) → Between 0 7 (text_faults purpose w)
unfolding definitions
text_early purpose w =
    let names : List Ident = map (λ d. d.name) (global_names w) in
    let a = each duplicate names in
    let b = declared_faults w in
    let c = limit_faults w in
    let d = schedule_faults purpose (scope_of w) w.clients w.end w.schedule in
    both 0 7 (a ++ b ++ c) d (both 0 7 (a ++ b) c (both 0 7 a b (duplicates_early names) (declared_early w)) (limits_early w)) (schedule_early purpose (scope_of w) w.clients w.end w.schedule)

-- ---- the L forms'
pub sizes_in : (w : s.Workload) → Between 7 8 (size_faults w ++ print_faults w)
unfolding definitions
sizes_in w =
    let e : SitedCall → Extent = extent_of w in
    let prints : SitedCall → ℕ = λ c. prints_in (call_form w c) in
    both 7 8 (size_faults w) (print_faults w) (each_of 7 8 (too_large_call e) (λ before c. if_so 7 8 (nat_lt 200000 (e c).size || nat_lt 1000 (e c).depth || nat_lt 2000000 (sum_by (λ d. (e d).size) before + (e c).size)) (fault F.Size c.name) (omega arith, omega arith, tt)) [] (ground_calls w)) (each_of 7 8 (prints_too_much prints) (λ before c. if_so 7 8 (nat_lt 1000000 (sum_by prints before + prints c)) (fault F.Size c.name) (omega arith, omega arith, tt)) [] (sited_calls w))

pub later_in : (purpose : Purpose) (w : s.Workload) → Between 8 10 (weight_faults w ++ row_faults purpose w)
unfolding definitions
later_in purpose w =
    both 8 10 (weight_faults w) (row_faults purpose w) (all_of 8 10 (heavy_call w) (λ c. if_so 8 10 (not (is_light heaviest (call_form w c) (first_weights (schema_of w)))) (fault F.Weight c.name) (omega arith, omega arith, tt)) (ground_calls w)) (if_so 8 10 (makes_tables purpose) (each (too_many_rows w) (ground_calls w)) (each_of 8 10 (too_many_rows w) (λ before c. if_so 8 10 (nat_lt 4096 (rows (call_form w c)) || nat_lt 8000000 (sum_by (table_size w) before + table_size w c)) (fault F.Rows c.name) (omega arith, omega arith, tt)) [] (ground_calls w)))

-- ---- which one is kept
abbrev RankedBelow : ℕ → Option Fault → Type 0
unfolding definitions
RankedBelow n None = Unit {0}
RankedBelow n (Some f) = rank f.phase < n

kept_one : (m n : ℕ) (best : Option Fault) (f : Fault) → RankedBelow n best → rank f.phase < n → RankedBelow n (keep best f)
unfolding definitions
kept_one m n None f h k = k
kept_one m n (Some g) f h k = by_case (comes_before f g)
  where
    by_case : (b : Bool) → RankedBelow n (cond b (Some f) (Some g))
    by_case true = k
    by_case false = h

kept_below : (m n : ℕ) (best : Option Fault) (fs : List Fault) → RankedBelow n best → Between m n fs → RankedBelow n (keep_all best fs)
unfolding definitions
kept_below m n best [] h k = h
kept_below m n best (f ∷ fs) h k = kept_below m n (keep best f) fs (kept_one m n best f h k.1) k.2

stays_first : (f g : Fault) → rank f.phase < rank g.phase → comes_before g f ≡ false
unfolding definitions
stays_first f g h =
    let no : nat_lt (rank g.phase) (rank f.phase) ≡ false = grind (arith, nat_tests) in
    let other : (rank g.phase == rank f.phase) ≡ false = grind (arith, nat_tests) in
    λ i. no i || (other i && nat_lt g.offset f.offset)

-- a fault of an earlier phase decides, whatever comes later
stays : (m n : ℕ) (f : Fault) (fs : List Fault) → rank f.phase < m → Between m n fs → keep_all (Some f) fs ≡ Some f
unfolding definitions
stays m n f [] h k = refl
stays m n f (g ∷ fs) h k = ap (λ b. keep_all (cond b (Some g) (Some f)) fs) (stays_first f g (omega (arith, k.0))) ∙ stays m n f fs h k.2

-- where one of the first is kept, it decides with those of later phases too
pub decides_first : (m n p : ℕ) (fs gs : List Fault) (f : Fault) → Between m n fs → Between n p gs → keep_all None fs ≡ Some f → keep_all (keep_all None fs) gs ≡ Some f
unfolding definitions
decides_first m n p fs gs f h k e =
    let below : RankedBelow n (keep_all None fs) = kept_below m n None fs tt h in
    ap (λ o. keep_all o gs) e ∙ stays n p f gs (subst (RankedBelow n) e below) k
