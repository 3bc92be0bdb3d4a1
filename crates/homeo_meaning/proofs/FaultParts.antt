-- A workload without a fault has none of any kind, for each purpose.
use Rattle.std.proofs.Common.{◌≡◌, List, [], ◌∷◌, ◌++◌, map, Option, Some, None, refl}
use Rattle.std.specs.List.{flat_map}
use Rattle.homeo_syntax.specs.Source as s
use Rattle.homeo_meaning.specs.Key.{definitions}
use Rattle.homeo_meaning.specs.TransactionRules.{each}
use Rattle.homeo_meaning.specs.GlobalNames.{global_names, duplicate, scope_of}
use Rattle.homeo_meaning.specs.GlobalNames.{SitedCall, sited_calls}
use Rattle.homeo_meaning.specs.NumberRules.{object_faults, site_weight_faults, site_count_faults, slot_faults, too_many_objects, makings, passes_limit, ground_calls, limit_faults}
use Rattle.homeo_meaning.specs.CallRules.{client_faults, schedule_faults}
use Rattle.homeo_meaning.specs.SizeRules.{size_faults, print_faults, weight_faults, row_faults}
use Rattle.homeo_meaning.specs.Faults.{of_relation, of_transaction, declared_faults, text_faults, form_faults, faults}
use Rattle.homeo_meaning.specs.declared.call.Purpose.{Purpose}
use Rattle.homeo_meaning.specs.declared.call.Purpose.TheVariants.{Run}
use Rattle.homeo_syntax.specs.declared.phrase.Ident.{Ident}

pub none_first : {A : Type 0} (xs ys : List A) → (xs ++ ys) ≡ [] → xs ≡ []
none_first [] ys e = refl
none_first (x ∷ xs) ys e = cc

pub none_second : {A : Type 0} (xs ys : List A) → (xs ++ ys) ≡ [] → ys ≡ []
none_second [] ys e = e
none_second (x ∷ xs) ys e = cc

pub record NoTextFault (purpose : Purpose) (w : s.Workload) : Type 0 where
  pub names : each duplicate (map (λ d. d.name) (global_names w)) ≡ []
  pub declared : declared_faults w ≡ []
  pub limits : limit_faults w ≡ []
  pub schedule : schedule_faults purpose (scope_of w) w.clients w.end w.schedule ≡ []

pub text_parts : (purpose : Purpose) (w : s.Workload) → text_faults purpose w ≡ [] → NoTextFault purpose w
unfolding definitions
text_parts purpose w e3 =
    let a = each duplicate (map (λ d. d.name) (global_names w)) in
    let b = declared_faults w in
    let c = limit_faults w in
    let d = schedule_faults purpose (scope_of w) w.clients w.end w.schedule in
    let e2 = none_first (a ++ b ++ c) d e3 in
    let e1 = none_first (a ++ b) c e2 in
    record {
      names = none_first a b e1;
      declared = none_second a b e1;
      limits = none_second (a ++ b) c e2;
      schedule = none_second (a ++ b ++ c) d e3;
    }

pub record NoDeclaredFault (w : s.Workload) : Type 0 where
  pub objects : flat_map object_faults w.objects ≡ []
  pub relations : flat_map of_relation w.relations ≡ []
  pub transactions : flat_map (of_transaction (scope_of w)) w.transactions ≡ []
  pub clients : flat_map (client_faults w.sites (scope_of w) w.transactions) w.clients ≡ []
  pub weights : site_weight_faults w.sites w.weights ≡ []

pub declared_parts : (w : s.Workload) → declared_faults w ≡ [] → NoDeclaredFault w
unfolding definitions
declared_parts w e4 =
    let a = flat_map object_faults w.objects in
    let b = flat_map of_relation w.relations in
    let c = flat_map (of_transaction (scope_of w)) w.transactions in
    let d = flat_map (client_faults w.sites (scope_of w) w.transactions) w.clients in
    let f = site_weight_faults w.sites w.weights in
    let e3 = none_first (a ++ b ++ c ++ d) f e4 in
    let e2 = none_first (a ++ b ++ c) d e3 in
    let e1 = none_first (a ++ b) c e2 in
    record {
      objects = none_first a b e1;
      relations = none_second a b e1;
      transactions = none_second (a ++ b) c e2;
      clients = none_second (a ++ b ++ c) d e3;
      weights = none_second (a ++ b ++ c ++ d) f e4;
    }

pub record NoLimitFault (w : s.Workload) : Type 0 where
  pub sites : site_count_faults w.sites ≡ []
  pub slots : flat_map slot_faults w.relations ≡ []
  pub objects : each too_many_objects (makings w) ≡ []
  pub transactions : each (passes_limit 256 (λ (t : s.Transaction). t.name)) w.transactions ≡ []
  pub clients : each (passes_limit 64 (λ (c : s.Client). c.name)) w.clients ≡ []
  pub calls : each (passes_limit 20000 (λ (c : SitedCall). c.name)) (sited_calls w) ≡ []
  pub grounds : each (passes_limit 1024 (λ (c : SitedCall). c.name)) (ground_calls w) ≡ []

pub limit_parts : (w : s.Workload) → limit_faults w ≡ [] → NoLimitFault w
unfolding definitions
limit_parts w e6 =
    let a = site_count_faults w.sites in
    let b = flat_map slot_faults w.relations in
    let c = each too_many_objects (makings w) in
    let d = each (passes_limit 256 (λ (t : s.Transaction). t.name)) w.transactions in
    let f = each (passes_limit 64 (λ (c : s.Client). c.name)) w.clients in
    let g = each (passes_limit 20000 (λ (c : SitedCall). c.name)) (sited_calls w) in
    let h = each (passes_limit 1024 (λ (c : SitedCall). c.name)) (ground_calls w) in
    let e5 = none_first (a ++ b ++ c ++ d ++ f ++ g) h e6 in
    let e4 = none_first (a ++ b ++ c ++ d ++ f) g e5 in
    let e3 = none_first (a ++ b ++ c ++ d) f e4 in
    let e2 = none_first (a ++ b ++ c) d e3 in
    let e1 = none_first (a ++ b) c e2 in
    record {
      sites = none_first a b e1;
      slots = none_second a b e1;
      objects = none_second (a ++ b) c e2;
      transactions = none_second (a ++ b ++ c) d e3;
      clients = none_second (a ++ b ++ c ++ d) f e4;
      calls = none_second (a ++ b ++ c ++ d ++ f) g e5;
      grounds = none_second (a ++ b ++ c ++ d ++ f ++ g) h e6;
    }

pub record NoFormFault (purpose : Purpose) (w : s.Workload) : Type 0 where
  pub sizes : size_faults w ≡ []
  pub prints : print_faults w ≡ []
  pub weights : weight_faults w ≡ []
  pub rows : row_faults purpose w ≡ []

pub form_parts : (purpose : Purpose) (w : s.Workload) → form_faults purpose w ≡ [] → NoFormFault purpose w
unfolding definitions
form_parts purpose w e3 =
    let a = size_faults w in
    let b = print_faults w in
    let c = weight_faults w in
    let d = row_faults purpose w in
    let e2 = none_first (a ++ b ++ c) d e3 in
    let e1 = none_first (a ++ b) c e2 in
    record { sizes = none_first a b e1; prints = none_second a b e1; weights = none_second (a ++ b) c e2; rows = none_second (a ++ b ++ c) d e3 }

pub record NoFault (purpose : Purpose) (w : s.Workload) : Type 0 where
  pub text : NoTextFault purpose w
  pub form : NoFormFault purpose w

pub parts : (purpose : Purpose) (w : s.Workload) → faults purpose w ≡ [] → NoFault purpose w
unfolding definitions
parts purpose w e = record {
  text = text_parts purpose w (none_first (text_faults purpose w) (form_faults purpose w) e);
  form = form_parts purpose w (none_second (text_faults purpose w) (form_faults purpose w) e);
}

-- a schedule that serves any purpose serves a run
order_for_run : (purpose : Purpose) (w : s.Workload) (o : Option (List Ident)) → schedule_faults purpose (scope_of w) w.clients w.end o ≡ [] → schedule_faults Run (scope_of w) w.clients w.end o ≡ []
unfolding definitions
order_for_run purpose w None e = refl
order_for_run purpose w (Some xs) e = e

-- what is accepted for any purpose is accepted for a run
pub for_run : (purpose : Purpose) (w : s.Workload) → faults purpose w ≡ [] → faults Run w ≡ []
unfolding definitions
for_run purpose w e =
    let p : NoTextFault purpose w = (parts purpose w e).text in
    let f : NoFormFault purpose w = (parts purpose w e).form in
    λ i. (p.names i ++ p.declared i ++ p.limits i ++ order_for_run purpose w w.schedule p.schedule i) ++ (f.sizes i ++ f.prints i ++ f.weights i ++ [])
