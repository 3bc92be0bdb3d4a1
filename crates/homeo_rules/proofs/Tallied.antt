-- The tally of a schedule counts what stands before.
use Rattle.std.proofs.Common.{◌≡◌, ◌≢◌, ℕ, zero, suc, ◌+◌, ◌<◌, ◌≤◌, Bool, true, false, cond, ◌==◌, ◌&&◌, ◌||◌, List, [], ◌∷◌, ◌++◌, map, replicate, Option, Some, None, length, drop, get_or, refl, sym, ap, subst, ◌∙◌, arith, append-nil, append_assoc, slice_set, get_or-set_same, get_or-set_other, drop-cons, add-one, add-zero, zero-add}
use Rattle.std.specs.Prelude.{slice_index, slice_get, nat_lt}
use Rattle.std.specs.List.{list_any}
use Rattle.std.proofs.lemmas.List.{length-set, length-replicate, length-map, set_past}
use Rattle.std.proofs.lemmas.List.Sums.{sum_by-append}
use Rattle.std.proofs.lemmas.Bool.Decides.{nat_tests}
use Rattle.homeo_syntax.specs.Key.{definitions as syntax_definitions}
use Rattle.homeo_syntax.specs.Listed.{Listed}
use Rattle.homeo_syntax.specs.Source as p
use Rattle.homeo_syntax.specs.SourceView.{plain_client, plain_call, plain_schedule}
use Rattle.homeo_syntax.specs.WellFormed.{Each, InSchedule, IsBelow}
use Rattle.homeo_syntax.specs.declared.phrase.Ident.{Ident}
use Rattle.homeo_syntax.specs.declared.workload.Client.{Client}
use Rattle.homeo_meaning.specs.Key.{definitions as meaning_definitions}
use Rattle.homeo_meaning.specs.Bindings.{Scope}
use Rattle.homeo_meaning.specs.NameRules.{when, fault}
use Rattle.homeo_meaning.specs.TransactionRules.{each_from}
use Rattle.homeo_meaning.specs.CallRules.{times, call_count, order_faults, is_short, end_fault, needs_order, schedule_faults}
use Rattle.homeo_rules.specs.inner.Deciding.{keep_all}
use Rattle.homeo_meaning.specs.declared.call.Purpose.{Purpose}
use Rattle.homeo_meaning.specs.declared.rules.Fault.{Fault}
use Rattle.homeo_meaning.specs.declared.rules.Item.TheVariants as I
use Rattle.homeo_meaning.specs.declared.rules.Phase.TheVariants.{Unknown, Kind, Schedule}
use Rattle.homeo_rules.specs.inner.Key.{definitions}
use Rattle.homeo_rules.specs.inner.Tally.{Tally, scheduled_of, tally, tally_all, call_count_at, is_short_of, has_calls_of}
use Rattle.homeo_rules.proofs.Steps.{keep-none, keep-one, keep_all-append}

count-plain : (cs : List Client) (k : ℕ) → call_count (slice_get (map plain_client cs) k) ≡ call_count_at cs k
unfolding syntax_definitions
count-plain [] k = refl
count-plain (c ∷ cs) zero = length-map c.calls.items plain_call
count-plain (c ∷ cs) (suc k) = count-plain cs k

pub scheduled-None : (cs : List Client) (n : ℕ) (x : Ident) → scheduled_of cs n None x ≡ fault Unknown x
unfolding definitions meaning_definitions
scheduled-None cs n x = refl

pub scheduled-Client : (cs : List Client) (n k : ℕ) (x : Ident) → scheduled_of cs n (Some (I.Client k)) x ≡ when (n == call_count_at cs k) (fault Schedule x)
unfolding definitions meaning_definitions
scheduled-Client cs n k x = ap (λ m. when (n == m) (fault Schedule x)) (count-plain cs k)

pub scheduled-Object : (cs : List Client) (n k : ℕ) (x : Ident) → scheduled_of cs n (Some (I.Object k)) x ≡ fault Kind x
unfolding definitions meaning_definitions
scheduled-Object cs n k x = refl

pub scheduled-Relation : (cs : List Client) (n k : ℕ) (x : Ident) → scheduled_of cs n (Some (I.Relation k)) x ≡ fault Kind x
unfolding definitions meaning_definitions
scheduled-Relation cs n k x = refl

pub scheduled-Transaction : (cs : List Client) (n k : ℕ) (x : Ident) → scheduled_of cs n (Some (I.Transaction k)) x ≡ fault Kind x
unfolding definitions meaning_definitions
scheduled-Transaction cs n k x = refl

pub tally-is : (s : Scope) (cs : List Client) (t : Tally) (x : Ident) → tally s cs t x ≡ record { counts = slice_set t.counts x.name (slice_index t.counts x.name + 1); best = keep_all t.best (scheduled_of cs (slice_index t.counts x.name) (s.item x.name) x) }
unfolding definitions
tally-is s cs t x = refl

pub ruleset scheduling = (keep-none, keep-one, scheduled-None, scheduled-Client, scheduled-Object, scheduled-Relation, scheduled-Transaction)

pub ruleset tally_steps = (tally-is, set_past)

at_most : (l : List ℕ) (k v n i : ℕ) → ((m : ℕ) → slice_index l m ≤ i) → v ≤ i + 1 → slice_index (slice_set l k v) n ≤ i + 1
at_most [] k v n i few h = omega arith
at_most (x ∷ l) zero v zero i few h = h
at_most (x ∷ l) zero v (suc n) i few h = let f : slice_index l n ≤ i = few (suc n) in omega arith
at_most (x ∷ l) (suc k) v zero i few h = let f : x ≤ i = few 0 in omega arith
at_most (x ∷ l) (suc k) v (suc n) i few h = at_most l k v n i (λ m. few (suc m)) h

pub few_more : (s : Scope) (cs : List Client) (t new : Tally) (x : Ident) (i : ℕ) → new ≡ tally s cs t x → ((m : ℕ) → slice_index t.counts m ≤ i) → (n : ℕ) → slice_index new.counts n ≤ i + 1
unfolding definitions meaning_definitions
few_more s cs t new x i e few n =
    let f : slice_index t.counts x.name ≤ i = few x.name in
    let h : slice_index t.counts x.name + 1 ≤ i + 1 = omega arith in
    subst (λ (u : Tally). slice_index u.counts n ≤ i + 1) (sym e) (at_most t.counts x.name (slice_index t.counts x.name + 1) n i few h)

pub step_all : (s : Scope) (cs : List Client) (t new : Tally) (xs : List Ident) (i : ℕ) (d : Ident) → i < length xs → new ≡ tally s cs t (get_or xs i d) → tally_all s cs new (drop (i + 1) xs) ≡ tally_all s cs t (drop i xs)
step_all s cs t new xs i d lt e =
    ap (λ u. tally_all s cs u (drop (i + 1) xs)) e
    ∙ sym (ap (tally_all s cs t) (drop_one xs i d lt))
  where
    drop_one : (xs : List Ident) (i : ℕ) (d : Ident) → i < length xs → drop i xs ≡ get_or xs i d ∷ drop (i + 1) xs
    drop_one xs i d lt = rw (add-one, drop-cons xs i d)

-- one more
times_more : (before : List Ident) (x : Ident) (m : ℕ) → times m (before ++ x ∷ []) ≡ times m before + cond (x.name == m) 1 0
times_more before x m =
    sum_by-append (λ (y : Ident). cond (y.name == m) 1 0) before (x ∷ [])
    ∙ ap (λ n. times m before + n) (zero-add (cond (x.name == m) 1 0))

tally_case : (l : List ℕ) (n : ℕ) (before : List Ident) → n < length l → ((m : ℕ) → slice_index l m ≡ times m before) → (m : ℕ) (b : Bool) → (n == m) ≡ b → slice_index (slice_set l n (slice_index l n + 1)) m ≡ times m before + cond b 1 0
tally_case l n before lt agree m true e =
    let same : n ≡ m = grind (arith, nat_tests) in
    let now : slice_index (slice_set l n (slice_index l n + 1)) n ≡ slice_index l n + 1 = get_or-set_same l n (slice_index l n + 1) 0 lt in
    subst (λ k. slice_index (slice_set l n (slice_index l n + 1)) k ≡ slice_index l k + 1) same now ∙ ap (λ k. k + 1) (agree m)
tally_case l n before lt agree m false e =
    let other : m ≢ n = grind (arith, nat_tests) in
    get_or-set_other l n m (slice_index l n + 1) 0 other ∙ agree m ∙ sym (add-zero (times m before))

abbrev rule : Scope → List Client → List Ident → Ident → List Fault
rule s cs before x = scheduled_of cs (times x.name before) (s.item x.name) x

pub record Tallied (s : Scope) (cs : List Client) (before : List Ident) (start t : Tally) (xs : List Ident) : Type 0 where
  pub counts : (m : ℕ) → slice_index t.counts m ≡ times m (before ++ xs)
  pub best : t.best ≡ keep_all start.best (each_from (rule s cs) before xs)

tallies : (s : Scope) (cs : List Client) (n : ℕ) (before : List Ident) (t : Tally) (xs : List Ident) → length t.counts ≡ n → ((m : ℕ) → slice_index t.counts m ≡ times m before) → Each (IsBelow n) xs → Tallied s cs before t (tally_all s cs t xs) xs
unfolding definitions meaning_definitions syntax_definitions
tallies s cs n before t [] len agree within = record { counts = λ m. agree m ∙ ap (times m) (sym (append-nil before)); best = refl }
tallies s cs n before t (x ∷ xs) len agree within =
    let lt : x.name < length t.counts = subst (λ m. x.name < m) (sym len) within.0 in
    let next : (m : ℕ) → slice_index (tally s cs t x).counts m ≡ times m (before ++ x ∷ []) = λ m. tally_case t.counts x.name before lt agree m (x.name == m) refl ∙ sym (times_more before x m) in
    let rest : Tallied s cs (before ++ x ∷ []) (tally s cs t x) (tally_all s cs (tally s cs t x) xs) xs = tallies s cs n (before ++ x ∷ []) (tally s cs t x) xs (length-set t.counts x.name (slice_index t.counts x.name + 1) ∙ len) next within.1 in
    record {
      counts = λ m. rest.counts m ∙ ap (times m) (append_assoc before (x ∷ []) xs);
      best =
          rest.best
          ∙ ap (λ k. keep_all (keep_all t.best (scheduled_of cs k (s.item x.name) x)) (each_from (rule s cs) (before ++ x ∷ []) xs)) (agree x.name)
          ∙ sym (keep_all-append t.best (rule s cs before x) (each_from (rule s cs) (before ++ x ∷ []) xs));
    }

none_yet : (n m : ℕ) → slice_index (replicate n 0) m ≡ 0
none_yet zero m = refl
none_yet (suc n) zero = refl
none_yet (suc n) (suc m) = none_yet n m

-- ---- with the word `end`
short-plain : (counts : List ℕ) (n : ℕ → ℕ) → ((m : ℕ) → slice_index counts m ≡ n m) → (cs : List Client) → is_short_of counts cs ≡ list_any (λ (c : p.Client). nat_lt (n c.name.name) (length c.calls)) (map plain_client cs)
unfolding syntax_definitions
short-plain counts n agree [] = refl
short-plain counts n agree (c ∷ cs) =
    ap (λ k. nat_lt k (length c.calls.items) || is_short_of counts cs) (agree c.name.name)
    ∙ ap (λ k. nat_lt (n c.name.name) k || is_short_of counts cs) (sym (length-map c.calls.items plain_call))
    ∙ ap (λ b. nat_lt (n c.name.name) (length (map plain_call c.calls.items)) || b) (short-plain counts n agree cs)

has-plain : (cs : List Client) → has_calls_of cs ≡ list_any (λ (c : p.Client). nat_lt 0 (length c.calls)) (map plain_client cs)
unfolding syntax_definitions
has-plain [] = refl
has-plain (c ∷ cs) =
    ap (λ k. nat_lt 0 k || has_calls_of cs) (sym (length-map c.calls.items plain_call))
    ∙ ap (λ b. nat_lt 0 (length (map plain_call c.calls.items)) || b) (has-plain cs)

pub no_order : (purpose : Purpose) (s : Scope) (cs : List Client) (end : ℕ) (best : Option Fault) (o : Option (Listed Ident)) → o ≡ None → keep_all best (when (needs_order purpose && has_calls_of cs) (end_fault end)) ≡ keep_all best (schedule_faults purpose s (map plain_client cs) end (plain_schedule o))
unfolding definitions meaning_definitions syntax_definitions
no_order purpose s cs end best o e =
    ap (λ b. keep_all best (when (needs_order purpose && b) (end_fault end))) (has-plain cs)
    ∙ ap (λ o. keep_all best (schedule_faults purpose s (map plain_client cs) end (plain_schedule o))) (sym e)

pub ordered : (purpose : Purpose) (s : Scope) (cs : List Client) (n end : ℕ) (best : Option Fault) (o : Option (Listed Ident)) (l : Listed Ident) (xs : List Ident) → o ≡ Some l → xs ≡ l.items → InSchedule (IsBelow n) (plain_schedule o) → (t : Tally) → t ≡ tally_all s cs (record { counts = replicate n 0; best = best }) xs → keep_all t.best (when (is_short_of t.counts cs) (end_fault end)) ≡ keep_all best (schedule_faults purpose s (map plain_client cs) end (plain_schedule o))
unfolding definitions meaning_definitions syntax_definitions
ordered purpose s cs n end best o l xs eo ex within t et =
    let start : Tally = record { counts = replicate n 0; best = best } in
    let inside : InSchedule (IsBelow n) (plain_schedule (Some l)) = subst (λ o. InSchedule (IsBelow n) (plain_schedule o)) eo within in
    let k : Tallied s cs [] start (tally_all s cs start l.items) l.items = tallies s cs n [] start l.items (length-replicate n 0) (none_yet n) inside in
    ap (λ (u : Tally). keep_all u.best (when (is_short_of u.counts cs) (end_fault end))) (et ∙ ap (tally_all s cs start) ex)
    ∙ ap (λ b. keep_all b (when (is_short_of (tally_all s cs start l.items).counts cs) (end_fault end))) k.best
    ∙ ap (λ b. keep_all (keep_all best (order_faults s (map plain_client cs) l.items)) (when b (end_fault end))) (short-plain (tally_all s cs start l.items).counts (λ m. times m l.items) k.counts cs)
    ∙ sym (keep_all-append best (order_faults s (map plain_client cs) l.items) (when (is_short (map plain_client cs) l.items) (end_fault end)))
    ∙ ap (λ o. keep_all best (schedule_faults purpose s (map plain_client cs) end (plain_schedule o))) (sym eo)
