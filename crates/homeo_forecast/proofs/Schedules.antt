-- The calls of a schedule that names each client as often as it has calls: there they are, and how they are counted.
use Rattle.std.proofs.Common.{◌≡◌, ⊎_elim, ℕ, zero, suc, ◌+◌, ◌<◌, ◌≤◌, ◌==◌, ◌^◌, Bool, true, false, cond, List, [], ◌∷◌, ◌++◌, length, get_or, take, replicate, slice_get, Option, Some, None, refl, sym, ap, ap₂, ◌∙◌, subst, append_assoc, arith}
use Rattle.std.specs.Prelude.{IsSome}
use Rattle.std.specs.Option.{option_and_then, option_map_or}
use Rattle.std.proofs.Math.ListN.{set}
use Rattle.std.proofs.lemmas.Bool.Decides.{nat_tests}
use Rattle.std.proofs.lemmas.List.{length-map, length-append, length-replicate, length-take-le, get_or-map, get_or-append-add, take_more, length-set, get_or-set_same}
use Rattle.std.proofs.lemmas.List.Sums.{sum_by-cons}
use Rattle.std.proofs.lemmas.Option.{slice_get-get_or, same_Some}
use Rattle.std.proofs.lemmas.Bool.{cases_eq}
use Rattle.homeo_lemmas.proofs.Lists.{take_past}
use Rattle.homeo_lemmas.proofs.Places.{place_some}
use Rattle.homeo_syntax.specs.Source as s
use Rattle.homeo_syntax.specs.declared.phrase.Ident.{Ident}
use Rattle.homeo_meaning.specs.declared.call.CallId.{CallId}
use Rattle.homeo_meaning.specs.Key.{definitions as meaning_definitions}
use Rattle.homeo_meaning.specs.Calls.{CallExists}
use Rattle.homeo_meaning.specs.CallRules.{times}
use Rattle.homeo_meaning.specs.Declarations.{place_of}
use Rattle.homeo_meaning.specs.Serial.{numbered}
use Rattle.homeo_plan.specs.Key.{definitions as plan_definitions}
use Rattle.homeo_plan.specs.Each.{Each}
use Rattle.homeo_history.specs.Key.{definitions as history_definitions}
use Rattle.homeo_order.specs.Key.{definitions as order_definitions}
use Rattle.homeo_order.specs.Order.{calls_from, client_names, order_of, scheduled_calls}
use Rattle.homeo_order.specs.Scheduled.{IsWholeOrder}
use Rattle.homeo_order.proofs.Scheduling.{named_there, times-snoc, past_the_last, has_left, calls_from-snoc}
use Rattle.homeo_forecast.proofs.Lists.{set_apart}

-- ---- the client of a name
pub record ItsClient (w : s.Workload) (n : ℕ) : Type 0 where
  pub client : s.Client
  pub found : slice_get w.clients (place_of (client_names w) n) ≡ Some client
  pub named : client.name.name ≡ n

pub its_client : (w : s.Workload) (n : ℕ) → place_of (client_names w) n < length w.clients → ItsClient w n
unfolding order_definitions
its_client w n lt = go (slice_get w.clients (place_of (client_names w) n)) refl
  where
    go : (o : Option s.Client) → slice_get w.clients (place_of (client_names w) n) ≡ o → ItsClient w n
    go None e = absurd (omega (arith, past_the_last w.clients (place_of (client_names w) n) e, lt))
    go (Some c) e =
        let k = place_of (client_names w) n in
        let many : length (client_names w) ≡ length w.clients = length-map w.clients (λ (d : s.Client). d.name.name) in
        let there : get_or w.clients k c ≡ c = same_Some _ _ (sym (slice_get-get_or w.clients k c lt) ∙ e) in
        record {
          client = c;
          found = e;
          named =
              sym (ap (λ (d : s.Client). d.name.name) there) ∙ sym (get_or-map (λ (d : s.Client). d.name.name) w.clients k c 0 lt)
              ∙ named_there (client_names w) n 0 (omega (arith, many, lt));
        }

-- ---- each call is there
module _ (w : s.Workload) (order : IsWholeOrder w) where
  named_at : (before xs : List Ident) (x : Ident) → before ++ x ∷ xs ≡ order_of w.schedule → place_of (client_names w) x.name < length w.clients
  named_at before xs x whole =
      let first : get_or (before ++ x ∷ xs) (length before + 0) x ≡ x = get_or-append-add before (x ∷ xs) 0 x in
      let count = length-append before (x ∷ xs) in
      let less : length before + 0 < length (before ++ x ∷ xs) = omega (arith, count) in
      subst (λ (y : Ident). place_of (client_names w) y.name < length w.clients) (ap (λ l. get_or l (length before + 0) x) (sym whole) ∙ first)
      (order.named (length before + 0) x (subst (λ l. length before + 0 < length l) whole less))

  exists_next : (before xs : List Ident) (x : Ident) → before ++ x ∷ xs ≡ order_of w.schedule →
      CallExists w (record { client = place_of (client_names w) x.name; seq = suc (times x.name before) })
  unfolding meaning_definitions history_definitions
  exists_next before xs x whole =
      let lt = named_at before xs x whole in
      let it = its_client w x.name lt in
      let left = has_left w before xs x order whole lt in
      let less : times x.name before < length it.client.calls = subst (λ (o : Option s.Client). times x.name before < option_map_or (λ (c : s.Client). length c.calls) o 0) it.found left in
      subst (λ (o : Option s.Client). IsSome (option_and_then (λ (c : s.Client). numbered (suc (times x.name before)) c.calls) o)) (sym it.found)
      (place_some it.client.calls (times x.name before) less)

  exist_from : (before xs : List Ident) → before ++ xs ≡ order_of w.schedule → Each (λ call. CallExists w call) (calls_from (client_names w) before xs)
  unfolding plan_definitions order_definitions
  exist_from before [] whole = tt
  exist_from before (x ∷ xs) whole =
      (exists_next before xs x whole, exist_from (before ++ x ∷ []) xs (append_assoc before (x ∷ []) xs ∙ whole))

  pub scheduled_exist : Each (λ call. CallExists w call) (scheduled_calls w)
  unfolding order_definitions
  scheduled_exist = exist_from [] (order_of w.schedule) refl

-- ---- counting
pub record HasCounted (w : s.Workload) (before : List Ident) (calls : List CallId) (made : List ℕ) : Type 0 where
  pub calls_are : calls ≡ calls_from (client_names w) [] before
  pub count : length made ≡ length w.clients
  pub made_are : (k : ℕ) (c : s.Client) → slice_get w.clients k ≡ Some c → get_or made k 0 ≡ times c.name.name before

zero_at : (n k : ℕ) → ◌≡◌ {A = ℕ} (get_or (replicate n 0) k 0) 0
zero_at zero k = refl
zero_at (suc n) zero = refl
zero_at (suc n) (suc k) = zero_at n k

pub none_counted : (w : s.Workload) (calls : List CallId) (made : List ℕ) → calls ≡ [] → made ≡ replicate (length w.clients) 0 → HasCounted w [] calls made
unfolding order_definitions
none_counted w calls made none zeros = record {
  calls_are = none;
  count = ap length zeros ∙ length-replicate (length w.clients) 0;
  made_are = λ k c found. ap (λ l. get_or l k 0) zeros ∙ zero_at (length w.clients) k;
}

module _ (w : s.Workload) (order : IsWholeOrder w) (before : List Ident) (x : Ident) (calls : List CallId) (made : List ℕ) (counted : HasCounted w before calls made)
    (lt : place_of (client_names w) x.name < length w.clients) where
  abbrev place : ℕ
  place = place_of (client_names w) x.name

  pub made_there : place < length made
  made_there = subst (λ n. place < n) (sym counted.count) lt

  pub count_there : get_or made place 0 ≡ times x.name before
  count_there = let it = its_client w x.name lt in counted.made_are place it.client it.found ∙ ap (λ n. times n before) it.named

  pub one_counted : (next : ℕ) (call : CallId) (new : List CallId) → next ≡ suc (get_or made place 0) → call ≡ record { client = place; seq = next } →
      new ≡ calls ++ call ∷ [] → HasCounted w (before ++ x ∷ []) new (set made place next)
  one_counted next call new is_next is_call are = record {
    calls_are =
        are ∙ ap₂ (λ l (c : CallId). l ++ c ∷ []) counted.calls_are (is_call ∙ ap (λ n. record { client = place; seq = n }) (is_next ∙ ap suc count_there))
        ∙ sym (calls_from-snoc (client_names w) [] before x);
    count = length-set made place next ∙ counted.count;
    made_are = λ k c found. ⊎_elim (here k c found) (there k c found) (cases_eq k place);
  }
    where
      here : (k : ℕ) (c : s.Client) → slice_get w.clients k ≡ Some c → k ≡ place → get_or (set made place next) k 0 ≡ times c.name.name (before ++ x ∷ [])
      here k c found e =
          let it = its_client w x.name lt in
          let same : c ≡ it.client = same_Some c it.client (sym found ∙ ap (slice_get w.clients) e ∙ it.found) in
          let name : c.name.name ≡ x.name = ap (λ (d : s.Client). d.name.name) same ∙ it.named in
          let own : (x.name == x.name) ≡ true = grind (arith, nat_tests) in
          let more : times x.name (before ++ x ∷ []) ≡ times x.name before + 1 = times-snoc x.name before x ∙ ap (λ b. times x.name before + cond b 1 0) own in
          ap (λ j. get_or (set made place next) j 0) e ∙ get_or-set_same made place next 0 made_there ∙ is_next ∙ ap suc count_there
          ∙ omega (arith, more) ∙ ap (λ n. times n (before ++ x ∷ [])) (sym name)

      there : (k : ℕ) (c : s.Client) → slice_get w.clients k ≡ Some c → (k ≡ place → ⊥) → get_or (set made place next) k 0 ≡ times c.name.name (before ++ x ∷ [])
      there k c found apart =
          let other : (x.name == c.name.name) ≡ false = differ (x.name == c.name.name) refl in
          let more : times c.name.name (before ++ x ∷ []) ≡ times c.name.name before + 0 = times-snoc c.name.name before x ∙ ap (λ b. times c.name.name before + cond b 1 0) other in
          let old = counted.made_are k c found in
          set_apart made place k next 0 apart ∙ omega (arith, more, old)
        where
          differ : (b : Bool) → (x.name == c.name.name) ≡ b → b ≡ false
          differ true q =
              let same : x.name ≡ c.name.name = grind (arith, nat_tests) in
              absurd (apart (sym (order.placed k c found) ∙ ap (place_of (client_names w)) (sym same)))
          differ false q = refl

-- ---- the next name of a schedule
times_at_most : (n : ℕ) (xs : List Ident) → times n xs ≤ length xs
times_at_most n [] = omega arith
times_at_most n (x ∷ xs) =
    let more : times n (x ∷ xs) ≡ cond (x.name == n) 1 0 + times n xs = sum_by-cons (λ (y : Ident). cond (y.name == n) 1 0) x xs in
    omega (arith, more, one (x.name == n), times_at_most n xs)
  where
    one : (b : Bool) → cond b 1 0 ≤ 1
    one true = omega arith
    one false = omega arith

module _ (w : s.Workload) (order : IsWholeOrder w) (names : List Ident) (all : names ≡ order_of w.schedule) (i : ℕ) (d : Ident) (lt : i < length names) where
  abbrev x : Ident
  x = get_or names i d

  pub name_there : place_of (client_names w) x.name < length w.clients
  name_there =
      subst (λ (l : List Ident). place_of (client_names w) (get_or l i d).name < length w.clients) (sym all)
      (order.named i d (subst (λ (l : List Ident). i < length l) all lt))

  pub name_small : place_of (client_names w) x.name < 2 ^ 32
  name_small = let few = order.few in omega (arith, name_there, few)

  module _ (calls : List CallId) (made : List ℕ) (counted : HasCounted w (take i names) calls made) where
    pub next_there : place_of (client_names w) x.name < length made
    next_there = made_there w order (take i names) x calls made counted name_there

    pub next_small : suc (get_or made (place_of (client_names w) x.name) 0) ≤ length names
    next_small =
        let first : length (take i names) ≡ i = length-take-le i names (omega (arith, lt)) in
        omega (arith, count_there w order (take i names) x calls made counted name_there, times_at_most x.name (take i names), first)

    pub name_counted : (next : ℕ) (call : CallId) (new : List CallId) → next ≡ get_or made (place_of (client_names w) x.name) 0 + 1 →
        call ≡ record { client = place_of (client_names w) x.name; seq = next } → new ≡ calls ++ call ∷ [] →
        HasCounted w (take (i + 1) names) new (set made (place_of (client_names w) x.name) next)
    name_counted next call new is_next is_call are =
        subst (λ (l : List Ident). HasCounted w l new (set made (place_of (client_names w) x.name) next)) (sym (take_more names i d lt))
        (one_counted w order (take i names) x calls made counted name_there next call new (omega (arith, is_next)) is_call are)

pub all_counted : (w : s.Workload) (names : List Ident) (i : ℕ) (calls : List CallId) (made : List ℕ) → names ≡ order_of w.schedule → length names ≤ i →
    HasCounted w (take i names) calls made → calls ≡ scheduled_calls w
unfolding order_definitions
all_counted w names i calls made all le counted =
    counted.calls_are ∙ ap (calls_from (client_names w) []) (take_past names i le ∙ all)
