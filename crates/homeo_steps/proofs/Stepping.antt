-- What a core has made of a schedule, name after name.
use Rattle.std.proofs.Common.{◌≡◌, ◌≢◌, ◌<◌, ◌≤◌, ◌+◌, ◌∙◌, ◌++◌, ◌==◌, ℕ, suc, Bool, true, false, cond, List, [], ◌∷◌, length, map, get_or, refl, sym, ap, subst, arith, take, drop}
use Rattle.std.proofs.lemmas.Grind.{common_steps, get_or-set_at, same_number_lists}
use Rattle.std.proofs.lemmas.List.{length-map, length-replicate, get_or-map, get_or-set_other, take-append-drop}
use Rattle.std.proofs.lemmas.Option.{slice_get-get_or, same_Some}
use Rattle.std.proofs.Math.ListN.{length-set}
use Rattle.std.proofs.lemmas.Bool.{eqb-false}
use Rattle.std.proofs.lemmas.Bool.Decides.{Decides-eqb}
use Rattle.std.specs.Prelude.{ℤ, All, Option, Some, None, slice_get, slice_set, slice_index_or, replicate}
use Rattle.homeo_syntax.specs.Source as s
use Rattle.homeo_syntax.specs.SourceView.{plain_workload}
use Rattle.homeo_syntax.specs.declared.phrase.Ident.{Ident}
use Rattle.homeo_syntax.specs.declared.workload.Workload.{Workload}
use Rattle.homeo_meaning.specs.declared.call.CallId.{CallId}
use Rattle.homeo_meaning.specs.CallRules.{times}
use Rattle.homeo_meaning.specs.Initial.{initial}
use Rattle.homeo_meaning.specs.Declarations.{place_of}
use Rattle.homeo_history.specs.Answers.{Answer}
use Rattle.homeo_history.specs.Follows.{Follows}
use Rattle.homeo_history.specs.History.{History}
use Rattle.homeo_history.specs.Legal.{IsFull, IsLegalFrom, call_count}
use Rattle.homeo_history.specs.Key.{definitions as history_definitions}
use Rattle.homeo_core.specs.CoreView.{CoreValue, core_at, core_history, start_of, next_call, GoesOnBy, IsStep}
use Rattle.homeo_core.specs.Key.{definitions as core_definitions}
use Rattle.homeo_order.specs.Key.{definitions}
use Rattle.homeo_order.specs.Order.{calls_from, client_names, order_of, scheduled_calls}
use Rattle.homeo_order.specs.Scheduled.{IsWholeOrder}
use Rattle.homeo_steps.specs.inner.Stepped.{HasMade}
use Rattle.homeo_order.proofs.Scheduling.{calls_from-snoc, named_there, times-snoc, has_left, past_the_last}

-- ---- the counts
-- the places of two names are equal where the names are
same_name : (w : s.Workload) (m n : ℕ) → place_of (client_names w) m < length w.clients → place_of (client_names w) m ≡ place_of (client_names w) n → m ≡ n
unfolding definitions
same_name w m n less e =
    let many : length (client_names w) ≡ length w.clients = length-map w.clients (λ (c : s.Client). c.name.name) in
    sym (named_there (client_names w) m 0 (omega (arith, less, many))) ∙ ap (λ (i : ℕ). get_or (client_names w) i 0) e
    ∙ named_there (client_names w) n 0 (omega (arith, less, many, e))

module _ (w : s.Workload) (counts : List ℕ) (names : List Ident) (x : Ident) (size : length counts ≡ length w.clients) (named : place_of (client_names w) x.name < length w.clients)
    (counted : (n : ℕ) → place_of (client_names w) n < length w.clients → slice_index_or counts (place_of (client_names w) n) 0 ≡ times n names) where
  place : ℕ → ℕ
  place n = place_of (client_names w) n

  counted_at : (b : Bool) (n : ℕ) → place n < length w.clients → (x.name == n) ≡ b → slice_index_or (slice_set counts (place x.name) (suc (slice_index_or counts (place x.name) 0))) (place n) 0 ≡ times n names + cond b 1 0
  unfolding place
  counted_at true n less e =
      let same : x.name ≡ n = (Decides-eqb x.name n).0 e in
      let at = get_or-set_at counts (place x.name) (place n) (suc (slice_index_or counts (place x.name) 0)) 0 (ap place (sym same)) (omega (arith, named, size)) in
      let here : slice_index_or counts (place x.name) 0 ≡ times n names = counted x.name named ∙ ap (λ (m : ℕ). times m names) same in
      at ∙ omega (arith, here)
  counted_at false n less e =
      let other : place n ≢ place x.name = λ p. eqb-false x.name n e (sym (same_name w n x.name less p)) in
      let zero_more : times n names ≡ times n names + 0 = omega arith in
      get_or-set_other counts (place x.name) (place n) (suc (slice_index_or counts (place x.name) 0)) 0 other ∙ counted n less ∙ zero_more

  pub counted_more : (n : ℕ) → place_of (client_names w) n < length w.clients
      → slice_index_or (slice_set counts (place_of (client_names w) x.name) (suc (slice_index_or counts (place_of (client_names w) x.name) 0))) (place_of (client_names w) n) 0 ≡ times n (names ++ x ∷ [])
  unfolding place
  counted_more n less = counted_at (x.name == n) n less refl ∙ sym (times-snoc n names x)

-- ---- one step more
made_more : (w : s.Workload) (base : List ℤ) (x x' : CoreValue) (a : Answer) (names : List Ident) (name : Ident) → HasMade w base names x → place_of (client_names w) name.name < length w.clients
    → IsStep x (place_of (client_names w) name.name) a x' → start_of x'.book ≡ start_of x.book
    → GoesOnBy (plain_workload x.work) (core_history x) (next_call x (place_of (client_names w) name.name)) (core_history x') → HasMade w base (names ++ name ∷ []) x'
unfolding core_definitions
made_more w base x x' a names name made named step start goes =
    let client = place_of (client_names w) name.name in
    let work : plain_workload x.work ≡ w = made.work in
    let count : slice_index_or x.counts client 0 ≡ times name.name names = made.counted name.name named in
    let calls : List CallId = calls_from (client_names w) [] names in
    let more : ℕ → List CallId = λ (n : ℕ). calls ++ record { client = client; seq = suc n } ∷ [] in
    let list : more (slice_index_or x.counts client 0) ≡ calls_from (client_names w) [] (names ++ name ∷ []) = ap more count ∙ sym (calls_from-snoc (client_names w) [] names name) in
    let followed = subst (λ (v : s.Workload). GoesOnBy v (core_history x) (next_call x client) (core_history x')) work goes calls made.follows in
    record {
      work = ap plain_workload step.work ∙ work;
      start = start ∙ made.start;
      size = ap length step.counts ∙ length-set x.counts client (suc (slice_index_or x.counts client 0)) ∙ made.size;
      counted = λ n less. ap (λ (l : List ℕ). slice_index_or l (place_of (client_names w) n) 0) step.counts ∙ counted_more w x.counts names name made.size named made.counted n less;
      follows = subst (Follows w (core_history x')) list followed;
    }

-- the client has a call left
left_here : (w : s.Workload) (base : List ℤ) (x : CoreValue) (before names : List Ident) (name : Ident) → HasMade w base before x → IsWholeOrder w → before ++ name ∷ names ≡ order_of w.schedule
    → place_of (client_names w) name.name < length w.clients → slice_index_or x.counts (place_of (client_names w) name.name) 0 < call_count (plain_workload x.work) (place_of (client_names w) name.name)
left_here w base x before names name made order whole named =
    let count : slice_index_or x.counts (place_of (client_names w) name.name) 0 ≡ times name.name before = made.counted name.name named in
    let there = has_left w before names name order whole named in
    let same = ap (λ (v : s.Workload). call_count v (place_of (client_names w) name.name)) made.work in
    omega (arith, count, there, same)

-- ---- the next name of the order
-- what is read at a place doesn't depend on what stands for no place
pub read_again : (order : List Ident) (i : ℕ) (d : Ident) → i < length order → get_or order i d ≡ get_or order i (get_or order i d)
read_again order i d within = grind (arith, common_steps)

named_next : (w : s.Workload) (order : List Ident) (i : ℕ) (name : Ident) → IsWholeOrder w → order ≡ order_of w.schedule → i < length order → name ≡ get_or order i name
    → place_of (client_names w) name.name < length w.clients
named_next w order i name whole is within at =
    let all : All (λ (x : Ident). place_of (client_names w) x.name < length w.clients) order = subst (All (λ (x : Ident). place_of (client_names w) x.name < length w.clients)) (sym is) whole.named in
    subst (λ (x : Ident). place_of (client_names w) x.name < length w.clients) (sym at) (all i name within)

pub client_there : (w : s.Workload) (order : List Ident) (i : ℕ) (name : Ident) (client : ℕ) → IsWholeOrder w → order ≡ order_of w.schedule → i < length order → name ≡ get_or order i name
    → client ≡ place_of (client_names w) name.name → client < length w.clients
client_there w order i name client whole is within at place =
    subst (λ (k : ℕ). k < length w.clients) (sym place) (named_next w order i name whole is within at)

cut_at : (order : List Ident) (i : ℕ) (name : Ident) → i < length order → name ≡ get_or order i name → take i order ++ name ∷ drop (i + 1) order ≡ order
cut_at order i name within at =
    let here : drop i order ≡ name ∷ drop (i + 1) order = grind (arith, common_steps) in
    ap (λ (l : List Ident). take i order ++ l) (sym here) ∙ take-append-drop i order

next_name : (order : List Ident) (i : ℕ) (name : Ident) → i < length order → name ≡ get_or order i name → take i order ++ name ∷ [] ≡ take (i + 1) order
next_name order i name within at = grind (arith, common_steps)

-- the client that it names has a call left
pub left_next : (w : s.Workload) (base : List ℤ) (x : CoreValue) (order : List Ident) (i : ℕ) (name : Ident) (client : ℕ) → HasMade w base (take i order) x → IsWholeOrder w → order ≡ order_of w.schedule → i < length order → name ≡ get_or order i name
    → client ≡ place_of (client_names w) name.name → slice_index_or x.counts client 0 < call_count (plain_workload x.work) client
left_next w base x order i name client made whole is within at place =
    subst (λ (k : ℕ). slice_index_or x.counts k 0 < call_count (plain_workload x.work) k) (sym place)
    (left_here w base x (take i order) (drop (i + 1) order) name made whole (cut_at order i name within at ∙ is) (named_next w order i name whole is within at))

-- and after this call one name more is done
pub made_next : (w : s.Workload) (base : List ℤ) (x x' : CoreValue) (a : Answer) (order : List Ident) (i : ℕ) (name : Ident) (client : ℕ) → HasMade w base (take i order) x → IsWholeOrder w → order ≡ order_of w.schedule → i < length order → name ≡ get_or order i name
    → client ≡ place_of (client_names w) name.name → IsStep x client a x' → start_of x'.book ≡ start_of x.book → GoesOnBy (plain_workload x.work) (core_history x) (next_call x client) (core_history x')
    → HasMade w base (take (i + 1) order) x'
made_next w base x x' a order i name client made whole is within at place step start goes =
    subst (λ (l : List Ident). HasMade w base l x') (next_name order i name within at)
    (made_more w base x x' a (take i order) name made (named_next w order i name whole is within at) (subst (λ (k : ℕ). IsStep x k a x') place step) start
    (subst (λ (k : ℕ). GoesOnBy (plain_workload x.work) (core_history x) (next_call x k) (core_history x')) place goes))

-- all names are done
pub all_made : (w : s.Workload) (base : List ℤ) (x : CoreValue) (order : List Ident) (i : ℕ) → HasMade w base (take i order) x → order ≡ order_of w.schedule → length order ≤ i → HasMade w base (order_of w.schedule) x
all_made w base x order i made is past =
    let all : take i order ≡ order = grind (arith, common_steps) in
    subst (λ (l : List Ident). HasMade w base l x) (all ∙ is) made

-- ---- all calls
-- how many calls each client has
calls_each : s.Workload → List ℕ
calls_each w = map (λ (c : s.Client). length c.calls) w.clients

count_at : (w : s.Workload) (counts : List ℕ) (k : ℕ) → IsWholeOrder w → k < length w.clients
    → ((n : ℕ) → place_of (client_names w) n < length w.clients → slice_index_or counts (place_of (client_names w) n) 0 ≡ times n (order_of w.schedule))
    → (found : Option s.Client) → slice_get w.clients k ≡ found → slice_index_or counts k 0 ≡ get_or (calls_each w) k 0
unfolding calls_each
count_at w counts k order less counted None is = absurd (omega (arith, past_the_last w.clients k is, less))
count_at w counts k order less counted (Some c) is =
    let here : place_of (client_names w) c.name.name ≡ k = order.placed k c is in
    let there : get_or w.clients k c ≡ c = same_Some _ _ (sym (slice_get-get_or w.clients k c less) ∙ is) in
    ap (λ (j : ℕ). slice_index_or counts j 0) (sym here) ∙ counted c.name.name (omega (arith, here, less)) ∙ order.whole k c is
    ∙ ap (λ (c : s.Client). length c.calls) (sym there) ∙ sym (get_or-map (λ (c : s.Client). length c.calls) w.clients k c 0 less)

all_counted : (w : s.Workload) (counts : List ℕ) → IsWholeOrder w → length counts ≡ length w.clients
    → ((n : ℕ) → place_of (client_names w) n < length w.clients → slice_index_or counts (place_of (client_names w) n) 0 ≡ times n (order_of w.schedule))
    → counts ≡ map (λ (c : s.Client). length c.calls) w.clients
unfolding calls_each
all_counted w counts order size counted =
    let many : length (calls_each w) ≡ length w.clients = length-map w.clients (λ (c : s.Client). length c.calls) in
    same_number_lists counts (calls_each w) (size ∙ sym many) (λ k less. count_at w counts k order (omega (arith, less, size)) counted (slice_get w.clients k) refl)

-- what is legal after all names is full
pub is_full : (w : s.Workload) (base : List ℤ) (x : CoreValue) (h : History) → IsWholeOrder w → HasMade w base (order_of w.schedule) x → IsLegalFrom (plain_workload x.work) (start_of x.book) x.counts h → IsLegalFrom w base (map (λ (c : s.Client). length c.calls) w.clients) h
unfolding history_definitions
is_full w base x h order made legal =
    let counts : x.counts ≡ map (λ (c : s.Client). length c.calls) w.clients = all_counted w x.counts order made.size made.counted in
    let at_work = subst (λ (v : s.Workload). IsLegalFrom v (start_of x.book) x.counts h) made.work legal in
    let at_start = subst (λ (b : List ℤ). IsLegalFrom w b x.counts h) made.start at_work in
    subst (λ (l : List ℕ). IsLegalFrom w base l h) counts at_start

pub does_follow : (w : s.Workload) (base : List ℤ) (x : CoreValue) (h : History) → HasMade w base (order_of w.schedule) x → h ≡ core_history x → Follows w h (scheduled_calls w)
unfolding definitions
does_follow w base x h made is = subst (λ (g : History). Follows w g (scheduled_calls w)) (sym is) made.follows

-- ---- the start
none_made : (xs : List s.Client) (k : ℕ) → ◌≡◌ {A = ℕ} (get_or (replicate (length xs) 0) k 0) 0
none_made xs k = grind (arith, common_steps)

pub none_yet : (v : Workload) (base : List ℤ) (x : CoreValue) → x ≡ core_at v base → Follows (plain_workload v) (core_history x) [] → HasMade (plain_workload v) base [] x
unfolding core_definitions definitions history_definitions
none_yet v base x is follows =
    let w = plain_workload v in
    record {
      work = ap (λ (y : CoreValue). plain_workload y.work) is;
      start = ap (λ (y : CoreValue). start_of y.book) is;
      size = ap (λ (y : CoreValue). length y.counts) is ∙ length-replicate (length w.clients) 0;
      counted = λ n less. ap (λ (y : CoreValue). slice_index_or y.counts (place_of (client_names w) n) 0) is ∙ none_made w.clients (place_of (client_names w) n);
      follows = follows;
    }

-- a history of all calls that is legal from the initial database is full
pub full_from : (w : s.Workload) (base : List ℤ) (h : History) → base ≡ initial w → IsLegalFrom w base (map (λ (c : s.Client). length c.calls) w.clients) h → IsFull w h
unfolding history_definitions
full_from w base h is legal = subst (λ (b : List ℤ). IsLegalFrom w b (map (λ (c : s.Client). length c.calls) w.clients) h) is legal
