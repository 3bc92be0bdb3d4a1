-- From an accepted workload to its calls.
use Rattle.std.proofs.Common.{◌≡◌, ℕ, ◌+◌, ◌<◌, ◌≤◌, Bool, true, false, cond, ℤ, pos, Option, Some, List, [], ◌∷◌, ◌++◌, map, length, drop, get_or, refl, sym, ap, ◌∙◌, subst, add-one, append_assoc, drop_of_length-le}
use Rattle.std.proofs.Math.Seq.{drop-cons}
use Rattle.std.specs.Prelude.{slice_get}
use Rattle.std.proofs.lemmas.List.{append-nil}
use Rattle.homeo_syntax.specs.Source as s
use Rattle.homeo_syntax.specs.declared.workload.RangeDecl.{RangeDecl}
use Rattle.homeo_context.specs.declared.arguments.Argument.{Argument}
use Rattle.homeo_meaning.specs.declared.call.CallId.{CallId}
use Rattle.homeo_meaning.specs.Key.{definitions}
use Rattle.homeo_meaning.specs.Schema.{Schema, schema_of}
use Rattle.homeo_meaning.specs.Bounds.{IsWithin, AllWithin}
use Rattle.homeo_meaning.specs.Context.{Context, arguments_of, context}
use Rattle.homeo_meaning.specs.Meaning.{State, Run, after_prints, does_all}
use Rattle.homeo_meaning.specs.LForm.{l_form}
use Rattle.homeo_meaning.specs.LowWeights.{first_weights, is_light}
use Rattle.homeo_meaning.specs.Small.{IsSmall}
use Rattle.homeo_meaning.specs.Computed.{CanRunAll}
use Rattle.homeo_eval.specs.inner.BodyRuns.{run_in, body_run}
use Rattle.homeo_eval.specs.inner.CanRun.{can_run_all}
use Rattle.homeo_meaning.specs.Acceptance.{weight_limit, IsLightBody}
use Rattle.homeo_meaning.specs.Declarations.{Declarations, declarations, place_of}
use Rattle.homeo_eval.specs.inner.States.{run_of}
use Rattle.homeo_context.specs.Contexts.{call_context}
use Rattle.homeo_meaning.specs.Serial.{start}
use Rattle.homeo_meaning.specs.Serial.{values_of, database_like, call_of, transaction_named, arguments, outcome_at, outcome_of, call_outcome, serial}
use Rattle.homeo_eval.proofs.Fits.{runs_fit}
use Rattle.homeo_lform.proofs.Light.{light_law}
use Rattle.homeo_lform.proofs.Stays.{bounds_law}
use Rattle.homeo_meaning.proofs.Sound.{IsSound}
use Rattle.homeo_eval.proofs.States.{state_with}
use Rattle.homeo_meaning.proofs.ValueLists.{like_itself}
use Rattle.homeo_meaning.proofs.Within.{all_within, list_in}
use Rattle.homeo_meaning.proofs.LightCalls.{call_light}
use Rattle.homeo_meaning.proofs.TransactionPlaces.{transaction_place}

-- a context by its schema and what it gives to names
abbrev with_arguments : Schema → (ℕ → Option ℤ) → Context
unfolding definitions
with_arguments x f = record { schema = x; arguments = f; rows = (context x [] []).rows }

context_is : (w : s.Workload) (params : List RangeDecl) (args : List ℤ) (given : List Argument) → arguments_of (map (λ a. a.name) given) (map (λ a. a.value) given) ≡ arguments_of (map (λ p. p.name.name) params) args → context (schema_of w) (map (λ p. p.name.name) params) args ≡ call_context (declarations w) given
unfolding definitions
context_is w params args given g = λ i. with_arguments (schema_of w) (sym g i)

-- what is known of a body whose L form is light
pub record BodyRuns (x : Schema) (params : List ℕ) (args : List ℤ) (body : s.Commands) (db : List ℤ) : Type 0 where
  pub small : CanRunAll (IsSmall weight_limit) (IsSmall weight_limit) (context x params args) body (start db)
  pub can : can_run_all weight_limit (context x params args) body (start db) ≡ true
  pub within : IsWithin x (database_like db (run_in (context x params args) body db).state.database)

pub body_runs : (x : Schema) (params : List ℕ) (args : List ℤ) (body : s.Commands) (db : List ℤ) → IsWithin x db → is_light weight_limit (l_form x params args body) (first_weights x) ≡ true → BodyRuns x params args body db
unfolding definitions
body_runs x params args body db within light =
    let all : AllWithin x (values_of db) = all_within x db within in
    let small = (light_law weight_limit x params args body (values_of db) all light).program in
    record {
      small = small;
      can = runs_fit (IsSmall weight_limit) weight_limit (context x params args) body (start db) small;
      within = list_in x db (run_in (context x params args) body db).state.database within (bounds_law x params args body (values_of db) all);
    }

-- what stands of the transaction at a place, for its body cs, with these arguments on the database db
pub record TransactionRuns (w : s.Workload) (place : ℕ) (args : List ℤ) (d : Declarations) (given : List Argument) (cs : s.Commands) (db : List ℤ) : Type 0 where
  pub can : can_run_all weight_limit (call_context d given) cs (start db) ≡ true
  pub within : IsWithin d.schema db
  pub after : IsWithin d.schema (database_like db (body_run d given cs db).state.database)
  pub outcome : record { prints = (body_run d given cs db).prints; database = database_like db (body_run d given cs db).state.database } ≡ outcome_at w (slice_get w.transactions place) args db

own_body : (w : s.Workload) (t : s.Transaction) (place : ℕ) (args : List ℤ) (given : List Argument) (db : List ℤ) → slice_get w.transactions place ≡ Some t → arguments_of (map (λ a. a.name) given) (map (λ a. a.value) given) ≡ arguments_of (map (λ p. p.name.name) t.params) args → IsLightBody w (slice_get w.transactions place) args → IsWithin (schema_of w) db → TransactionRuns w place args (declarations w) given t.body db
unfolding definitions
own_body w t place args given db e g light within =
    let params : List ℕ = map (λ p. p.name.name) t.params in
    let x = context_is w t.params args given g in
    let l : is_light weight_limit (l_form (schema_of w) params args t.body) (first_weights (schema_of w)) ≡ true = subst (λ o. IsLightBody w o args) e light in
    let runs = body_runs (schema_of w) params args t.body db within l in
    record {
      can = subst (λ x. can_run_all weight_limit x t.body (start db) ≡ true) x runs.can;
      within = within;
      after = subst (λ x. IsWithin (schema_of w) (database_like db (run_in x t.body db).state.database)) x runs.within;
      outcome = sym (ap (λ o. outcome_at w o args db) e ∙ (λ i. record { prints = (run_in (x i) t.body db).prints; database = database_like db (run_in (x i) t.body db).state.database }));
    }

pub transaction_runs : (w : s.Workload) (t : s.Transaction) (place : ℕ) (args : List ℤ) (d : Declarations) (given : List Argument) (cs : s.Commands) (db : List ℤ) → slice_get w.transactions place ≡ Some t → arguments_of (map (λ a. a.name) given) (map (λ a. a.value) given) ≡ arguments_of (map (λ p. p.name.name) t.params) args → d ≡ declarations w → cs ≡ t.body → IsLightBody w (slice_get w.transactions place) args → IsWithin (schema_of w) db → TransactionRuns w place args d given cs db
transaction_runs w t place args d given cs db e g p q light within =
    subst (λ d. TransactionRuns w place args d given cs db) (sym p) (subst (λ cs. TransactionRuns w place args (declarations w) given cs db) (sym q) (own_body w t place args given db e g light within))

-- a run from an empty list of prints
pub body_ran : (d : Declarations) (given : List Argument) (cs : s.Commands) (db copy : List ℤ) (temps : ℕ → ℤ) (ps qs : List ℤ) (r : State) (v : Bool) → copy ≡ db → ((n : ℕ) → temps n ≡ pos 0) → qs ≡ [] → run_of r ps v ≡ after_prints qs (does_all (call_context d given) cs (state_with copy temps)) → run_of r ps v ≡ does_all (call_context d given) cs (start db)
unfolding definitions
body_ran d given cs db copy temps ps qs r v p q z e = e ∙ (λ i. after_prints (z i) (does_all (call_context d given) cs (state_with (p i) (λ n. q n i))))

-- the database after a call that goes on to its end, and after one that is ended
pub settles_on : (after : Run) (s : State) (ps : List ℤ) (v : Bool) (db xs : List ℤ) → run_of s ps v ≡ after → v ≡ false → length xs ≡ length db → values_of xs ≡ s.database → xs ≡ database_like db (cond after.ended (values_of db) after.state.database)
unfolding definitions
settles_on after s ps v db xs e on len same =
    let goes_on : after.ended ≡ false = sym (ap (λ (r : Run). r.ended) e) ∙ on in
    like_itself db xs (cond after.ended (values_of db) after.state.database) len
    (same ∙ ap (λ (r : Run). r.state.database) e ∙ sym (ap (λ w. cond w (values_of db) after.state.database) goes_on))

pub settles_back : (after : Run) (s : State) (ps : List ℤ) (v : Bool) (db xs : List ℤ) → run_of s ps v ≡ after → v ≡ true → xs ≡ db → xs ≡ database_like db (cond after.ended (values_of db) after.state.database)
unfolding definitions
settles_back after s ps v db xs e ended same =
    let up : after.ended ≡ true = sym (ap (λ (r : Run). r.ended) e) ∙ ended in
    same ∙ like_itself db db (cond after.ended (values_of db) after.state.database) refl (sym (ap (λ w. cond w (values_of db) after.state.database) up))

pub body_starts : (db copy : List ℤ) (temps : ℕ → ℤ) → copy ≡ db → ((n : ℕ) → temps n ≡ pos 0) → start db ≡ state_with copy temps
unfolding definitions
body_starts db copy temps p q = sym (λ i. state_with (p i) (λ n. q n i))

-- a client's call, by the place of its transaction
pub record PlacedCall (w : s.Workload) (id : CallId) (place : ℕ) (args : List ℤ) : Type 0 where
  pub light : IsLightBody w (slice_get w.transactions place) args
  pub outcome : (db : List ℤ) → outcome_at w (slice_get w.transactions place) args db ≡ call_outcome w id db

pub placed_call : (w : s.Workload) (id : CallId) (c : s.Call) (d : Declarations) (place : ℕ) (args : List ℤ) → IsSound w → call_of w id ≡ Some c → d ≡ declarations w → place ≡ place_of d.transactions c.name.name → args ≡ arguments c → PlacedCall w id place args
unfolding definitions
placed_call w id c d place args sound made e p a =
    let named : slice_get w.transactions place ≡ transaction_named w c.name.name = ap (slice_get w.transactions) (p ∙ ap (λ d. place_of d.transactions c.name.name) e) ∙ transaction_place w c.name.name in
    record {
      light = subst (IsLightBody w (slice_get w.transactions place)) (sym a) (subst (λ t. IsLightBody w t (arguments c)) (sym named) (call_light w id c sound made));
      outcome = λ db. (λ i. outcome_at w (named i) (a i) db) ∙ sym (ap (λ o. outcome_of w o db) made);
    }

-- ---- calls one after another
pub record SerialStep (w : s.Workload) (db after : List ℤ) (ids : List CallId) (i : ℕ) (before : List (List ℤ)) (prints : List ℤ) : Type 0 where
  pub logs : (before ++ prints ∷ []) ++ (serial w after (drop (i + 1) ids)).logs ≡ before ++ (serial w db (drop i ids)).logs
  pub last : (serial w after (drop (i + 1) ids)).database ≡ (serial w db (drop i ids)).database

serial_more : (w : s.Workload) (db : List ℤ) (id : CallId) (ids : List CallId) → serial w db (id ∷ ids) ≡ record { logs = (call_outcome w id db).prints ∷ (serial w (call_outcome w id db).database ids).logs; database = (serial w (call_outcome w id db).database ids).database }
unfolding definitions
serial_more w db id ids = refl

pub serial_step : (w : s.Workload) (db after : List ℤ) (ids : List CallId) (i : ℕ) (none : CallId) (before : List (List ℤ)) (prints : List ℤ) → i < length ids → prints ≡ (call_outcome w (get_or ids i none) db).prints → after ≡ (call_outcome w (get_or ids i none) db).database → SerialStep w db after ids i before prints
serial_step w db after ids i none before prints h q r =
    let rest : List CallId = drop (i + 1) ids in
    let id : CallId = get_or ids i none in
    let next : drop i ids ≡ id ∷ rest = rw add-one (drop-cons ids i none h) in
    let whole = ap (serial w db) next ∙ serial_more w db id rest in
    record {
      logs = append_assoc before (prints ∷ []) (serial w after rest).logs ∙ (λ j. before ++ q j ∷ (serial w (r j) rest).logs) ∙ ap (λ s. before ++ s.logs) (sym whole);
      last = (λ j. (serial w (r j) rest).database) ∙ ap (λ s. s.database) (sym whole);
    }

serial_none : (w : s.Workload) (db : List ℤ) → serial w db [] ≡ record { logs = []; database = db }
unfolding definitions
serial_none w db = refl

pub record SerialEnd (w : s.Workload) (db : List ℤ) (ids : List CallId) (i : ℕ) (before : List (List ℤ)) : Type 0 where
  pub logs : before ≡ before ++ (serial w db (drop i ids)).logs
  pub last : db ≡ (serial w db (drop i ids)).database

pub serial_end : (w : s.Workload) (db : List ℤ) (ids : List CallId) (i : ℕ) (before : List (List ℤ)) → length ids ≤ i → SerialEnd w db ids i before
serial_end w db ids i before h =
    let whole = ap (serial w db) (drop_of_length-le ids h) ∙ serial_none w db in
    record { logs = sym (ap (λ s. before ++ s.logs) whole ∙ append-nil before); last = sym (ap (λ s. s.database) whole) }
