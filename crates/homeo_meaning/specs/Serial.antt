-- Calls of clients, run one after another on one database.
use Rattle.std.specs.Prelude.{ℕ, zero, suc, List, [], ◌∷◌, map, ℤ, pos, Option, Some, None, find, ◌==◌, slice_get, slice_index_or, length}
use Rattle.std.specs.Option.{option_and_then}
use Rattle.homeo_syntax.specs.Source as s
use Rattle.homeo_meaning.specs.declared.call.CallId.{CallId}
use Rattle.homeo_meaning.specs.Key.{definitions}
use Rattle.homeo_meaning.specs.Schema.{schema_of}
use Rattle.homeo_meaning.specs.Meaning.{State, Run, run}

-- a database's values by the numbers of its objects: 0 past its end
abbrev pub values_of : List ℤ → ℕ → ℤ
values_of database n = slice_index_or database n (pos 0)

-- n values, the first of them that of number k
abbrev pub values_from : ℕ → ℕ → (ℕ → ℤ) → List ℤ
values_from k zero values = []
values_from k (suc n) values = values k ∷ values_from (suc k) n values

-- as many values as a database has
abbrev pub database_like : List ℤ → (ℕ → ℤ) → List ℤ
unfolding definitions
database_like database values = values_from 0 (length database) values

-- where a call begins: temporaries 0
abbrev pub start : List ℤ → State
unfolding definitions
start database = record { database = values_of database; temps = λ t. pos 0 }

-- what a call prints, and the database after it
pub record Outcome : Type 0 where
  pub prints : List ℤ
  pub database : List ℤ

-- a transaction with these arguments, run alone from temporaries 0
abbrev pub outcome : s.Workload → s.Transaction → List ℤ → List ℤ → Outcome
unfolding definitions
outcome w t args database =
    let after : Run = run (schema_of w) (map (λ p. p.name.name) t.params) args t.body (values_of database) in
    record { prints = after.prints; database = database_like database after.state.database }

-- nothing is printed, and the database stays
abbrev pub no_outcome : List ℤ → Outcome
no_outcome database = record { prints = []; database = database }

-- the transaction of a number, or nothing where there is none
abbrev pub outcome_at : s.Workload → Option s.Transaction → List ℤ → List ℤ → Outcome
unfolding definitions
outcome_at w None args database = no_outcome database
outcome_at w (Some t) args database = outcome w t args database

-- the call of a client that has this number, counted from 1
abbrev pub numbered : ℕ → List s.Call → Option s.Call
numbered zero calls = None
numbered (suc n) calls = slice_get calls n

abbrev pub call_of : s.Workload → CallId → Option s.Call
unfolding definitions
call_of w id = option_and_then (λ client. numbered id.seq client.calls) (slice_get w.clients id.client)

-- the transaction of a name
abbrev pub transaction_named : s.Workload → ℕ → Option s.Transaction
unfolding definitions
transaction_named w n = find (λ t. t.name.name == n) w.transactions

abbrev pub arguments : s.Call → List ℤ
arguments c = map (λ a. a.value) c.args

abbrev pub outcome_of : s.Workload → Option s.Call → List ℤ → Outcome
unfolding definitions
outcome_of w None database = no_outcome database
outcome_of w (Some c) database = outcome_at w (transaction_named w c.name.name) (arguments c) database

-- a client's call, run alone
abbrev pub call_outcome : s.Workload → CallId → List ℤ → Outcome
unfolding definitions
call_outcome w id database = outcome_of w (call_of w id) database

-- the prints of each call, and the last database
pub record SerialRun : Type 0 where
  pub logs : List (List ℤ)
  pub database : List ℤ

-- the calls one after another
abbrev pub serial : s.Workload → List ℤ → List CallId → SerialRun
unfolding definitions
serial w database [] = record { logs = []; database = database }
serial w database (id ∷ ids) =
    let first : Outcome = call_outcome w id database in
    let rest : SerialRun = serial w first.database ids in
    record { logs = first.prints ∷ rest.logs; database = rest.database }
