-- The calls of a load, run one after another, add up.
use Rattle.std.proofs.Common.{◌≡◌, ◌≤◌, ℕ, ◌+◌, Bool, true, false, cond, List, [], ◌∷◌, length, ℤ, pos, Option, Some, None, refl, sym, ap, ap₂, ◌∙◌, arith}
use Rattle.std.specs.Prelude.{All, ◌==◌, sum_by, option_map, IfSome}
use Rattle.std.specs.Option.{option_map_or}
use Rattle.std.proofs.lemmas.List.Sums.{sum_by-cons}
use Rattle.homeo_meaning.specs.Key.{definitions as meaning_definitions}
use Rattle.homeo_meaning.specs.declared.call.CallId.{CallId}
use Rattle.homeo_meaning.specs.Serial.{Outcome, SerialRun, outcome_of, call_outcome, serial}
use Rattle.homeo_load.specs.Key.{definitions}
use Rattle.homeo_load.specs.Additions.{Addition}
use Rattle.homeo_load.specs.Load.{load_call, load_of}
use Rattle.homeo_load.specs.Sums.{added_to}
use Rattle.homeo_load.proofs.DrawnAdditions.{IsAddition}
use Rattle.homeo_load.proofs.Adding.{database_of, same_database, adds}
use Rattle.homeo_load.proofs.Ids.{addition_of, addition_fits, call_is}
use Rattle.homeo_load.proofs.ByClients.{weight}

abbrev pub one_print : Addition → ℕ
one_print a = 1

abbrev pub prints_of : Option Addition → List ℤ
prints_of None = []
prints_of (Some a) = pos a.number ∷ []

module _ (all : List Addition) (fits : All IsAddition all) where
  -- what call id adds
  abbrev pub number_of : CallId → ℕ
  number_of = weight all (λ a. a.number)

  abbrev pub adds_to : ℕ → CallId → ℕ
  adds_to i = weight all (added_to i)

  abbrev pub print_of : CallId → ℕ
  print_of = weight all one_print

  abbrev pub after : (ℕ → ℕ) → List CallId → ℕ → ℕ
  after f ids i = f i + sum_by (adds_to i) ids

  -- the database has room for what is still to be added
  abbrev pub HasRoom : (ℕ → ℕ) → List CallId → Type 0
  HasRoom f ids = (i : ℕ) → f i + sum_by number_of ids ≤ 1000000

  outcome_by : (f : ℕ → ℕ) (o : Option Addition) → IfSome o IsAddition → ((i : ℕ) → f i + option_map_or (λ a. a.number) o 0 ≤ 1000000)
      → outcome_of (load_of all) (option_map load_call o) (database_of f) ≡ record { prints = prints_of o; database = database_of (λ i. f i + option_map_or (added_to i) o 0) }
  unfolding meaning_definitions definitions
  outcome_by f None a room =
      let same : database_of f ≡ database_of (λ i. f i + 0) = same_database f (λ i. f i + 0) (λ i. omega arith) in
      ap (λ (d : List ℤ). record { prints = []; database = d }) same
  outcome_by f (Some x) a room = adds all f x.number x.object a.object (room x.object)

  pub outcome_is : (f : ℕ → ℕ) (id : CallId) → ((i : ℕ) → f i + number_of id ≤ 1000000)
      → call_outcome (load_of all) id (database_of f) ≡ record { prints = prints_of (addition_of all id); database = database_of (λ i. f i + adds_to i id) }
  unfolding meaning_definitions
  outcome_is f id room =
      ap (λ o. outcome_of (load_of all) o (database_of f)) (call_is all id) ∙ outcome_by f (addition_of all id) (addition_fits all fits id) room

  pub print_count : (o : Option Addition) → length (prints_of o) ≡ option_map_or one_print o 0
  print_count None = refl
  print_count (Some a) = refl

  added_if : (b : Bool) (n : ℕ) → cond b n 0 ≤ n
  added_if true n = omega arith
  added_if false n = omega arith

  added_by : (i : ℕ) (o : Option Addition) → option_map_or (added_to i) o 0 ≤ option_map_or (λ (a : Addition). a.number) o 0
  added_by i None = omega arith
  added_by i (Some a) = added_if (a.object == i) a.number

  pub added_most : (i : ℕ) (id : CallId) → adds_to i id ≤ number_of id
  added_most i id = added_by i (addition_of all id)

  -- ---- one after another
  pub record AddsUp (f : ℕ → ℕ) (ids : List CallId) (r : SerialRun) : Type 0 where
    pub database : r.database ≡ database_of (after f ids)
    pub prints : sum_by length r.logs ≡ sum_by print_of ids

  pub serial_adds : (ids : List CallId) (f : ℕ → ℕ) → HasRoom f ids → AddsUp f ids (serial (load_of all) (database_of f) ids)
  unfolding meaning_definitions
  serial_adds [] f room = record { database = same_database f (after f []) (λ i. omega arith); prints = refl }
  serial_adds (id ∷ ids) f room =
      let here : call_outcome (load_of all) id (database_of f) ≡ record { prints = prints_of (addition_of all id); database = database_of (λ i. f i + adds_to i id) } = outcome_is f id (λ i. omega (arith, room i, sum_by-cons number_of id ids)) in
      let g : ℕ → ℕ = λ i. f i + adds_to i id in
      let more : AddsUp g ids (serial (load_of all) (database_of g) ids) = serial_adds ids g (λ i. omega (arith, room i, sum_by-cons number_of id ids, added_most i id)) in
      let first : (call_outcome (load_of all) id (database_of f)).database ≡ database_of g = ap (λ (o : Outcome). o.database) here in
      let log : length (call_outcome (load_of all) id (database_of f)).prints ≡ print_of id = ap (λ (o : Outcome). length o.prints) here ∙ print_count (addition_of all id) in
      let rest : serial (load_of all) (call_outcome (load_of all) id (database_of f)).database ids ≡ serial (load_of all) (database_of g) ids = ap (λ d. serial (load_of all) d ids) first in
      record {
        database = ap (λ (r : SerialRun). r.database) rest ∙ more.database ∙ same_database (after g ids) (after f (id ∷ ids)) (λ i. omega (arith, sum_by-cons (adds_to i) id ids));
        prints = sum_by-cons length (call_outcome (load_of all) id (database_of f)).prints (serial (load_of all) (call_outcome (load_of all) id (database_of f)).database ids).logs ∙ ap₂ (λ (a b : ℕ). a + b) log (ap (λ (r : SerialRun). sum_by length r.logs) rest ∙ more.prints) ∙ sym (sum_by-cons print_of id ids);
      }
