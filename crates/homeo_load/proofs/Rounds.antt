-- The rounds of a legal history of a load add up.
use Rattle.std.proofs.Common.{◌≡◌, ◌≤◌, ℕ, ◌+◌, List, [], ◌∷◌, ◌++◌, map, flat_map, length, ℤ, Option, Some, None, refl, sym, ap, ◌∙◌, subst, arith}
use Rattle.std.specs.Prelude.{All, sum_by, option_map}
use Rattle.std.specs.Option.{option_to_list}
use Rattle.std.proofs.lemmas.List.{map-append}
use Rattle.std.proofs.lemmas.List.Sums.{sum_by-cons, sum_by-append, sum_by-le-sum_by}
use Rattle.homeo_syntax.specs.Source as s
use Rattle.homeo_meaning.specs.declared.call.CallId.{CallId}
use Rattle.homeo_meaning.specs.Serial.{Outcome, SerialRun, call_outcome, serial}
use Rattle.homeo_history.specs.Key.{definitions as history_definitions}
use Rattle.homeo_history.specs.History.{Entry, Closing, Round}
use Rattle.homeo_history.specs.Legal.{entries_of, HasMerges, ClosesWith, RunsTo, base_or, AreSerial}
use Rattle.homeo_load.specs.Additions.{Addition}
use Rattle.homeo_load.specs.Load.{load_of}
use Rattle.homeo_load.proofs.DrawnAdditions.{IsAddition}
use Rattle.homeo_load.proofs.Adding.{database_of, same_database}
use Rattle.homeo_history.proofs.Choices.{sites_from, flat, merged_flat, flat_fits}
use Rattle.homeo_load.proofs.Serials.{number_of, adds_to, print_of, prints_of, print_count, after, HasRoom, outcome_is, added_most, AddsUp, serial_adds}
use Rattle.homeo_load.proofs.Ids.{addition_of}

abbrev pub calls : List Entry → List CallId
calls es = map (λ e. e.call) es

abbrev pub print_length : Entry → ℕ
print_length e = length e.prints

sum_calls : (f : CallId → ℕ) (es ts : List Entry) → sum_by f (calls (es ++ ts)) ≡ sum_by f (calls es) + sum_by f (calls ts)
sum_calls f es ts = ap (sum_by f) (map-append (λ (e : Entry). e.call) es ts) ∙ sum_by-append f (calls es) (calls ts)

sum_prints : (es : List Entry) → sum_by length (map (λ (e : Entry). e.prints) es) ≡ sum_by print_length es
sum_prints [] = refl
sum_prints (e ∷ es) = omega (arith, sum_by-cons length e.prints (map (λ (e : Entry). e.prints) es), sum_by-cons print_length e es, sum_prints es)

-- ---- the merge that takes the sites one after another
module _ (w : s.Workload) (r : Round) (last : List ℤ) (m : HasMerges w r last) where
  flat_prints : (serial w r.base (calls (flat r.segments))).logs ≡ map (λ (e : Entry). e.prints) (flat r.segments)
  unfolding history_definitions
  flat_prints = subst (λ es. (serial w r.base (calls es)).logs ≡ map (λ (e : Entry). e.prints) es) (merged_flat r.segments) (m.prints (sites_from 0 (map length r.segments)) (flat_fits r.segments))

  flat_after : (serial w r.base (calls (flat r.segments))).database ≡ last
  unfolding history_definitions
  flat_after = subst (λ es. (serial w r.base (calls es)).database ≡ last) (merged_flat r.segments) (m.database (sites_from 0 (map length r.segments)) (flat_fits r.segments))

module _ (all : List Addition) (fits : All IsAddition all) where
  -- these entries take a database of these values to the next one
  pub record Adds (f : ℕ → ℕ) (es : List Entry) (next : List ℤ) : Type 0 where
    pub database : next ≡ database_of (after all fits f (calls es))
    pub prints : sum_by print_length es ≡ sum_by (print_of all fits) (calls es)

  abbrev Room : (ℕ → ℕ) → List Entry → Type 0
  Room f es = HasRoom all fits f (calls es)

  two_parts : (f : ℕ → ℕ) (es ts : List Entry) (middle next : List ℤ) → Adds f es middle → Adds (after all fits f (calls es)) ts next → Adds f (es ++ ts) next
  two_parts f es ts middle next a b = record {
    database = b.database ∙ same_database (after all fits (after all fits f (calls es)) (calls ts)) (after all fits f (calls (es ++ ts))) (λ i. omega (arith, sum_calls (adds_to all fits i) es ts));
    prints = omega (arith, sum_by-append print_length es ts, sum_calls (print_of all fits) es ts, a.prints, b.prints);
  }

  first_room : (f : ℕ → ℕ) (es ts : List Entry) → Room f (es ++ ts) → Room f es
  first_room f es ts room i = omega (arith, room i, sum_calls (number_of all fits) es ts)

  second_room : (f : ℕ → ℕ) (es ts : List Entry) → Room f (es ++ ts) → Room (after all fits f (calls es)) ts
  second_room f es ts room i =
      let most : sum_by (adds_to all fits i) (calls es) ≤ sum_by (number_of all fits) (calls es) = sum_by-le-sum_by (adds_to all fits i) (number_of all fits) (calls es) (added_most all fits i) in
      omega (arith, room i, sum_calls (number_of all fits) es ts, most)

  -- ---- one round
  segments_add : (r : Round) (last : List ℤ) (f : ℕ → ℕ) → r.base ≡ database_of f → HasMerges (load_of all) r last → Room f (flat r.segments) → Adds f (flat r.segments) last
  segments_add r last f base m room =
      let run : AddsUp all fits f (calls (flat r.segments)) (serial (load_of all) (database_of f) (calls (flat r.segments))) = serial_adds all fits (calls (flat r.segments)) f room in
      let same : serial (load_of all) r.base (calls (flat r.segments)) ≡ serial (load_of all) (database_of f) (calls (flat r.segments)) = ap (λ d. serial (load_of all) d (calls (flat r.segments))) base in
      record {
        database = sym (flat_after (load_of all) r last m) ∙ ap (λ (u : SerialRun). u.database) same ∙ run.database;
        prints = sym (sum_prints (flat r.segments)) ∙ sym (ap (sum_by length) (flat_prints (load_of all) r last m)) ∙ ap (λ (u : SerialRun). sum_by length u.logs) same ∙ run.prints;
      }

  abbrev closing_entries : Option Closing → List Entry
  closing_entries c = option_to_list (option_map (λ (c : Closing). c.entry) c)

  closing_adds : (c : Option Closing) (last next : List ℤ) (f : ℕ → ℕ) → last ≡ database_of f → ClosesWith (load_of all) last c next → Room f (closing_entries c) → Adds f (closing_entries c) next
  unfolding history_definitions
  closing_adds None last next f base closes room = record { database = closes ∙ base ∙ same_database f (after all fits f []) (λ i. omega arith); prints = refl }
  closing_adds (Some c) last next f base closes room =
      let id : CallId = c.entry.call in
      let told : Outcome = record { prints = c.entry.prints; database = next } in
      let added : Outcome = record { prints = prints_of (addition_of all id); database = database_of (λ i. f i + adds_to all fits i id) } in
      let is : call_outcome (load_of all) id (database_of f) ≡ added = outcome_is all fits f id (λ i. omega (arith, room i)) in
      let e : told ≡ added = sym closes ∙ ap (call_outcome (load_of all) id) base ∙ is in
      record {
        database = ap (λ (o : Outcome). o.database) e ∙ same_database (λ i. f i + adds_to all fits i id) (after all fits f (id ∷ [])) (λ i. omega arith);
        prints = (let p : length c.entry.prints ≡ print_of all fits id = ap (λ (o : Outcome). length o.prints) e ∙ print_count all fits (addition_of all id) in omega (arith, p));
      }

  round_adds : (r : Round) (next : List ℤ) (f : ℕ → ℕ) → r.base ≡ database_of f → RunsTo (load_of all) r next → Room f (entries_of r) → Adds f (entries_of r) next
  unfolding history_definitions
  round_adds r next f base run room =
      let first : Adds f (flat r.segments) run.after = segments_add r run.after f base run.merges (first_room f (flat r.segments) (closing_entries r.closing) room) in
      two_parts f (flat r.segments) (closing_entries r.closing) run.after next first
      (closing_adds r.closing run.after next (after all fits f (calls (flat r.segments))) first.database run.closes (second_room f (flat r.segments) (closing_entries r.closing) room))

  -- ---- all rounds
  pub rounds_add : (rounds : List Round) (last : List ℤ) (f : ℕ → ℕ) → base_or rounds last ≡ database_of f → AreSerial (load_of all) rounds last → Room f (flat_map entries_of rounds) → Adds f (flat_map entries_of rounds) last
  unfolding history_definitions
  rounds_add [] last f base runs room = record { database = base ∙ same_database f (after all fits f []) (λ i. omega arith); prints = refl }
  rounds_add (r ∷ rounds) last f base runs room =
      let first : Adds f (entries_of r) (base_or rounds last) = round_adds r (base_or rounds last) f base runs.0 (first_room f (entries_of r) (flat_map entries_of rounds) room) in
      two_parts f (entries_of r) (flat_map entries_of rounds) (base_or rounds last) last first
      (rounds_add rounds last (after all fits f (calls (entries_of r))) first.database runs.1 (second_room f (entries_of r) (flat_map entries_of rounds) room))
