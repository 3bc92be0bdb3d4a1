-- One call of a load, run on a database that it does not lead out of its bounds.
use Rattle.std.proofs.Common.{◌≡◌, ◌<◌, ◌≤◌, ℕ, ◌+◌, Bool, true, false, cond, List, [], ◌∷◌, map, ℤ, pos, refl, ap, ◌∙◌, arith}
use Rattle.std.specs.Prelude.{◌==◌, ◌&&◌, ◌+ℤ◌, int_le}
use Rattle.std.proofs.lemmas.Bool.Decides.{nat_tests}
use Rattle.homeo_meaning.specs.Key.{definitions as meaning_definitions}
use Rattle.homeo_meaning.specs.Meaning.{State, changed, set_object}
use Rattle.homeo_meaning.specs.Serial.{Outcome, values_of, values_from, database_like, outcome_at, transaction_named}
use Rattle.homeo_load.specs.Key.{definitions}
use Rattle.homeo_load.specs.Additions.{Addition}
use Rattle.homeo_load.specs.Load.{transaction_name, load_of, eight}
use Rattle.homeo_load.proofs.Cases.{by_eight}

-- the database whose objects have these values
abbrev pub database_of : (ℕ → ℕ) → List ℤ
database_of f = map (λ i. pos (f i)) eight

pub same_database : (f g : ℕ → ℕ) → ((i : ℕ) → f i ≡ g i) → database_of f ≡ database_of g
same_database f g e = λ t. map (λ i. pos (e i t)) eight

-- ---- the values
value_at : (f : ℕ → ℕ) (i : ℕ) → i < 8 → values_of (database_of f) i ≡ pos (f i)
value_at f = by_eight (λ i. values_of (database_of f) i ≡ pos (f i)) refl refl refl refl refl refl refl refl

read_back : (h : ℕ → ℤ) (g : ℕ → ℕ) → ((i : ℕ) → i < 8 → h i ≡ pos (g i)) → values_from 0 8 h ≡ database_of g
read_back h g e = λ t.
    e 0 (omega arith) t ∷ e 1 (omega arith) t ∷ e 2 (omega arith) t ∷ e 3 (omega arith) t ∷
    e 4 (omega arith) t ∷ e 5 (omega arith) t ∷ e 6 (omega arith) t ∷ e 7 (omega arith) t ∷ []

module _ (all : List Addition) (f : ℕ → ℕ) (n : ℕ) where
  start : State
  start = record { database = values_of (database_of f); temps = λ t. pos 0 }

  -- read(ci) + n
  new_value : ℕ → ℤ
  new_value p = (pos 0 +ℤ values_of (database_of f) p) +ℤ pos n

  is_in : ℕ → Bool
  is_in p = int_le (pos 0) (new_value p) && int_le (new_value p) (pos 1000000)

  outcome_if : ℕ → Bool → Outcome
  unfolding start new_value
  outcome_if p b = record { prints = pos n ∷ []; database = database_like (database_of f) (cond b (set_object start p (new_value p)) start).database }

  abbrev Gives : ℕ → Type 0
  Gives p = outcome_at (load_of all) (transaction_named (load_of all) (transaction_name p)) (pos n ∷ []) (database_of f) ≡ outcome_if p (is_in p)

  gives : (p : ℕ) → p < 8 → Gives p
  unfolding meaning_definitions definitions start new_value is_in outcome_if
  gives = by_eight Gives refl refl refl refl refl refl refl refl

  value_is : (p : ℕ) → p < 8 → new_value p ≡ pos (f p + n)
  unfolding new_value
  value_is p l =
      let e : 0 + f p + n ≡ f p + n = omega arith in
      ap (λ v. (pos 0 +ℤ v) +ℤ pos n) (value_at f p l) ∙ ap pos e

  within : (p : ℕ) → p < 8 → f p + n ≤ 1000000 → is_in p ≡ true
  unfolding is_in
  within p l most =
      let m : ℕ = f p + n in
      let low : int_le (pos 0) (pos m) ≡ true = grind (arith, nat_tests) in
      let high : int_le (pos m) (pos 1000000) ≡ true = grind (arith, nat_tests) in
      ap (λ v. int_le (pos 0) v && int_le v (pos 1000000)) (value_is p l) ∙ (λ t. low t && high t)

  abbrev more_at : ℕ → ℕ → ℕ
  more_at p i = f i + cond (p == i) n 0

  changed_at : (p i : ℕ) → p < 8 → i < 8 → (b : Bool) → (p == i) ≡ b → cond b (new_value p) (values_of (database_of f) i) ≡ pos (f i + cond b n 0)
  changed_at p i l m true q =
      let is : p ≡ i = grind (arith, nat_tests) in
      value_is p l ∙ ap (λ j. pos (f j + n)) is
  changed_at p i l m false q =
      let e : f i ≡ f i + 0 = omega arith in
      value_at f i m ∙ ap pos e

  added : (p : ℕ) → p < 8 → database_like (database_of f) (changed (values_of (database_of f)) p (new_value p)) ≡ database_of (more_at p)
  unfolding meaning_definitions
  added p l = read_back (changed (values_of (database_of f)) p (new_value p)) (more_at p) (λ i m. changed_at p i l m (p == i) refl)

  pub adds : (p : ℕ) → p < 8 → f p + n ≤ 1000000
      → outcome_at (load_of all) (transaction_named (load_of all) (transaction_name p)) (pos n ∷ []) (database_of f) ≡ record { prints = pos n ∷ []; database = database_of (more_at p) }
  unfolding meaning_definitions start outcome_if
  adds p l most =
      gives p l ∙ ap (outcome_if p) (within p l most) ∙ ap (λ (d : List ℤ). record { prints = pos n ∷ []; database = d }) (added p l)
