-- Databases as lists, and as functions from the numbers of objects.
use Rattle.homeo_meaning.specs.Key.{definitions as meaning_definitions}
use Rattle.std.proofs.Common.{◌≡◌, ℕ, zero, suc, ◌+◌, ◌<◌, ◌≤◌, nat_lt, Bool, true, false, List, [], ◌∷◌, length, get_or, ℤ, pos, refl, sym, ap, ◌∙◌, subst, arith}
use mathlib.Core.Path.{fun_ext}
use Rattle.std.proofs.lemmas.Bool.Decides.{nat_tests}
use Rattle.std.proofs.lemmas.Int.{ints}
use Rattle.homeo_meaning.specs.Bounds.{Bounds, IsIn, bounds_at, all_bounds, AllWithin, IsWithin}
use Rattle.homeo_meaning.specs.Schema.{Schema}
use Rattle.homeo_meaning.specs.Serial.{values_of, values_from, database_like}
use Rattle.homeo_meaning.proofs.Within.{length_in}

-- ---- the values of a list
value_from : (k n : ℕ) (f : ℕ → ℤ) (i : ℕ) → i < n → get_or (values_from k n f) i (pos 0) ≡ f (k + i)
unfolding meaning_definitions
value_from k zero f i lt = absurd (omega (arith, lt))
value_from k (suc n) f zero lt = ap f (omega arith)
value_from k (suc n) f (suc i) lt = value_from (suc k) n f i (omega (arith, lt)) ∙ ap f (omega arith)

value_past : (k n : ℕ) (f : ℕ → ℤ) (i : ℕ) → n ≤ i → get_or (values_from k n f) i (pos 0) ≡ pos 0
unfolding meaning_definitions
value_past k zero f i le = refl
value_past k (suc n) f zero le = absurd (omega (arith, le))
value_past k (suc n) f (suc i) le = value_past (suc k) n f i (omega (arith, le))

no_bounds_past : (bs : List Bounds) (n : ℕ) → length bs ≤ n → bounds_at bs n ≡ record { lo = pos 0; hi = pos 0 }
unfolding meaning_definitions
no_bounds_past [] n le = refl
no_bounds_past (b ∷ bs) zero le = absurd (omega arith)
no_bounds_past (b ∷ bs) (suc n) le = no_bounds_past bs n (omega arith)

-- a value past the last object is 0
zero_past : (x : Schema) (f : ℕ → ℤ) (n : ℕ) → AllWithin x f → length (all_bounds x) ≤ n → f n ≡ pos 0
unfolding meaning_definitions
zero_past x f n all le =
    let here : IsIn (record { lo = pos 0; hi = pos 0 }) (f n) =
    subst (λ b. IsIn b (f n)) (no_bounds_past (all_bounds x) n le) (all n) in
    omega (arith, ints, here.0, here.1)

-- as many values as a database within bounds has are all of them
pub values_like : (x : Schema) (db : List ℤ) (f : ℕ → ℤ) → IsWithin x db → AllWithin x f → values_of (database_like db f) ≡ f
unfolding meaning_definitions
values_like x db f h all = fun_ext (λ n. at n (nat_lt n (length db)) refl)
  where
    at : (n : ℕ) (v : Bool) → nat_lt n (length db) ≡ v → get_or (values_from 0 (length db) f) n (pos 0) ≡ f n
    at n true q = value_from 0 (length db) f n (grind (arith, nat_tests)) ∙ ap f (omega arith)
    at n false q =
        let le : length db ≤ n = grind (arith, nat_tests) in
        value_past 0 (length db) f n le ∙ sym (zero_past x f n all (subst (λ m. m ≤ n) (length_in (all_bounds x) db h) le))

-- ---- a list of its own values
values_list : (xs : List ℤ) (k : ℕ) (f : ℕ → ℤ) → ((i : ℕ) → f (k + i) ≡ get_or xs i (pos 0)) → values_from k (length xs) f ≡ xs
unfolding meaning_definitions
values_list [] k f h = refl
values_list (x ∷ xs) k f h =
    let first : k ≡ k + 0 = omega arith in
    let next : (j : ℕ) → suc k + j ≡ k + suc j = λ j. omega arith in
    (λ i. (ap f first ∙ h 0) i ∷ values_list xs (suc k) f (λ j. ap f (next j) ∙ h (suc j)) i)

-- a list with these values, as long as another, is the list of them
pub like_itself : (base xs : List ℤ) (f : ℕ → ℤ) → length xs ≡ length base → values_of xs ≡ f → xs ≡ database_like base f
unfolding meaning_definitions
like_itself base xs f e p =
    let same : (i : ℕ) → 0 + i ≡ i = λ i. omega arith in
    sym (values_list xs 0 (values_of xs) (λ i. ap (values_of xs) (same i)))
    ∙ (λ i. values_from 0 (e i) (p i))
