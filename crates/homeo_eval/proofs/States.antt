-- What a change of the code's lists is as a change of the state.
use Rattle.std.proofs.Common.{◌≡◌, ℕ, ◌<◌, ◌≤◌, ◌==◌, ℤ, pos, Bool, true, false, cond, List, set, length, get_or, refl, sym, ap, ◌∙◌, arith}
use Rattle.std.proofs.lemmas.Bool.Decides.{nat_tests}
use Rattle.std.proofs.lemmas.List.{get_or_past}
use Rattle.homeo_meaning.specs.Key.{definitions}
use Rattle.homeo_meaning.specs.Context.{Spot}
use Rattle.homeo_meaning.specs.Meaning.{State, set_temp, set_object, is_within, write}
use Rattle.homeo_meaning.proofs.AbsentItems.{padded_set}

-- a state by the list of its objects and its temporaries
abbrev pub state_with : List ℤ → (ℕ → ℤ) → State
state_with db ts = record { database = λ n. get_or db n (pos 0); temps = ts }

pub state_assign : (db : List ℤ) (old new : ℕ → ℤ) (n : ℕ) (v : ℤ) → ((m : ℕ) → new m ≡ cond (n == m) v (old m)) → state_with db new ≡ set_temp (state_with db old) n v
unfolding definitions
state_assign db old new n v h = λ i. record { database = λ m. get_or db m (pos 0); temps = λ m. h m i }

pub state_set : (db : List ℤ) (ts : ℕ → ℤ) (k : ℕ) (v : ℤ) → k < length db → state_with (set db k v) ts ≡ set_object (state_with db ts) k v
unfolding definitions
state_set db ts k v h = λ i. record { database = λ m. padded_set db k v (pos 0) m h i; temps = ts }

past_case : (db : List ℤ) (p k : ℕ) (v : ℤ) (b : Bool) → (p == k) ≡ b → v ≡ pos 0 → length db ≤ p → cond b v (get_or db k (pos 0)) ≡ get_or db k (pos 0)
past_case db p k v true e z h = let same : p ≡ k = grind (arith, nat_tests) in z ∙ sym (get_or_past db k (pos 0) (omega arith))
past_case db p k v false e z h = refl

-- past the objects, 0 is set where 0 is read
pub state_past : (db : List ℤ) (ts : ℕ → ℤ) (k : ℕ) (v : ℤ) → length db ≤ k → v ≡ pos 0 → state_with db ts ≡ set_object (state_with db ts) k v
unfolding definitions
state_past db ts k v h z = sym (λ i. record { database = λ m. past_case db k m v (k == m) refl z h i; temps = ts })

-- what a test of the bounds says of a write
pub written : (s u : State) (b : Spot) (k : ℕ) (v w : ℤ) (r : Bool) → w ≡ v → r ≡ is_within b w → r ≡ true → u ≡ set_object s k w → u ≡ write s b k v
unfolding definitions
written s u b k v w r e p q h =
    let within : is_within b v ≡ true = ap (is_within b) (sym e) ∙ sym p ∙ q in
    h ∙ ap (set_object s k) e ∙ sym (ap (λ t. cond t (set_object s k v) s) within)

pub refused : (s : State) (b : Spot) (k : ℕ) (v w : ℤ) (r : Bool) → w ≡ v → r ≡ is_within b w → r ≡ false → s ≡ write s b k v
unfolding definitions
refused s b k v w r e p q =
    let within : is_within b v ≡ false = ap (is_within b) (sym e) ∙ sym p ∙ q in
    sym (ap (λ t. cond t (set_object s k v) s) within)
