-- Databases within bounds, as lists and by the numbers of their objects.
use Rattle.std.proofs.Common.{◌≡◌, ℕ, zero, suc, ◌+◌, ℤ, pos, List, [], ◌∷◌, ◌++◌, length, get_or, refl, sym, ap, subst, arith}
use Rattle.std.proofs.lemmas.Int.{ints}
use Rattle.homeo_meaning.specs.Key.{definitions}
use Rattle.homeo_meaning.specs.Schema.{Schema}
use Rattle.homeo_meaning.specs.Bounds.{Bounds, all_bounds, IsIn, AreIn, IsWithin, bounds_at, AllWithin}
use Rattle.homeo_meaning.specs.Serial.{values_of, values_from, database_like}

pub length_in : (bs : List Bounds) (db : List ℤ) → AreIn bs db → length db ≡ length bs
length_in [] [] h = refl
length_in [] (v ∷ db) h = absurd h
length_in (b ∷ bs) [] h = absurd h
length_in (b ∷ bs) (v ∷ db) h = ap suc (length_in bs db h.1)

each_in : (bs : List Bounds) (db : List ℤ) → AreIn bs db → (n : ℕ) → IsIn (bounds_at bs n) (get_or db n (pos 0))
unfolding definitions
each_in [] [] h n = (omega (arith, ints), omega (arith, ints))
each_in [] (v ∷ db) h n = absurd h
each_in (b ∷ bs) [] h n = absurd h
each_in (b ∷ bs) (v ∷ db) h zero = h.0
each_in (b ∷ bs) (v ∷ db) h (suc n) = each_in bs db h.1 n

pub all_within : (x : Schema) (db : List ℤ) → IsWithin x db → AllWithin x (values_of db)
unfolding definitions
all_within x db h = each_in (all_bounds x) db h

from_each : (bs : List Bounds) (k : ℕ) (f : ℕ → ℤ) → ((n : ℕ) → IsIn (bounds_at bs n) (f (k + n))) → AreIn bs (values_from k (length bs) f)
unfolding definitions
from_each [] k f h = tt
from_each (b ∷ bs) k f h =
    (subst (λ n. IsIn b (f n)) (omega arith) (h 0), from_each bs (suc k) f (λ n. subst (λ m. IsIn (bounds_at bs n) (f m)) (omega arith) (h (suc n))))

-- as many values as a database within bounds has
pub list_in : (x : Schema) (db : List ℤ) (f : ℕ → ℤ) → IsWithin x db → AllWithin x f → IsWithin x (database_like db f)
unfolding definitions
list_in x db f h all =
    subst (λ n. AreIn (all_bounds x) (values_from 0 n f)) (sym (length_in (all_bounds x) db h)) (from_each (all_bounds x) 0 f (λ n. subst (λ m. IsIn (bounds_at (all_bounds x) n) (f m)) (omega arith) (all n)))

pub are_in_both : (bs cs : List Bounds) (vs us : List ℤ) → AreIn bs vs → AreIn cs us → AreIn (bs ++ cs) (vs ++ us)
are_in_both [] cs [] us h k = k
are_in_both [] cs (v ∷ vs) us h k = absurd h
are_in_both (b ∷ bs) cs [] us h k = absurd h
are_in_both (b ∷ bs) cs (v ∷ vs) us h k = (h.0, are_in_both bs cs vs us h.1 k)
