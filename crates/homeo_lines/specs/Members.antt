-- What stands in a JSON value: texts, lists and numbers, and the members of an object.
use Rattle.std.specs.Prelude.{ℕ, suc, ◌^◌, ◌&&◌, ◌∷◌, [], ℤ, pos, neg_ℤ, List, Option, Some, None, option_map, if◌then◌else◌, nat_lt, int_le}
use Rattle.std.specs.Option.{option_and_then}
use Rattle.serde_json.specs.Data.{Data, Items, no_items, item}
use Rattle.serde_json.specs.Find.{get, as_str, as_array, as_number, as_integer, as_u64, as_i64}

-- ---- values
abbrev pub list_of : Items → List Data
list_of no_items = []
list_of (item d ds) = d ∷ list_of ds

abbrev pub list : Data → Option (List Data)
list d = option_map list_of (as_array d)

-- a whole number of 64 bits without a sign
abbrev pub whole : Data → Option ℕ
whole d = option_and_then as_u64 (as_number d)

-- a whole number of 64 bits, with a sign or without
abbrev pub integer : Data → Option ℤ
integer d = option_and_then as_integer (as_number d)

abbrev pub below : ℕ → ℕ → Option ℕ
below end n = if nat_lt n end then Some n else None

-- a number of the language's databases is within 10,000,000,000,000 of 0
abbrev pub kept : ℤ → Option ℤ
kept n = if int_le (neg_ℤ (pos 10000000000000)) n && int_le n (pos 10000000000000) then Some n else None

abbrev pub value_of : Data → Option ℤ
value_of d = option_and_then kept (option_and_then as_i64 (as_number d))

-- a number that a call printed
abbrev pub printed : Data → Option ℤ
printed d = option_and_then as_i64 (as_number d)

-- ---- members
abbrev pub text_at : List ℕ → Data → Option (List ℕ)
text_at key d = option_and_then as_str (get key d)

abbrev pub list_at : List ℕ → Data → Option (List Data)
list_at key d = option_and_then list (get key d)

-- a number that all JSON readers have: from 0 to below 2^53
abbrev pub number_at : List ℕ → Data → Option ℕ
number_at key d = option_and_then (below (2 ^ 53)) (option_and_then whole (get key d))

-- the number of a site or a client
abbrev pub small_at : List ℕ → Data → Option ℕ
small_at key d = option_and_then (below (2 ^ 32)) (number_at key d)

-- ---- lists
-- each item by its place, from k on, where each has a meaning
abbrev pub each_from : {A B : Type 0} → (ℕ → A → Option B) → ℕ → List A → Option (List B)
each_from f k [] = Some []
each_from f k (x ∷ xs) = option_and_then (λ y. option_map (λ ys. y ∷ ys) (each_from f (suc k) xs)) (f k x)

abbrev pub each : {A B : Type 0} → (A → Option B) → List A → Option (List B)
each f xs = each_from (λ k. f) 0 xs
