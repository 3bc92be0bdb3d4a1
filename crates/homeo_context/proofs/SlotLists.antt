-- The slots of a relation that are left in a loop over them.
use Rattle.std.proofs.Common.{◌≡◌, ℕ, zero, suc, ◌+◌, ◌*◌, ◌-◌, ◌<◌, ◌≤◌, Bool, true, false, cond, ℤ, pos, ◌<ℤ◌, List, [], ◌∷◌, map, length, Some, None, refl, sym, ap, ◌∙◌, arith}
use Rattle.std.specs.Ordering.{int_eq}
use Rattle.std.proofs.lemmas.Int.{ints}
use Rattle.std.proofs.lemmas.List.{length-map}
use Rattle.homeo_context.specs.declared.slots.Slot as code
use Rattle.homeo_context.specs.declared.slots.Slots.{Slots}
use Rattle.homeo_meaning.specs.Key.{definitions}
use Rattle.homeo_meaning.specs.Schema.{Declared, declared_range}
use Rattle.homeo_meaning.specs.Context.{Slot, slots_from, first_where, slot_at}
use Rattle.homeo_context.specs.Slots.{plain_slot, slots_of}

-- the slot of a number
abbrev pub slot_of : Slots → ℕ → Slot
slot_of t i = record { number = i; used = t.first + i * (1 + length t.fields.now); fields = map declared_range t.fields.now }

-- the slots from a number on
abbrev pub left : Slots → ℕ → List Slot
left t i = slots_from i (t.first + i * (1 + length t.fields.now)) (map declared_range t.fields.now) (t.count - i)

pub slot_is : (t : Slots) (i : ℕ) (s : code.Slot) → s.number ≡ i → s.used ≡ t.first + i * (1 + length t.fields.now) → s.fields.now ≡ t.fields.now → plain_slot s ≡ slot_of t i
unfolding definitions
slot_is t i s n u f = λ j. record { number = n j; used = u j; fields = map declared_range (f j) }

slots_more : (k first n m : ℕ) (ds : List Declared) → n ≡ suc m → slots_from k first ds n ≡ record { number = k; used = first; fields = ds } ∷ slots_from (suc k) (first + (1 + length ds)) ds m
unfolding definitions
slots_more k first n m ds e = ap (slots_from k first ds) e

next_first : (first i w : ℕ) → first + i * (1 + w) + (1 + w) ≡ first + (i + 1) * (1 + w)
next_first first i w = omega arith

pub left_next : (t : Slots) (i : ℕ) → i < t.count → left t i ≡ slot_of t i ∷ left t (i + 1)
unfolding definitions
left_next t i h =
    let ds : List Declared = map declared_range t.fields.now in
    let first : ℕ = t.first + i * (1 + length t.fields.now) in
    let width : length ds ≡ length t.fields.now = length-map t.fields.now declared_range in
    let count : t.count - i ≡ suc (t.count - (i + 1)) = omega arith in
    let at : first + (1 + length ds) ≡ t.first + (i + 1) * (1 + length t.fields.now) = ap (λ w. first + (1 + w)) width ∙ next_first t.first i (length t.fields.now) in
    let number : suc i ≡ i + 1 = omega arith in
    slots_more i first (t.count - i) (t.count - (i + 1)) ds count
    ∙ (λ j. slot_of t i ∷ slots_from (number j) (at j) ds (t.count - (i + 1)))

pub left_all : (t : Slots) → left t 0 ≡ slots_of t
unfolding definitions
left_all t =
    let at : t.first + 0 * (1 + length t.fields.now) ≡ t.first = omega arith in
    let count : t.count - 0 ≡ t.count = omega arith in
    λ j. slots_from 0 (at j) (map declared_range t.fields.now) (count j)

pub left_none : (t : Slots) (i : ℕ) → t.count ≤ i → left t i ≡ []
unfolding definitions
left_none t i h =
    let count : t.count - i ≡ 0 = omega arith in
    ap (slots_from i (t.first + i * (1 + length t.fields.now)) (map declared_range t.fields.now)) count

-- ---- the slot of a number
first_here : (p : Slot → Bool) (slot : Slot) (more : List Slot) → first_where p (slot ∷ more) ≡ cond (p slot) (Some slot) (first_where p more)
unfolding definitions
first_here p slot more = refl

at_number : (j k first n : ℕ) (ds : List Declared) → k ≤ j → j < k + n → slot_at (pos j) (slots_from k first ds n) ≡ Some (record { number = j; used = first + (j - k) * (1 + length ds); fields = ds })
unfolding definitions
at_number j k first zero ds h l = absurd (omega arith)
at_number j k first (suc n) ds h l = by_case (int_eq (pos j) (pos k)) refl (at_number j (suc k) (first + (1 + length ds)) n ds)
  where
    by_case : (b : Bool) → int_eq (pos j) (pos k) ≡ b → (suc k ≤ j → j < suc k + n → slot_at (pos j) (slots_from (suc k) (first + (1 + length ds)) ds n) ≡ Some (record { number = j; used = first + (1 + length ds) + (j - suc k) * (1 + length ds); fields = ds })) → cond b (Some (record { number = k; used = first; fields = ds })) (slot_at (pos j) (slots_from (suc k) (first + (1 + length ds)) ds n)) ≡ Some (record { number = j; used = first + (j - k) * (1 + length ds); fields = ds })
    by_case true e rest =
        let same : k ≡ j = grind (arith, ints) in
        let none : j - k ≡ 0 = omega arith in
        let at : first ≡ first + (j - k) * (1 + length ds) = sym (ap (λ m. first + m * (1 + length ds)) none ∙ omega arith) in
        λ i. Some (record { number = same i; used = at i; fields = ds })
    by_case false e rest =
        let other : suc k ≤ j = grind (arith, ints) in
        let one_more : j - k ≡ suc (j - suc k) = omega arith in
        let at : first + (1 + length ds) + (j - suc k) * (1 + length ds) ≡ first + (j - k) * (1 + length ds) = omega arith ∙ sym (ap (λ m. first + m * (1 + length ds)) one_more) in
        rest other (omega arith) ∙ (λ i. Some (record { number = j; used = at i; fields = ds }))

absent : (v : ℤ) (k first n : ℕ) (ds : List Declared) → ((j : ℕ) → j < k + n → int_eq v (pos j) ≡ false) → slot_at v (slots_from k first ds n) ≡ None
unfolding definitions
absent v k first zero ds h = refl
absent v k first (suc n) ds h =
    ap (λ b. cond b (Some (record { number = k; used = first; fields = ds })) (slot_at v (slots_from (suc k) (first + (1 + length ds)) ds n))) (h k (omega arith))
    ∙ absent v (suc k) (first + (1 + length ds)) n ds (λ j l. h j (omega arith))

pub at_here : (t : Slots) (v : ℤ) (j : ℕ) → v ≡ pos j → j < t.count → slot_at v (slots_of t) ≡ Some (slot_of t j)
unfolding definitions
at_here t v j e h =
    let ds : List Declared = map declared_range t.fields.now in
    let width : length ds ≡ length t.fields.now = length-map t.fields.now declared_range in
    let none : j - 0 ≡ j = omega arith in
    ap (λ v. slot_at v (slots_of t)) e ∙ at_number j 0 t.first t.count ds (omega arith) (omega arith)
    ∙ (λ i. Some (record { number = j; used = t.first + none i * (1 + width i); fields = ds }))

pub at_past : (t : Slots) (v : ℤ) (j : ℕ) → v ≡ pos j → t.count ≤ j → slot_at v (slots_of t) ≡ None
unfolding definitions
at_past t v j e h = absent v 0 t.first t.count (map declared_range t.fields.now) (λ i l. grind (arith, ints))

pub at_below : (t : Slots) (v : ℤ) → v <ℤ pos 0 → slot_at v (slots_of t) ≡ None
unfolding definitions
at_below t v h = absent v 0 t.first t.count (map declared_range t.fields.now) (λ i l. grind (arith, ints))

-- ---- the first slot that passes
pub first_step : (t : Slots) (i : ℕ) (p : Slot → Bool) → i < t.count → first_where p (left t i) ≡ cond (p (slot_of t i)) (Some (slot_of t i)) (first_where p (left t (i + 1)))
first_step t i p h = ap (first_where p) (left_next t i h) ∙ first_here p (slot_of t i) (left t (i + 1))

pub first_none : (t : Slots) (i : ℕ) (p : Slot → Bool) → t.count ≤ i → first_where p (left t i) ≡ None
unfolding definitions
first_none t i p h = ap (first_where p) (left_none t i h)
