-- The slots of a relation, one after another.
use Rattle.std.proofs.Common.{◌≡◌, ℕ, suc, ◌+◌, ◌-◌, ◌*◌, ◌<◌, ◌≤◌, ◌∷◌, ℤ, pos, negsuc, Option, Some, None, Bool, true, false, nat_lt, map, length, refl, sym, ap, ◌∙◌, subst, arith}
use Rattle.std.specs.Prelude.{option_map}
use Rattle.std.proofs.lemmas.Bool.Decides.{nat_tests}
use Rattle.std.proofs.lemmas.Int.{ints}
use Rattle.std.proofs.lemmas.List.{length-map}
use Rattle.homeo_meaning.specs.Schema.{declared_range}
use Rattle.homeo_meaning.specs.Context.{Slot, slot_at}
use Rattle.homeo_context.specs.Slots.{plain_slot, slots_of, IsNumbered}
use Rattle.homeo_context.specs.declared.slots.Slot as code
use Rattle.homeo_context.specs.declared.slots.Slots.{Slots}
use Rattle.homeo_context.proofs.SlotLists.{slot_of, slot_is, left, left_next, left_all, at_here, at_past, at_below}
use Rattle.homeo_desugar.specs.inner.Numbers.{IsLow}

-- ---- from the last slot backwards
pub one_more : (t : Slots) (number : ℕ) → 0 < number → number ≤ t.count → left t (number - 1) ≡ slot_of t (number - 1) ∷ left t number
one_more t number h k =
    let next : number - 1 + 1 ≡ number = omega arith in
    left_next t (number - 1) (omega arith) ∙ ap (λ n. slot_of t (number - 1) ∷ left t n) next

pub all_after : (t : Slots) (number : ℕ) → number ≤ 0 → left t number ≡ slots_of t
all_after t number h =
    let first : number ≡ 0 = omega arith in
    ap (left t) first ∙ left_all t

-- ---- numbers of an L form
-- the slot of a number is not behind the last
slot_end : (first count number n : ℕ) → number < count → first + number * (1 + n) + 1 + n ≤ first + count * (1 + n)
slot_end first count number n h =
    let more : suc number * (1 + n) ≤ count * (1 + n) = times_less (suc number) count (1 + n) h in
    omega arith
  where
    times_less : (a b w : ℕ) → a ≤ b → a * w ≤ b * w
    times_less a b w h = grind arith

number_less : (first count number n : ℕ) → number < count → number < first + count * (1 + n)
number_less first count number n h =
    let k : count ≤ count * (1 + n) = wider count n in
    omega arith
  where
    wider : (a n : ℕ) → a ≤ a * (1 + n)
    wider a n = grind arith

slot_low : (t : Slots) (number : ℕ) → number < t.count → IsNumbered t → IsLow (slot_of t number)
slot_low t number h numbered =
    let k = slot_end t.first t.count number (length t.fields.now) h in
    let n = number_less t.first t.count number (length t.fields.now) h in
    let m : length (map declared_range t.fields.now) ≡ length t.fields.now = length-map t.fields.now declared_range in
    record { number = omega (arith, n, numbered); objects = omega (arith, k, m, numbered) }

pub slot_is_low : (t : Slots) (number : ℕ) (s : code.Slot) → number < t.count → IsNumbered t → s.number ≡ number → s.used ≡ t.first + number * (1 + length t.fields.now) → s.fields.now ≡ t.fields.now → IsLow (plain_slot s)
slot_is_low t number s h numbered n u f = subst IsLow (sym (slot_is t number s n u f)) (slot_low t number h numbered)

-- ---- what an index names is one of the slots
pub record IsOne (t : Slots) (s : code.Slot) : Type 0 where
  pub low : IsLow (plain_slot s)
  pub fields : length s.fields.now ≡ length t.fields.now

no_slot : {A B : Type 0} (x : A) → None ≡ Some x → B
no_slot x e = let no : ⊥ = cc in absurd no

that_slot : (x y : Slot) → Some x ≡ Some y → y ≡ x
that_slot x y e = cc

same_fields : (t : Slots) (number : ℕ) (s : code.Slot) → plain_slot s ≡ slot_of t number → length s.fields.now ≡ length t.fields.now
same_fields t number s e =
    sym (length-map s.fields.now declared_range) ∙ ap (λ (x : Slot). length x.fields) e ∙ length-map t.fields.now declared_range

found_one : (t : Slots) (v : ℤ) (s : code.Slot) → IsNumbered t → slot_at v (slots_of t) ≡ Some (plain_slot s) → IsOne t s
found_one t (negsuc n) s numbered e = no_slot (plain_slot s) (sym (at_below t (negsuc n) (omega (arith, ints))) ∙ e)
found_one t (pos n) s numbered e = by_place (nat_lt n t.count) refl
  where
    by_place : (b : Bool) → nat_lt n t.count ≡ b → IsOne t s
    by_place true h =
        let within : n < t.count = grind (arith, nat_tests) in
        let is : plain_slot s ≡ slot_of t n = that_slot (slot_of t n) (plain_slot s) (sym (at_here t (pos n) n refl within) ∙ e) in
        record { low = subst IsLow (sym is) (slot_low t n within numbered); fields = same_fields t n s is }
    by_place false h =
        let past : t.count ≤ n = grind (arith, nat_tests) in
        no_slot (plain_slot s) (sym (at_past t (pos n) n refl past) ∙ e)

pub at_one : (t : Slots) (v : ℤ) (found : Option code.Slot) (s : code.Slot) → IsNumbered t → option_map plain_slot found ≡ slot_at v (slots_of t) → found ≡ Some s → IsOne t s
at_one t v found s numbered e is = found_one t v s numbered (sym e ∙ ap (option_map plain_slot) is)
