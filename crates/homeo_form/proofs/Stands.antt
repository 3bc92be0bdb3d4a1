-- What a map of places gives for each location.
use Rattle.std.proofs.Common.{◌≡◌, ◌==◌, ◌⊎◌, inl, inr, ℕ, [], ◌∷◌, Bool, true, false, cond, Option, Some, None, ℤ, pos, negsuc, ◌+ℤ◌, ◌*ℤ◌, refl, sym, ap, ◌∙◌, subst, arith}
use Rattle.std.proofs.lemmas.Int.{ints}
use Rattle.std.proofs.Math.IntN.{+ℤ_idl, +ℤ_idr}
use Rattle.std.specs.HashMap.{get, get_by}
use Rattle.std.specs.Map.{lookup}
use Rattle.std.specs.Option.{unwrap_or}
use Rattle.homeo_syntax.specs.declared.low.Temp.{Temp}
use Rattle.homeo_meaning.specs.Key.{definitions as meaning_definitions}
use Rattle.homeo_meaning.specs.LowMeaning.{Location, TempAt, BaseAt, DeltaAt, same_location, put}
use Rattle.homeo_meaning.specs.Serial.{values_of}
use Rattle.homeo_meaning.specs.Small.{IsSmall}
use Rattle.homeo_plan.specs.FormSizes.{Numbers}
use Rattle.homeo_plan.specs.Limit.{form_limit}
use Rattle.homeo_plan.specs.Key.{definitions as plan_definitions}
use Rattle.homeo_plan.specs.Linear.{Linear, add_term, constant_form, add_forms, scale_form, base_forms}
use Rattle.homeo_follow.specs.Key.{definitions as follow_definitions}
use Rattle.homeo_follow.specs.Follow.{object_forms}
use Rattle.homeo_split.specs.contracts.places.PlacePartialEq.TheImpl.{ghosts}
use Rattle.homeo_split.specs.declared.places.Place.{Place}
use Rattle.homeo_split.specs.declared.places.Place.TheVariants.{Named, Fresh, Base, Delta}
use Rattle.homeo_form.specs.Key.{definitions}
use Rattle.homeo_split.specs.Places.{plain_place}
use Rattle.homeo_split.proofs.SamePlaces.{is_at, at_each_place, same-places}
use Rattle.homeo_form.specs.Objects.{form_in}
use Rattle.homeo_form.specs.Standing.{first_forms, set_at, forms_of}
use Rattle.homeo_form.specs.declared.objects.ObjectForms.{ObjectForms}
use Rattle.homeo_form.specs.declared.standing.Standing.{Standing}
use Rattle.homeo_form.specs.inner.Order.{IsInOrder}
use Rattle.homeo_form.specs.inner.Terms.{term_form, beside}

choice : (b : Bool) (v d : Linear) (o : Option Linear) → unwrap_or (cond b (Some v) o) d ≡ cond b v (unwrap_or o d)
choice true v d o = refl
choice false v d o = refl

-- not an object
abbrev pub IsOther : Place → Type 0
IsOther p = ((n : ℕ) × (p ≡ Named n)) ⊎ (((n : ℕ) × (p ≡ Fresh n)) ⊎ ((x : ℕ) × (j : ℕ) × (p ≡ Delta x j)))

at_other : (P : Place → Type 0) → ((n : ℕ) → P (Named n)) → ((n : ℕ) → P (Fresh n)) → ((x j : ℕ) → P (Delta x j)) → (p : Place) → IsOther p → P p
at_other P named fresh delta p (inl (n, e)) = subst P (sym e) (named n)
at_other P named fresh delta p (inr (inl (n, e))) = subst P (sym e) (fresh n)
at_other P named fresh delta p (inr (inr (x, j, e))) = subst P (sym e) (delta x j)

same_test : (p : Place) → ghosts.eq p ≡ is_at (plain_place p)
same_test p = λ i q. same-places p q i

-- ---- what was set at a place
pub set_other :
    (s : Standing) (p : Place) (o : Option Linear) → IsOther p → o ≡ get ghosts.eq s.others p →
    unwrap_or o (first_forms s.are_whole (values_of s.base.now) (plain_place p)) ≡ forms_of s (plain_place p)
unfolding forms_of
set_other s p o k h =
    ap (λ v. unwrap_or v (first_forms s.are_whole (values_of s.base.now) (plain_place p)))
    (h ∙ ap (λ t. get_by t s.others) (same_test p) ∙ at_other (λ q. get_by (is_at (plain_place q)) s.others ≡ set_at s (plain_place q)) (λ n. refl) (λ n. refl) (λ x j. refl) p k)

pub set_object :
    (s : Standing) (p : Place) (x : ℕ) (o : Option Linear) → p ≡ Base x → o ≡ form_in s.objects x →
    unwrap_or o (first_forms s.are_whole (values_of s.base.now) (plain_place p)) ≡ forms_of s (plain_place p)
unfolding forms_of
set_object s p x o e h =
    ap (λ v. unwrap_or v (first_forms s.are_whole (values_of s.base.now) (plain_place p))) (h ∙ sym (ap (λ q. set_at s (plain_place q)) e))

-- ---- where nothing is set
pub none_set :
    (s : Standing) → ((x : ℕ) → form_in s.objects x ≡ None) → s.others.entries ≡ [] → forms_of s ≡ first_forms s.are_whole (values_of s.base.now)
unfolding forms_of
none_set s h e = λ i l. at l i
  where
    at : (l : Location) → forms_of s l ≡ first_forms s.are_whole (values_of s.base.now) l
    at (TempAt t) = ap (λ es. unwrap_or (lookup (is_at (TempAt t)) es) (first_forms s.are_whole (values_of s.base.now) (TempAt t))) e
    at (BaseAt x) = ap (λ o. unwrap_or o (first_forms s.are_whole (values_of s.base.now) (BaseAt x))) (h x)
    at (DeltaAt x j) = ap (λ es. unwrap_or (lookup (is_at (DeltaAt x j)) es) (first_forms s.are_whole (values_of s.base.now) (DeltaAt x j))) e

-- ---- a form that is set
pub put_object :
    (s : Standing) (o : ObjectForms) (p : Place) (x : ℕ) (a : Linear) → p ≡ Base x → ((y : ℕ) → form_in o y ≡ cond (x == y) (Some a) (form_in s.objects y)) →
    forms_of (record { base = s.base; are_whole = s.are_whole; objects = o; others = s.others }) ≡ put (forms_of s) (plain_place p) a
unfolding forms_of meaning_definitions
put_object s o p x a e h = (λ i l. at l i) ∙ sym (ap (λ q. put (forms_of s) (plain_place q) a) e)
  where
    t : Standing
    t = record { base = s.base; are_whole = s.are_whole; objects = o; others = s.others }

    at : (l : Location) → forms_of t l ≡ put (forms_of s) (BaseAt x) a l
    at (TempAt m) = refl
    at (BaseAt y) =
        ap (λ v. unwrap_or v (first_forms s.are_whole (values_of s.base.now) (BaseAt y))) (h y)
        ∙ choice (x == y) a (first_forms s.are_whole (values_of s.base.now) (BaseAt y)) (form_in s.objects y)
    at (DeltaAt y j) = refl

pub put_other :
    (s t : Standing) (p : Place) (a : Linear) → t.base ≡ s.base → t.are_whole ≡ s.are_whole → t.objects ≡ s.objects → IsOther p →
    ((q : Place) → get ghosts.eq t.others q ≡ cond (ghosts.eq p q) (Some a) (get ghosts.eq s.others q)) → forms_of t ≡ put (forms_of s) (plain_place p) a
unfolding forms_of meaning_definitions
put_other s t p a eb ew eo k h = λ i l. at_each_place P each l i
  where
    P : Location → Type 0
    P l = forms_of t l ≡ put (forms_of s) (plain_place p) a l

    tests : ghosts.eq ≡ (λ a b. is_at (plain_place a) b)
    tests = λ i a b. same-places a b i

    got : (q : Place) → get_by (is_at (plain_place q)) t.others ≡ cond (is_at (plain_place p) q) (Some a) (get_by (is_at (plain_place q)) s.others)
    got = subst (λ (e : Place → Place → Bool). (q : Place) → get e t.others q ≡ cond (e p q) (Some a) (get e s.others q)) tests h

    first : (q : Place) → first_forms t.are_whole (values_of t.base.now) (plain_place q) ≡ first_forms s.are_whole (values_of s.base.now) (plain_place q)
    first q = λ i. first_forms (ew i) (values_of (eb i).now) (plain_place q)

    mapped :
        (q : Place) → unwrap_or (get_by (is_at (plain_place q)) t.others) (first_forms t.are_whole (values_of t.base.now) (plain_place q))
        ≡ cond (is_at (plain_place p) q) a (unwrap_or (get_by (is_at (plain_place q)) s.others) (first_forms s.are_whole (values_of s.base.now) (plain_place q)))
    mapped q =
        (λ i. unwrap_or (got q i) (first q i))
        ∙ choice (is_at (plain_place p) q) a (first_forms s.are_whole (values_of s.base.now) (plain_place q)) (get_by (is_at (plain_place q)) s.others)

    each : (q : Place) → P (plain_place q)
    each (Named n) = mapped (Named n)
    each (Fresh n) = mapped (Fresh n)
    each (Delta x j) = mapped (Delta x j)
    each (Base y) =
        (λ i. unwrap_or (form_in (eo i) y) (first (Base y) i))
        ∙ sym (ap (λ b. cond b a (forms_of s (BaseAt y))) (at_other (λ q. same_location (plain_place q) (BaseAt y) ≡ false) (λ n. refl) (λ n. refl) (λ x j. refl) p k))

-- ---- constants as a round begins
pub base_constant : (w : Bool) (b : ℕ → ℤ) (p : Place) (x : ℕ) → p ≡ Base x → b x ≡ (first_forms w b (plain_place p)).constant
unfolding plan_definitions follow_definitions
base_constant true b p x e = sym (ap (λ q. (object_forms b (plain_place q)).constant) e)
base_constant false b p x e = sym (ap (λ q. (base_forms b (plain_place q)).constant) e)

pub other_constant : (w : Bool) (b : ℕ → ℤ) (p : Place) → IsOther p → pos 0 ≡ (first_forms w b (plain_place p)).constant
unfolding plan_definitions follow_definitions
other_constant true b p k = at_other (λ q. pos 0 ≡ (object_forms b (plain_place q)).constant) (λ n. refl) (λ n. refl) (λ x j. refl) p k
other_constant false b p k = at_other (λ q. pos 0 ≡ (base_forms b (plain_place q)).constant) (λ n. refl) (λ n. refl) (λ x j. refl) p k

-- ---- the form of a delta as a round begins
pub base_delta :
    (b : ℕ → ℤ) (p : Place) (x j : ℕ) → p ≡ Delta x j → term_form (record { delta = record { object = x; site = j }; factor = pos 1 }) ≡ base_forms b (plain_place p)
unfolding plan_definitions definitions
base_delta b p x j e = sym (ap (λ q. base_forms b (plain_place q)) e)

pub base_negated :
    (b : ℕ → ℤ) (p : Place) (x j : ℕ) → p ≡ Delta x j →
    term_form (record { delta = record { object = x; site = j }; factor = negsuc 0 }) ≡ scale_form (negsuc 0) (base_forms b (plain_place p))
unfolding plan_definitions definitions
base_negated b p x j e = sym (ap (λ q. scale_form (negsuc 0) (base_forms b (plain_place q))) e)

-- ---- an object that is whole, put into a sum as its base and its delta
pub object_added :
    (b : ℕ → ℤ) (p : Place) (x : ℕ) (a : Linear) → p ≡ Base x →
    add_forms (term_form (record { delta = record { object = x; site = 0 }; factor = pos 1 })) (add_forms (constant_form (b x)) a) ≡ add_forms (object_forms b (plain_place p)) a
unfolding plan_definitions follow_definitions definitions
object_added b p x a e =
    (λ i. record { constant = +ℤ_idl (b x +ℤ a.constant) i; terms = add_term (record { object = x; site = 0 }) (pos 1) a.terms; mixed = a.mixed })
    ∙ sym (ap (λ q. add_forms (object_forms b (plain_place q)) a) e)

-- an object that is whole, with a number added
pub object_small :
    (b : ℕ → ℤ) (p : Place) (x : ℕ) → p ≡ Base x → Numbers (IsSmall form_limit) (object_forms b (plain_place p)) → IsSmall form_limit (b x)
unfolding follow_definitions
object_small b p x e h = (subst (λ q. Numbers (IsSmall form_limit) (object_forms b (plain_place q))) e h).constant

pub object_with :
    (b : ℕ → ℤ) (p : Place) (x : ℕ) (n m : ℤ) → p ≡ Base x → m ≡ n +ℤ b x →
    beside m (record { object = x; site = 0 }) ≡ add_forms (constant_form n) (add_forms (object_forms b (plain_place p)) (constant_form (pos 0)))
unfolding plan_definitions follow_definitions definitions
object_with b p x n m e h =
    (λ i. record { constant = (h ∙ ap (λ k. n +ℤ k) (sym (+ℤ_idr (b x)))) i; terms = record { delta = record { object = x; site = 0 }; factor = pos 1 } ∷ []; mixed = [] })
    ∙ sym (ap (λ q. add_forms (constant_form n) (add_forms (object_forms b (plain_place q)) (constant_form (pos 0)))) e)

-- ---- what stands there as a round begins, in order, and with a number behind it
each_location : (P : Location → Type 0) → ((t : Temp) → P (TempAt t)) → ((x : ℕ) → P (BaseAt x)) → ((x j : ℕ) → P (DeltaAt x j)) → (l : Location) → P l
each_location P f g h (TempAt t) = f t
each_location P f g h (BaseAt x) = g x
each_location P f g h (DeltaAt x j) = h x j

pub first_in_order : (w : Bool) (b : ℕ → ℤ) (l : Location) → IsInOrder (first_forms w b l)
unfolding plan_definitions follow_definitions definitions
first_in_order true b l = each_location (λ l. IsInOrder (object_forms b l)) (λ t. (tt, tt)) (λ x. ((tt, tt), tt)) (λ x j. (tt, tt)) l
first_in_order false b l = each_location (λ l. IsInOrder (base_forms b l)) (λ t. (tt, tt)) (λ x. (tt, tt)) (λ x j. ((tt, tt), tt)) l

behind : (n m : ℤ) → n +ℤ (m +ℤ pos 0) ≡ m +ℤ n
behind n m = omega (arith, ints)

pub first_behind :
    (w : Bool) (b : ℕ → ℤ) (l : Location) (n : ℤ) →
    add_forms (constant_form n) (add_forms (first_forms w b l) (constant_form (pos 0))) ≡ add_forms (first_forms w b l) (constant_form n)
unfolding plan_definitions follow_definitions definitions
first_behind true b l n =
    each_location (λ l. add_forms (constant_form n) (add_forms (object_forms b l) (constant_form (pos 0))) ≡ add_forms (object_forms b l) (constant_form n))
    (λ t i. record { constant = behind n (pos 0) i; terms = []; mixed = [] })
    (λ x i. record { constant = behind n (b x) i; terms = record { delta = record { object = x; site = 0 }; factor = pos 1 } ∷ []; mixed = [] })
    (λ x j i. record { constant = behind n (pos 0) i; terms = []; mixed = [] }) l
first_behind false b l n =
    each_location (λ l. add_forms (constant_form n) (add_forms (base_forms b l) (constant_form (pos 0))) ≡ add_forms (base_forms b l) (constant_form n))
    (λ t i. record { constant = behind n (pos 0) i; terms = []; mixed = [] })
    (λ x i. record { constant = behind n (b x) i; terms = []; mixed = [] })
    (λ x j i. record { constant = behind n (pos 0) i; terms = record { delta = record { object = x; site = j }; factor = pos 1 } ∷ []; mixed = [] }) l

pub object_taken :
    (b : ℕ → ℤ) (p : Place) (x : ℕ) (a : Linear) → p ≡ Base x →
    add_forms (term_form (record { delta = record { object = x; site = 0 }; factor = negsuc 0 })) (add_forms (constant_form (negsuc 0 *ℤ b x)) a)
    ≡ add_forms (scale_form (negsuc 0) (object_forms b (plain_place p))) a
unfolding plan_definitions follow_definitions definitions
object_taken b p x a e =
    (λ i. record { constant = +ℤ_idl ((negsuc 0 *ℤ b x) +ℤ a.constant) i; terms = add_term (record { object = x; site = 0 }) (negsuc 0) a.terms; mixed = a.mixed })
    ∙ sym (ap (λ q. add_forms (scale_form (negsuc 0) (object_forms b (plain_place q))) a) e)
